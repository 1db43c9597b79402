-- What is encoded is read again, as the law of layouts says.
use Rattle.std.proofs.Common.{◌≡◌, ℕ, List, Ok}
use Rattle.jdwp_wire.specs.Widths.{Widths}
use Rattle.jdwp_layout.specs.Grammar.{EncodesData}
use Rattle.jdwp_layout.specs.Meanings.{DatumMeaning}
use Rattle.jdwp_layout.specs.Reads.{data_at}
use Rattle.jdwp_layout.specs.Shapes.{ItemShape}

abbrev pub ReadsEncoded : Type 0
ReadsEncoded = (w : Widths) (items : List ItemShape) (xs : List DatumMeaning) (code : List ℕ) → EncodesData w items xs code → data_at w items code ≡ Ok xs
