-- Which texts say which data: those that `show` prints of them.
use Rattle.std.specs.Prelude.{◌≡◌, ℕ, List}
use Rattle.jdwp_wire.specs.Widths.{Widths}
use Rattle.jdwp_layout.specs.Shapes.{ItemShape}
use Rattle.jdwp_layout.specs.Meanings.{DatumMeaning}
use Rattle.jdwp_layout.specs.Grammar.{EncodesData}
use Rattle.jdwp_show.specs.DataText.{data_text}

-- The text is what is shown of these data, and these bytes encode them under the layout.
abbrev pub Says : Widths → List ItemShape → List ℕ → List DatumMeaning → List ℕ → Type 0
Says widths layout text items bytes = EncodesData widths layout items bytes × (text ≡ data_text items)
