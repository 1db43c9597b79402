-- What an end is once its bytes were lent to be read: as it was.
use Rattle.std.specs.Prelude.{◌≡◌, ⊤}
use Rattle.std.specs.Borrow.{Fml, MutBor, follows_so}
use mathlib.Core.Option.{none}
use Rattle.jdwp_end.specs.Ends.{End}
use Rattle.jdwp_end.specs.contracts.end.End.{the_row}

abbrev pub EndStays : MutBor End → Fml
EndStays end = follows_so the_row the_row end.ghost_name none (λ _ _. ⊤) (λ last. last ≡ end.now)
