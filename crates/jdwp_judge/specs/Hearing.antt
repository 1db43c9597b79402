-- What comes of the bytes of an end.
use Rattle.std.specs.Prelude.{◌≡◌, ℕ, List, ◌++◌, length, drop, map, None}
use Rattle.jdwp_judge.specs.declared.coming.Coming.{Coming}
use Rattle.jdwp_judge.specs.declared.rulings.Rulings.{Rulings}
use Rattle.jdwp_judge.specs.Coming.{IsComing}
use Rattle.jdwp_judge.specs.Standing.{Follows}
use Rattle.jdwp_judge.specs.Told.{lines_told}
use Rattle.jdwp_show.specs.declared.capture_line.Sender.{Sender}
use Rattle.jdwp_show.specs.Found.{Found, found}
use Rattle.jdwp_show.specs.Items.{Item, item_at}
use Rattle.jdwp_show.specs.Transcripts.{Tells}
use Rattle.jdwp_show.specs.declared.table.Table.{Table}
use Rattle.jdwp_show.specs.declared.transcript.Transcript.{Transcript}

-- what these bytes complete, behind those that the end sent before
abbrev pub completed_by : List ℕ → List ℕ → List Found
completed_by sent bytes = drop (length (found sent)) (found (sent ++ bytes))

-- the items behind those, in this piece
abbrev pub items_with : ℕ → Sender → List Item → List Found → List Item
items_with piece sender items things = items ++ map (item_at piece sender) things

-- what these bytes complete was heard
pub record HasHeardAll (table : Table) (piece : ℕ) (sender : Sender) (items : List Item) (sent bytes : List ℕ) (rulings : Rulings) (coming : Coming) (old new : Transcript) : Type 0 where
  pub follows : Follows table rulings (items_with piece sender items (completed_by sent bytes))
  pub added : List ℕ
  pub appended : Tells old added new
  pub told : lines_told table (items_with piece sender items (completed_by sent bytes)) ≡ lines_told table items ++ added
  pub coming_on : rulings.fault ≡ None → IsComing (sent ++ bytes) (items_with piece sender items (completed_by sent bytes)) sender coming
