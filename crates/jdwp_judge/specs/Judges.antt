-- What a judge has heard.
use Rattle.std.specs.Prelude.{◌≡◌, ℕ, List, ◌∷◌, ◌++◌, [], length, Option, None}
use Rattle.jdwp_judge.specs.declared.coming.Coming.{Coming}
use Rattle.jdwp_judge.specs.declared.judge.Judge.{Judge}
use Rattle.jdwp_judge.specs.Coming.{IsComing}
use Rattle.jdwp_judge.specs.Standing.{Follows}
use Rattle.jdwp_judge.specs.Told.{told_under, whole_fault_under, whole_by}
use Rattle.jdwp_show.specs.declared.capture_fault.CaptureFault.{CaptureFault}
use Rattle.jdwp_show.specs.declared.capture_line.Sender.{Sender}
use Rattle.jdwp_show.specs.declared.capture_line.Sender.TheVariants.{Debugger, Target}
use Rattle.jdwp_show.specs.declared.table.Table.{Table}
use Rattle.jdwp_show.specs.declared.table.Table.TheVariants.{Standard}
use Rattle.jdwp_show.specs.declared.transcript.Transcript.{Transcript}
use Rattle.jdwp_show.specs.Items.{items_of}
use Rattle.jdwp_show.specs.Lines.{Line, sent_by}
use Rattle.jdwp_show.specs.Sessions.{bad_or_broken}
use Rattle.jdwp_show.specs.Transcripts.{Tells}

-- what an end sent that belongs to no message yet
abbrev pub coming_of : Judge → Sender → Coming
coming_of judge Debugger = judge.debugger
coming_of judge Target = judge.target

-- The judge has heard these pieces of a session, from its beginning on, and told what can be told of them by this table.
pub record HasHeardUnder (table : Table) (judge : Judge) (pieces : List Line) : Type 0 where
  pub counted : judge.pieces ≡ length pieces
  pub follows : Follows table judge.rulings (items_of pieces)
  pub coming : judge.rulings.fault ≡ None → (sender : Sender) → IsComing (sent_by sender pieces) (items_of pieces) sender (coming_of judge sender)

-- it has heard one piece more, and told what can be told now
pub record HasHeardPieceUnder (table : Table) (judge : Judge) (pieces : List Line) (piece : Line) (old new : Transcript) : Type 0 where
  pub heard : HasHeardUnder table judge (pieces ++ piece ∷ [])
  pub added : List ℕ
  pub appended : Tells old added new
  pub told_is : told_under table (pieces ++ piece ∷ []) ≡ told_under table pieces ++ added

-- A session of these pieces has ended, or a line behind them does not read: this is the first fault, and what was not told yet was told.
pub record HasFinishedUnder (table : Table) (pieces : List Line) (bad_line : Option ℕ) (fault : Option (ℕ × CaptureFault)) (old new : Transcript) : Type 0 where
  pub fault_is : fault ≡ bad_or_broken bad_line (whole_fault_under table pieces)
  pub added : List ℕ
  pub appended : Tells old added new
  pub whole_is : whole_by table fault pieces ≡ told_under table pieces ++ added

-- ---- by the standard's table

abbrev pub HasHeard : Judge → List Line → Type 0
HasHeard judge pieces = HasHeardUnder Standard judge pieces

abbrev pub HasHeardPiece : Judge → List Line → Line → Transcript → Transcript → Type 0
HasHeardPiece judge pieces piece old new = HasHeardPieceUnder Standard judge pieces piece old new

abbrev pub HasFinished : List Line → Option ℕ → Option (ℕ × CaptureFault) → Transcript → Transcript → Type 0
HasFinished pieces bad_line fault old new = HasFinishedUnder Standard pieces bad_line fault old new
