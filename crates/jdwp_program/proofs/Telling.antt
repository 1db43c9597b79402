-- What is left of what was told.
use Rattle.std.proofs.Common.{◌≡◌, ℕ, List, [], append-nil, Option, Some, None, Result, Ok, Err, inl, inr, refl, subst, sym, arith}
use Rattle.jdwp_show.specs.declared.capture_fault.CaptureFault.{CaptureFault}
use Rattle.jdwp_show.specs.declared.table.Table.{Table}
use Rattle.jdwp_show.specs.declared.table.Table.TheVariants.{Standard}
use Rattle.jdwp_show.specs.Sessions.{first_fault, first_fault_under}
use Rattle.jdwp_program.specs.Captures.{Tells, shown_text_under, verdict_text}
use Rattle.jdwp_program.specs.Drawings.{Draws, IsDrawing}
use Rattle.jdwp_program.specs.Listening.{TellsListening, listening_line}
use Rattle.jdwp_program.specs.Outputs.{IsTextOf, LeavesListened, LeavesListening, LeavesText, LeavesTold}
use Rattle.jdwp_program.specs.Version.{version_line}
use Rattle.jdwp_program.specs.declared.captures.Told.{Told}
use Rattle.jdwp_program.specs.declared.captures.Told.TheVariants.{Faultless, Faulty, Unread}
use Rattle.jdwp_program.specs.declared.captures.TellFault.{TellFault}
use Rattle.jdwp_program.specs.declared.captures.TellFault.TheVariants.{Output, NoMemory}

-- of a capture
leaves_capture : (table : Table) (capture text : List ℕ) (fault : Option (ℕ × CaptureFault)) (old new : Option (List ℕ)) (result : Result Told TellFault)
    → first_fault_under table capture ≡ fault → IsTextOf table capture text → Tells fault text old new result → LeavesTold result old new
leaves_capture table capture text None old new (Ok Faultless) is of tells = inr (inl (table, capture, text, of, inl (rw is refl, tells.1)))
leaves_capture table capture text (Some fault) old new (Ok Faultless) is of tells = absurd cc
leaves_capture table capture text None old new (Ok Faulty) is of tells = absurd cc
leaves_capture table capture text (Some fault) old new (Ok Faulty) is of tells = inr (inl (table, capture, text, of, inl (rw is refl, tells.1)))
leaves_capture table capture text fault old new (Ok Unread) is of tells = inr (inl (table, capture, text, of, inr (refl, tells)))
leaves_capture table capture text fault old new (Err (Output error)) is of tells = inr (inl (table, capture, text, of, inr (refl, tells.1)))
leaves_capture table capture text fault old new (Err NoMemory) is of tells = inl tells

-- of a capture in words
pub leaves_shown : (table : Table) (capture : List ℕ) (old new : Option (List ℕ)) (result : Result Told TellFault)
    → Tells (first_fault_under table capture) (shown_text_under table capture) old new result → LeavesTold result old new
leaves_shown table capture old new result tells = leaves_capture table capture (shown_text_under table capture) (first_fault_under table capture) old new result refl (inl refl) tells

-- of the verdict on a capture
pub leaves_judged : (table : Table) (capture : List ℕ) (old new : Option (List ℕ)) (result : Result Told TellFault)
    → Tells (first_fault_under table capture) (verdict_text (first_fault_under table capture)) old new result → LeavesTold result old new
leaves_judged table capture old new result tells = leaves_capture table capture (verdict_text (first_fault_under table capture)) (first_fault_under table capture) old new result refl (inr (inl refl)) tells

-- of a drawing of a capture
pub leaves_drawn : (capture : List ℕ) (from count : ℕ) (text : List ℕ) (old new : Option (List ℕ)) (result : Result Told TellFault) → IsDrawing capture from count text → Tells (first_fault capture) text old new result → LeavesTold result old new
leaves_drawn capture from count text old new result is tells = leaves_capture Standard capture text (first_fault capture) old new result refl (inr (inr (refl, from, count, is))) tells

pub draws : (capture : List ℕ) (from count : ℕ) (text : List ℕ) (old new : Option (List ℕ)) (result : Result Told TellFault) → IsDrawing capture from count text → Tells (first_fault capture) text old new result → Draws capture from count old new result
draws capture from count text old new (Ok told) is tells = (text, is, tells)
draws capture from count text old new (Err (Output error)) is tells = (text, is, tells)
draws capture from count text old new (Err NoMemory) is tells = tells

-- of the program's version
pub leaves_version : (old new : Option (List ℕ)) (result : Result Told TellFault) → Tells None version_line old new result → LeavesTold result old new
leaves_version old new (Ok Faultless) tells = inr (inr (inl (inl (refl, tells.1))))
leaves_version old new (Ok Faulty) tells = absurd cc
leaves_version old new (Ok Unread) tells = inr (inr (inl (inr (refl, tells))))
leaves_version old new (Err (Output error)) tells = inr (inr (inl (inr (refl, tells.1))))
leaves_version old new (Err NoMemory) tells = inl tells

-- behind the line of a port stand no sessions
pub line_alone : (port status : ℕ) (old new : Option (List ℕ)) → LeavesText status (listening_line port) old new → LeavesListening status old new
line_alone port status old new leaves = (port, [], subst (λ text. LeavesText status text old new) (sym (append-nil (listening_line port))) leaves)

-- of the line of a port
pub leaves_listened : (port : ℕ) (old new : Option (List ℕ)) (result : Result (Unit {0}) TellFault) → TellsListening port old new result → LeavesListened result old new
leaves_listened port old new (Ok done) tells = λ status. inr (inr (inr (inl (line_alone port status old new (inl tells)))))
leaves_listened port old new (Err (Output error)) tells = inr (inr (inr (inl (line_alone port 2 old new (inr (omega arith, (tells.0, tells.2)))))))
leaves_listened port old new (Err NoMemory) tells = inl tells
