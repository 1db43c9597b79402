-- Why an engine that runs a debugger by a plan ends.
use Rattle.std.specs.Prelude.{◌≡◌, ◌≢◌, ◌⊎◌, ℕ, ◌<◌, ◌+◌, true, false, List, [], ◌∷◌, ◌++◌, length, Option, Some, None, is_some, Ok, Err, slice_get}
use Rattle.std.specs.List.{list_any}
use Rattle.jdwp_wire.specs.FaultNumbers as frame
use Rattle.jdwp_wire.specs.Streams.{More, IsFront}
use Rattle.jdwp_wire.specs.Widths.{Widths}
use Rattle.jdwp_layout.specs.declared.answer.Answer.{Answer}
use Rattle.jdwp_end.specs.Ends.{front_of, is_open}
use Rattle.jdwp_action.specs.Actions.{Command}
use Rattle.jdwp_debugger.specs.declared.asking.Refused as asking
use Rattle.jdwp_debugger.specs.declared.asking.Refused.TheVariants as refusal
use Rattle.jdwp_debugger.specs.declared.faults.DebuggerFault.{DebuggerFault}
use Rattle.jdwp_debugger.specs.declared.faults.DebuggerFault.TheVariants as code
use Rattle.jdwp_debugger.specs.declared.turning.Read.{Read}
use Rattle.jdwp_debugger.specs.Asking.{refusal_of_ask}
use Rattle.jdwp_debugger.specs.Debuggers.{Asked, Debugger, has_tickets, lost_debugger, with_taken}
use Rattle.jdwp_debugger.specs.DebuggerTurns.{Told, Nothing, Hello, Parked, Sizes, Answered, Seen, TurnsAt, reports, read_meaning}
use Rattle.jdwp_mirror.specs.Messages.{Reply, Report}
use Rattle.jdwp_mirror.specs.Mirror.{ends}
use Rattle.jdwp_debugger.specs.FaultNumbers.{fault_number}
use Rattle.jdwp_debugger.specs.RefusedNumbers.{refused_number}
use Rattle.jdwp_end.specs.declared.pipes.ended.Ended.{Ended}
use Rattle.jdwp_end.specs.declared.pipes.ended.Ended.TheVariants.{Done, LostByRead, LostByWrite, Refused, NoMemory, TurnLimit}
use Rattle.jdwp_end.specs.Endings.{unflushed_end}
use Rattle.jdwp_end.specs.Story.{Story, flushed}
use Rattle.jdwp_attach.specs.declared.plans.plan_line.PlanLine.{PlanLine}
use Rattle.jdwp_attach.specs.declared.plans.plan_line.PlanLine.TheVariants as line
use Rattle.jdwp_attach.specs.declared.attached.Attached.{Attached}
use Rattle.jdwp_attach.specs.declared.attached.Attached.TheVariants as run
use Rattle.jdwp_attach.specs.OwnCounts.{AreSteps, AsksDue, Step, due_behind}
use Rattle.jdwp_attach.specs.PlanAsks.{HasPut, IsBeginning, asks, command_asked}
use Rattle.jdwp_attach.specs.PlanWaits.{Awaits, IsNextLine}
use Rattle.jdwp_attach.specs.Runs.{Standing, FailsLastFlush, InOrder, IsGoing, Reaches, ReachesBy, RunSteps}
use Rattle.jdwp_attach.specs.Telling.{lines_of}

-- ---- why a run ends

-- Calls led from how the engine stood at first to this debugger along these lines, and what was told on the way, all of it, was printed.
abbrev pub Tells : List PlanLine → List PlanLine → Standing → Story → Debugger → Type 0
Tells plan done base out d = (text : List ℕ) × ReachesBy plan base.debugger done text d × (out.written ≡ base.out.written ++ text)

-- the same along the plan's lines up to one of them
abbrev pub TellsInOrder : List PlanLine → Standing → Story → Debugger → Type 0
TellsInOrder plan base out d = (done : List PlanLine) × IsBeginning done plan × Tells plan done base out d

-- Memory was wanting for the count that was due behind a turn: nothing was asked, and all that was told before the turn was printed.
pub record WantsToAsk (plan : List PlanLine) (base : Standing) (out : Story) (d : Debugger) : Type 0 where
  pub done : List PlanLine
  pub begins : IsBeginning done plan
  pub old : Debugger
  pub read : Read
  pub told : List ℕ
  pub reached : ReachesBy plan base.debugger done told old
  pub awaits : Awaits plan done old
  pub turned : TurnsAt (front_of old.end) old (Ok read) d
  pub due : is_some (due_behind (Ok read) d) ≡ true
  pub printed : out.written ≡ base.out.written ++ told

-- the same along lines, where a part of what was told was printed, from its beginning on; or memory was wanting for a count, and all that was
-- told before it was printed
abbrev pub TellsPart : List PlanLine → Standing → Story → Debugger → Type 0
TellsPart plan base out d =
    ((done : List PlanLine) × IsBeginning done plan × ((text : List ℕ) × (part : List ℕ) × ReachesBy plan base.debugger done text d × IsFront part text × (out.written ≡ base.out.written ++ part)))
    ⊎ WantsToAsk plan base out d

-- the debugger is as after a loss of one that was not lost, and of which this holds
abbrev pub IsLostFrom : (Debugger → Type 0) → Debugger → Type 0
IsLostFrom P d = (before : Debugger) × P before × (before.end.session.lost ≡ false) × (d ≡ lost_debugger before)

-- calls led from the first debugger to the other
abbrev pub LeadsTo : List PlanLine → Debugger → Debugger → Type 0
LeadsTo plan base d = (done : List PlanLine) × (text : List ℕ) × ReachesBy plan base done text d

-- this answers the command at a place, which was asked under the ticket, and ends the session
pub record AnswersEnd (d : Debugger) (ticket : ℕ) (answer : Answer) : Type 0 where
  pub place : ℕ
  pub asked : Asked
  pub there : slice_get d.pending place ≡ Some asked
  pub under : asked.ticket ≡ Some (record { 0 = ticket })
  pub ends : ends (Reply (Some ticket) asked.command answer) ≡ true

-- what is told of what a turn read ends the session: an answer without an error to Dispose, or the death of the machine
abbrev pub TellsEnd : Debugger → Told → Type 0
TellsEnd d (Sizes composites) = list_any ends (reports composites) ≡ true
TellsEnd d (Answered ticket answer) = AnswersEnd d ticket answer
TellsEnd d (Seen composite) = ends (Report composite) ≡ true
TellsEnd d Nothing = ⊥
TellsEnd d Hello = ⊥
TellsEnd d Parked = ⊥

-- The last turn, of a debugger that calls lead to, read what ends the session, and what waited to leave left.
abbrev pub ReadsEnd : List PlanLine → Debugger → Debugger → Type 0
ReadsEnd plan base d =
    (old : Debugger) × (read : Read) × (new : Debugger) × LeadsTo plan base old × TurnsAt (front_of old.end) old (Ok read) new × TellsEnd old (read_meaning read) × (d ≡ with_taken new.end.outgoing new)

-- Every command of the plan was asked, and each count that was due, in ids so wide as the debugger knows them, and answered.
abbrev pub IsFinished : List PlanLine → Debugger → Debugger → Type 0
IsFinished plan base d =
    (has_tickets d.pending ≡ false)
    × ((run : RunSteps plan plan base) × (d.tickets ≡ base.tickets + asks run.steps) × ((w : Widths) × (d.sizes ≡ Some w) × HasPut w run.steps base d))

-- the number by which a program tells a fault: that of the bytes' own fault
abbrev pub told_number : DebuggerFault → ℕ
told_number (code.Frame fault) = frame.fault_number fault
told_number fault = fault_number fault

-- The last turn, of a debugger that calls lead to, refused what the target sent.
abbrev pub RefusesTurn : List PlanLine → Debugger → ℕ → Debugger → Type 0
RefusesTurn plan base number d =
    (old : Debugger) × (fault : DebuggerFault) × LeadsTo plan base old × TurnsAt (front_of old.end) old (Err fault) d × (fault ≢ code.NoMemory) × (number ≡ told_number fault)

-- the debugger refuses a command by a refusal of this number, or there is none since the bytes do not read
abbrev pub RefusesCommand : Debugger → ℕ → Option Command → Type 0
RefusesCommand d number None = number ≡ refused_number refusal.BadCommand
RefusesCommand d number (Some command) = (refused : asking.Refused) × (refusal_of_ask d command ≡ Some refused) × (number ≡ refused_number refused)

-- the line asks this command with these bytes
abbrev pub IsAsk : PlanLine → ℕ → ℕ → List ℕ → Type 0
IsAsk (line.Ask set number bytes) s n carried = (set ≡ s) × (number ≡ n) × (bytes.items ≡ carried)
IsAsk other s n carried = ⊥

-- The number by which a line is refused, in ids so wide: that of the debugger's refusal of its command, or 0 for a line of `pair` alone. No
-- other line is.
abbrev pub RefusesBy : PlanLine → Widths → Debugger → ℕ → Type 0
RefusesBy (line.Ask set number bytes) w d refusal = RefusesCommand d refusal (command_asked w set number bytes.items)
RefusesBy line.LoseTarget w d refusal = refusal ≡ 0
RefusesBy line.LoseDebugger w d refusal = refusal ≡ 0
RefusesBy line.Attach w d refusal = refusal ≡ 0
RefusesBy other w d refusal = ⊥

-- It refused this line of the plan, counted from 1; the lines before it were carried out, and what they ask was asked and put, and the
-- counts that were due between them, and nothing else.
pub record RefusesLineAt (plan : List PlanLine) (place : ℕ) (base : Debugger) (number : ℕ) (d : Debugger) : Type 0 where
  pub done : List PlanLine
  pub line : PlanLine
  pub rest : List PlanLine
  pub plan_is : plan ≡ done ++ line ∷ rest
  pub place_is : place ≡ length done + 1
  pub steps : List Step
  pub are : AreSteps base.order done steps
  pub told : List ℕ
  pub reached : Reaches plan base steps told d
  pub asked : d.tickets ≡ base.tickets + asks steps
  pub widths : Widths
  pub known : d.sizes ≡ Some widths
  pub put : HasPut widths steps base d
  pub refused : RefusesBy line widths d number

-- it refused a line of the plan
abbrev pub RefusesLine : List PlanLine → Debugger → ℕ → Debugger → Type 0
RefusesLine plan base number d = (place : ℕ) × RefusesLineAt plan place base number d

-- no write and no flush failed, and all that was written left
abbrev pub HasLeft : Standing → Story → Story → Type 0
HasLeft base pipe out =
    (pipe.failed_writes ≡ base.pipe.failed_writes) × (out.failed_writes ≡ base.out.failed_writes) × (pipe.unflushed ≡ []) × (out.unflushed ≡ [])

-- a write or a flush failed
abbrev pub HasFailed : Standing → Story → Story → Type 0
HasFailed base pipe out = (base.pipe.failed_writes < pipe.failed_writes) ⊎ (base.out.failed_writes < out.failed_writes)

-- all that was written left, or a flush failed behind all that the debugger put
abbrev pub HasLeftOrFails : Standing → Story → Story → Debugger → Type 0
HasLeftOrFails base pipe out d = HasLeft base pipe out ⊎ (HasFailed base pipe out × (pipe.written ≡ base.pipe.written ++ d.end.session.enqueued))

-- A turn is awaited behind lines of the plan, and all that was told so far was printed.
abbrev pub WantsTurn : List PlanLine → Standing → Story → Debugger → Type 0
WantsTurn plan base out d = (done : List PlanLine) × IsBeginning done plan × Awaits plan done d × Tells plan done base out d

-- ---- want of memory

-- A turn that is awaited wanted memory, and nothing changed.
abbrev pub WantsToTurn : List PlanLine → Standing → Story → Debugger → Type 0
WantsToTurn plan base out d = WantsTurn plan base out d × TurnsAt (front_of d.end) d (Err code.NoMemory) d

-- a line that takes memory of its own: one whose data read as a command, and `mirror`
abbrev pub TakesMemory : PlanLine → Debugger → Type 0
TakesMemory (line.Ask set number bytes) d = (w : Widths) × (command : Command) × (d.sizes ≡ Some w) × (command_asked w set number bytes.items ≡ Some command)
TakesMemory line.Mirror d = Unit {0}
TakesMemory other d = ⊥

-- Such a line, behind those that were carried out, wanted memory, and nothing changed.
abbrev pub WantsAtLine : List PlanLine → Standing → Story → Debugger → Type 0
WantsAtLine plan base out d = (done : List PlanLine) × (line : PlanLine) × IsNextLine line plan done × TakesMemory line d × Tells plan done base out d

-- What the last turn read was to be told: it was taken, the count that was due was asked, what was put left, and all that was told before
-- was printed.
pub record WantsToTell (plan : List PlanLine) (base : Standing) (out : Story) (d : Debugger) : Type 0 where
  pub done : List PlanLine
  pub begins : IsBeginning done plan
  pub old : Debugger
  pub read : Read
  pub mid : Debugger
  pub own : List Step
  pub new : Debugger
  pub told : List ℕ
  pub reached : ReachesBy plan base.debugger done told old
  pub awaits : Awaits plan done old
  pub turned : TurnsAt (front_of old.end) old (Ok read) mid
  pub asks : AsksDue (due_behind (Ok read) mid) mid new own
  pub some : lines_of (Ok read) mid ≢ []
  pub is : d ≡ with_taken new.end.outgoing new
  pub printed : out.written ≡ base.out.written ++ told

-- why memory was wanting
abbrev pub WantsMemory : List PlanLine → Standing → Story → Debugger → Type 0
WantsMemory plan base out d = WantsToTurn plan base out d ⊎ (WantsAtLine plan base out d ⊎ (WantsToTell plan base out d ⊎ WantsToAsk plan base out d))

-- ---- why a run ends so

-- Why a run of a plan may end so, what went through the pipes then, and what the debugger is: for want of memory and at the limit of turns
-- one that calls lead to from how it stood as the session began, and else as after a loss of such a one. All that was told on the way was
-- printed: along all lines of the plan where it is finished, else up to one of them; but not what the last turn read where memory was
-- wanting to tell it, or to ask the count that was due behind it, and a part where a write failed. A write or a flush failed where the run is
-- lost by a write, and in no other end but behind a refusal.
abbrev pub MayEnd : List PlanLine → Ended → Standing → Story → Story → Debugger → Type 0
MayEnd plan Done base pipe out d =
    IsLostFrom (λ before. (ReadsEnd plan base.debugger before × TellsInOrder plan base out before) ⊎ (IsFinished plan base.debugger before × Tells plan plan base out before)) d × HasLeft base pipe out
MayEnd plan LostByRead base pipe out d =
    (base.pipe.failed_reads + base.pipe.ends < pipe.failed_reads + pipe.ends)
    × IsLostFrom (λ before. (is_open before.end ≡ true) × (front_of before.end ≡ More) × TellsInOrder plan base out before) d × HasLeft base pipe out
MayEnd plan LostByWrite base pipe out d = HasFailed base pipe out × IsLostFrom (TellsPart plan base out) d
MayEnd plan (Refused number) base pipe out d =
    IsLostFrom (λ before. (RefusesTurn plan base.debugger number before ⊎ RefusesLine plan base.debugger number before) × TellsInOrder plan base out before) d × HasLeftOrFails base pipe out d
MayEnd plan NoMemory base pipe out d = WantsMemory plan base out d × (d.end.session.lost ≡ false) × HasLeft base pipe out
MayEnd plan TurnLimit base pipe out d =
    WantsTurn plan base out d × (is_open d.end ≡ true) × (d.end.session.lost ≡ false) × HasLeft base pipe out × (d.end.session.turns + pipe.rooms ≡ base.pipe.rooms + base.left)

-- ---- the line that is told

-- how the session ended, whichever line is told
abbrev pub ended_of : Attached → Ended
ended_of (run.Ended ended) = ended
ended_of (run.RefusedLine line number) = Refused number

-- where no line is told, a session that was refused was refused at a turn
abbrev pub TellsNoLine : List PlanLine → Ended → Debugger → Debugger → Type 0
TellsNoLine plan (Refused number) base d = IsLostFrom (RefusesTurn plan base number) d
TellsNoLine plan ended base d = Unit {0}

-- The line that is told is that which was refused.
abbrev pub TellsRefused : List PlanLine → Attached → Debugger → Debugger → Type 0
TellsRefused plan (run.Ended ended) base d = TellsNoLine plan ended base d
TellsRefused plan (run.RefusedLine line number) base d = IsLostFrom (RefusesLineAt plan line base number) d

-- what is told where a run ended so at this line, counted from 1: the line where it was refused
abbrev pub ended_at : PlanLine → ℕ → Ended → Attached
ended_at (line.Ask set number bytes) place (Refused refusal) = run.RefusedLine place refusal
ended_at line.LoseTarget place (Refused refusal) = run.RefusedLine place refusal
ended_at line.LoseDebugger place (Refused refusal) = run.RefusedLine place refusal
ended_at line.Attach place (Refused refusal) = run.RefusedLine place refusal
ended_at other place ended = run.Ended ended

-- a refusal is that of a turn: its number is that of a fault of what the target sent
abbrev pub IsByTurn : Ended → Type 0
IsByTurn (Refused number) = (fault : DebuggerFault) × (number ≡ told_number fault)
IsByTurn ended = Unit {0}

-- ---- calls of a run

-- A call that ends so, in every run of a plan that came to it at such lines, once all that was written has left.
abbrev pub EndsSo : (List PlanLine → List PlanLine → Type 0) → Standing → Standing → Ended → Type 0
EndsSo IsAt old new ended =
    (plan done : List PlanLine) (base : Standing) → IsBeginning done plan → IsAt plan done → IsGoing plan done base old
    → InOrder plan base new.pipe new.out new.debugger × MayEnd plan ended base (flushed new.pipe) (flushed new.out) new.debugger

-- The same of a line of the plan, behind those that were carried out.
abbrev pub LineEndsSo : PlanLine → Standing → Standing → Ended → Type 0
LineEndsSo line old new ended =
    (done rest : List PlanLine) (base : Standing) → IsGoing (done ++ line ∷ rest) done base old
    → InOrder (done ++ line ∷ rest) base new.pipe new.out new.debugger × MayEnd (done ++ line ∷ rest) ended base (flushed new.pipe) (flushed new.out) new.debugger

-- What is told where a line ends so, behind those that were carried out.
abbrev pub LineTells : PlanLine → Standing → Debugger → Ended → Type 0
LineTells line old d ended =
    (done rest : List PlanLine) (base : Standing) → IsGoing (done ++ line ∷ rest) done base old
    → TellsRefused (done ++ line ∷ rest) (ended_at line (length done + 1) ended) base.debugger d

-- A line that was carried out, in every run that came to it.
abbrev pub LineGoesOn : PlanLine → Standing → Standing → Type 0
LineGoesOn line old new =
    (done rest : List PlanLine) (base : Standing) → IsGoing (done ++ line ∷ rest) done base old → IsGoing (done ++ line ∷ rest) (done ++ line ∷ []) base new

-- How a run ends at a turn that failed, and at a command that was refused: the debugger loses the connection, but for want of memory.
abbrev pub EndsFailed : DebuggerFault → Debugger → Debugger → Ended → Type 0
EndsFailed code.NoMemory old new ended = (ended ≡ NoMemory) × (new ≡ old)
EndsFailed fault old new ended = (ended ≡ Refused (told_number fault)) × (new ≡ lost_debugger old)

abbrev pub EndsRefused : asking.Refused → Debugger → Debugger → Ended → Type 0
EndsRefused refusal.NoMemory old new ended = (ended ≡ NoMemory) × (new ≡ old)
EndsRefused refused old new ended = (ended ≡ Refused (refused_number refused)) × (new ≡ lost_debugger old)

-- ---- the last flush

-- what a run leaves whose last flush failed: the connection is lost, where it was not before
abbrev pub unflushed_debugger : Ended → Debugger → Debugger
unflushed_debugger NoMemory d = lost_debugger d
unflushed_debugger TurnLimit d = lost_debugger d
unflushed_debugger Done d = d
unflushed_debugger LostByRead d = d
unflushed_debugger LostByWrite d = d
unflushed_debugger (Refused number) d = d

-- A run of a plan: it may end so, and behind it all that was written leaves; or the last flush fails, and but a refusal, which is told as
-- one, the run is lost by a write.
pub data Attaches (plan : List PlanLine) (base : Standing) : Ended → Story → Story → Debugger → Type 0 where
  Leaves : (how : Ended) (pipe out : Story) (d : Debugger) → InOrder plan base pipe out d → MayEnd plan how base (flushed pipe) (flushed out) d
      → Attaches plan base how (flushed pipe) (flushed out) d
  Stays : (how : Ended) (pipe out after printed : Story) (d : Debugger) → InOrder plan base pipe out d → MayEnd plan how base (flushed pipe) (flushed out) d → FailsLastFlush pipe out after printed
      → Attaches plan base (unflushed_end how) after printed (unflushed_debugger how d)
