-- What an engine that runs a debugger did on its pipes.
use Rattle.std.specs.Prelude.{◌≡◌, ◌≢◌, ◌⊎◌, ℕ, ◌≤◌, ◌+◌, ◌&&◌, Bool, true, false, List, [], ◌∷◌, ◌++◌, length, None, Result, Ok}
use Rattle.jdwp_wire.specs.Streams.{IsFront}
use Rattle.jdwp_end.specs.Ends.{front_of, is_open, room_of}
use Rattle.jdwp_action.specs.Actions.{Command}
use Rattle.jdwp_debugger.specs.declared.faults.DebuggerFault.{DebuggerFault}
use Rattle.jdwp_debugger.specs.declared.turning.Read.{Read}
use Rattle.jdwp_debugger.specs.declared.turning.Read.TheVariants as read
use Rattle.jdwp_debugger.specs.Asking.{HasAsked, refusal_of_ask}
use Rattle.jdwp_debugger.specs.Debuggers.{Debugger, lost_debugger, with_fed, with_taken}
use Rattle.jdwp_debugger.specs.DebuggerTurns.{TurnsAt}
use Rattle.jdwp_end.specs.declared.pipes.ended.Ended.{Ended}
use Rattle.jdwp_end.specs.declared.pipes.ended.Ended.TheVariants as ended
use Rattle.jdwp_end.specs.Moving as moving
use Rattle.jdwp_end.specs.Story.{FailsFlush, FailsRead, FailsWrite, Story, flushed, with_written}
use Rattle.jdwp_attach.specs.declared.plans.plan_line.PlanLine.{PlanLine}
use Rattle.jdwp_attach.specs.declared.plans.plan_line.PlanLine.TheVariants as line
use Rattle.jdwp_attach.specs.OwnCounts.{AreSteps, AsksDue, Line, Step, due_behind, planned}
use Rattle.jdwp_attach.specs.PlanAsks.{HasAskedSteps, IsBeginning, Stands, asks}
use Rattle.jdwp_attach.specs.PlanWaits.{Awaits, IsNextLine, IsThere}
use Rattle.jdwp_attach.specs.Telling.{TellsKnown, lines_of}

-- ---- how an engine stands

-- What went through the pipe to the target, and through the one that lines are printed to; the debugger; and how many turns are left.
pub record Standing : Type 0 where
  pub pipe : Story
  pub out : Story
  pub debugger : Debugger
  pub left : ℕ

abbrev pub at : Story → Story → Debugger → ℕ → Standing
at pipe out debugger left = record { pipe = pipe; out = out; debugger = debugger; left = left }

-- what is told at a line of a plan: at `mirror` what the debugger knows
abbrev pub TellsLine : PlanLine → Debugger → List ℕ → Type 0
TellsLine line.Mirror d text = TellsKnown d text
TellsLine other d text = text ≡ []

-- The debuggers that calls lead to from one, along steps of a run of a plan, and what is told on the way. Turns are made where the plan awaits
-- something, whatever they answer, and behind each the count that is due then is asked, and no other; commands asked, where the session is
-- open and the debugger refuses them not; bytes fed behind a turn that handled nothing, for which there is room; and bytes taken, of those
-- that wait to leave. A line is passed at a debugger that had asked what the steps up to it ask, and at which what it waits for was there.
pub data Reaches (plan : List PlanLine) (base : Debugger) : List Step → List ℕ → Debugger → Type 0 where
  Begins : Reaches plan base [] [] base
  Turns : (steps own : List Step) (text : List ℕ) (old mid new : Debugger) (result : Result Read DebuggerFault) → Reaches plan base steps text old → Awaits plan (planned steps) old
      → TurnsAt (front_of old.end) old result mid → AsksDue (due_behind result mid) mid new own → Reaches plan base (steps ++ own) (text ++ lines_of result mid) new
  Asks : (steps : List Step) (text : List ℕ) (old new : Debugger) (command : Command) → Reaches plan base steps text old → is_open old.end ≡ true
      → refusal_of_ask old command ≡ None → HasAsked command old new → Reaches plan base steps text new
  Feeds : (steps : List Step) (text : List ℕ) (old new : Debugger) (bytes : List ℕ) → Reaches plan base steps text old → Awaits plan (planned steps) old → TurnsAt (front_of old.end) old (Ok read.Nothing) new
      → length bytes ≤ room_of new.end → Reaches plan base steps text (with_fed bytes new)
  Takes : (steps : List Step) (text : List ℕ) (old : Debugger) (bytes : List ℕ) → Reaches plan base steps text old → IsFront bytes old.end.outgoing → Reaches plan base steps text (with_taken bytes old)
  Passes : (steps : List Step) (text : List ℕ) (d : Debugger) (line : PlanLine) (more : List ℕ) → Reaches plan base steps text d → d.tickets ≡ base.tickets + asks (steps ++ Line line ∷ [])
      → IsThere line d → TellsLine line d more → Reaches plan base (steps ++ Line line ∷ []) (text ++ more) d

-- calls led to this debugger along these lines of the plan, with the counts that were due between them
abbrev pub ReachesBy : List PlanLine → Debugger → List PlanLine → List ℕ → Debugger → Type 0
ReachesBy plan base done text d = (steps : List Step) × AreSteps base.order done steps × Reaches plan base steps text d

-- The steps of a run along these lines of the plan: calls led along them, so each count among them stands exactly where it was due.
pub record RunSteps (plan done : List PlanLine) (base : Debugger) : Type 0 where
  pub steps : List Step
  pub are : AreSteps base.order done steps
  pub told : List ℕ
  pub debugger : Debugger
  pub reached : Reaches plan base steps told debugger

-- What was asked since the session began is what the plan's lines up to one of them ask, in their order, and between them the counts that
-- were due, and nothing else.
abbrev pub AsksInOrder : List PlanLine → Debugger → Debugger → Type 0
AsksInOrder plan base d = (done : List PlanLine) × IsBeginning done plan × ((run : RunSteps plan done base) × HasAskedSteps run.steps base d)

-- the session is open, and nothing waits to leave
abbrev pub IsReady : Debugger → Type 0
IsReady d = (is_open d.end ≡ true) × (d.end.outgoing ≡ [])

-- From how the engine stood when the session began: the debugger was fed what was read, in order; the commands that it was asked are those
-- of the plan's lines up to one of them, in their order, and the counts that were due between them; what was written is a beginning of what the debugger put, and of what was taken
-- from it, and all of both where no write failed; before each read all that was written had left; and what is printed to was not read.
pub record InOrder (plan : List PlanLine) (base : Standing) (pipe out : Story) (d : Debugger) : Type 0 where
  pub read : pipe.read ≡ base.pipe.read ++ d.end.session.fed
  pub asked : AsksInOrder plan base.debugger d
  pub written : (bytes : List ℕ) × (pipe.written ≡ base.pipe.written ++ bytes) × IsFront bytes d.end.session.enqueued × IsFront bytes d.end.session.taken
  pub whole : pipe.failed_writes ≡ base.pipe.failed_writes → (pipe.written ≡ base.pipe.written ++ d.end.session.enqueued) × (d.end.session.taken ≡ d.end.session.enqueued)
  pub failed_writes : base.pipe.failed_writes ≤ pipe.failed_writes
  pub prompt : pipe.early ≡ base.pipe.early
  pub unread : out.read ≡ base.out.read
  pub failed_prints : base.out.failed_writes ≤ out.failed_writes

-- The same between two calls, where nothing failed, nothing waits, the session is open and was not lost, calls led to the debugger along
-- these lines of the plan, whose commands were asked and between them the counts that were due, what was told on the way was printed, and
-- each turn that was made handled a message, or a read with room followed it.
pub record IsGoing (plan done : List PlanLine) (base now : Standing) : Type 0 where
  pub ready : IsReady now.debugger
  pub kept : now.debugger.end.session.lost ≡ false
  pub steps : List Step
  pub are : AreSteps base.debugger.order done steps
  pub told : List ℕ
  pub reached : Reaches plan base.debugger steps told now.debugger
  pub asked : now.debugger.tickets ≡ base.debugger.tickets + asks steps
  pub stands : Stands steps base.debugger now.debugger
  pub read : now.pipe.read ≡ base.pipe.read ++ now.debugger.end.session.fed
  pub written : now.pipe.written ≡ base.pipe.written ++ now.debugger.end.session.enqueued
  pub taken : now.debugger.end.session.taken ≡ now.debugger.end.session.enqueued
  pub failed_reads : now.pipe.failed_reads ≡ base.pipe.failed_reads
  pub failed_writes : now.pipe.failed_writes ≡ base.pipe.failed_writes
  pub ends : now.pipe.ends ≡ base.pipe.ends
  pub prompt : now.pipe.early ≡ base.pipe.early
  pub printed : now.out ≡ with_written told base.out
  pub turns : now.debugger.end.session.turns + now.pipe.rooms + now.left ≡ base.pipe.rooms + base.left

-- ---- what calls do

-- It went on so, whatever was done before, where a run of a plan is at such lines.
abbrev pub GoesOn : (List PlanLine → List PlanLine → Type 0) → Standing → Standing → Type 0
GoesOn IsAt old new = (plan done : List PlanLine) (base : Standing) → IsAt plan done → IsGoing plan done base old → IsGoing plan done base new

-- anywhere; and where the next line waits for answers, or there is none
abbrev pub IsAnywhere : List PlanLine → List PlanLine → Type 0
IsAnywhere plan done = Unit {0}

abbrev pub IsAtAnswers : List PlanLine → List PlanLine → Type 0
IsAtAnswers plan done = IsNextLine line.Answers plan done ⊎ (plan ≡ done)

-- bytes were read and fed, for which there was room
abbrev pub ReadsMore : Debugger → Debugger → Story → Story → Type 0
ReadsMore = moving.ReadsMore (λ (d : Debugger). d.end) with_fed

-- A flush failed, or a read behind it failed or gave 0 with room, and the debugger lost the connection.
abbrev pub LosesAtRead : Ended → Debugger → Debugger → Story → Story → Type 0
LosesAtRead ended.LostByWrite old new before after = (new ≡ lost_debugger old) × FailsFlush before after
LosesAtRead ended.LostByRead old new before after = (new ≡ lost_debugger old) × FailsRead (flushed before) after
LosesAtRead ended old new before after = ⊥

-- A write failed, of what waited to leave or of this text behind it, and the debugger lost the connection.
pub record LosesAtWrite (text : List ℕ) (old new : Standing) : Type 0 where
  pub taken : List ℕ
  pub is : new.debugger ≡ lost_debugger (with_taken taken old.debugger)
  pub left : new.left ≡ old.left
  pub fails :
      (IsFront taken old.debugger.end.outgoing × FailsWrite old.pipe new.pipe taken × (new.out ≡ old.out))
      ⊎ ((taken ≡ old.debugger.end.outgoing) × (new.pipe ≡ with_written old.debugger.end.outgoing old.pipe) × FailsWrite old.out new.out text)

-- What a turn put was written, and then this text was printed.
pub record PutsAndTells (text : List ℕ) (old new : Standing) : Type 0 where
  pub debugger : new.debugger ≡ with_taken old.debugger.end.outgoing old.debugger
  pub pipe : new.pipe ≡ with_written old.debugger.end.outgoing old.pipe
  pub out : new.out ≡ with_written text old.out
  pub left : new.left ≡ old.left

-- The same, where the turn ended the session, which is lost then.
pub record Closes (text : List ℕ) (old new : Standing) : Type 0 where
  pub closed : is_open old.debugger.end ≡ false
  pub debugger : new.debugger ≡ lost_debugger (with_taken old.debugger.end.outgoing old.debugger)
  pub pipe : new.pipe ≡ with_written old.debugger.end.outgoing old.pipe
  pub out : new.out ≡ with_written text old.out
  pub left : new.left ≡ old.left

-- What it put was written, and this text, which is not empty, was not printed.
pub record Puts (text : List ℕ) (old new : Standing) : Type 0 where
  pub some : text ≢ []
  pub debugger : new.debugger ≡ with_taken old.debugger.end.outgoing old.debugger
  pub pipe : new.pipe ≡ with_written old.debugger.end.outgoing old.pipe
  pub out : new.out ≡ old.out
  pub left : new.left ≡ old.left

-- What is left where a turn or a question ends the run behind what it put, of which this text is to be printed.
abbrev pub Finishes : Ended → List ℕ → Standing → Standing → Type 0
Finishes ended.Done text old new = Closes text old new
Finishes ended.NoMemory text old new = Puts text old new
Finishes ended.LostByWrite text old new = LosesAtWrite text old new
Finishes ended text old new = ⊥

-- ---- the last flush

-- what a flush leaves, by whether it succeeded
abbrev pub FlushesOrFails : Bool → Story → Story → Type 0
FlushesOrFails true old new = new ≡ flushed old
FlushesOrFails false old new = FailsFlush old new

-- Both were flushed, whatever came of the first, and one at least of the flushes failed. Nothing else happened.
pub record FailsLastFlush (pipe out pipe' out' : Story) : Type 0 where
  pub left : Bool
  pub printed : Bool
  pub fails : (left && printed) ≡ false
  pub pipe_flushes : FlushesOrFails left pipe pipe'
  pub out_flushes : FlushesOrFails printed out out'
