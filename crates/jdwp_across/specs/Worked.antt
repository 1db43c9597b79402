-- Merges that were worked out by hand, over the machine of two threads of the model's worked sessions: so there are merges, and this is what
-- holds where they lead.
use Rattle.std.specs.Prelude.{◌≡◌, ℕ, true, List, [], ◌∷◌, ◌++◌, take, drop, Some, None}
use Rattle.jdwp_wire.specs.ErrorCodes.{NONE}
use Rattle.jdwp_wire.specs.Handshake.{handshake_bytes}
use Rattle.jdwp_wire.specs.Streams.{Message, Handshake, stream}
use Rattle.jdwp_end.specs.declared.phase.Phase.TheVariants.{Closed, AwaitingHandshake, Established}
use Rattle.jdwp_layout.specs.CommandNumbers.{RESUME}
use Rattle.jdwp_event.specs.Composites.{vm_start}
use Rattle.jdwp_action.specs.Actions.{Command}
use Rattle.jdwp_action.specs.AnswerPackets.{sizes_answer}
use Rattle.jdwp_debuggee.specs.Answers.{int_answer}
use Rattle.jdwp_debuggee.specs.State.{count_of}
use Rattle.jdwp_mirror.specs.KnownThreads.{count_in, is_held_in}
use Rattle.jdwp_mirror.specs.Messages.{Asks, id_sizes}
use Rattle.jdwp_target.specs.Sends.{reply_to, report_of}
use Rattle.jdwp_target.specs.declared.target.Stepped.TheVariants as stepping
use Rattle.jdwp_target.specs.declared.target.Turn.TheVariants as turning
use Rattle.jdwp_debugger.specs.DebuggerTurns.{Sizes, read_meaning}
use Rattle.jdwp_debugger.specs.declared.pending.Ticket.{Ticket}
use Rattle.jdwp_debugger.specs.declared.turning.Read.{Read}
use Rattle.jdwp_debugger.specs.declared.turning.Read.TheVariants as reading
use Rattle.jdwp_model.specs.Events
use Rattle.jdwp_model.specs.Events.{LinkEvent}
use Rattle.jdwp_model.specs.Worked.{at_three, command, reached, set_breakpoint}
use Rattle.jdwp_model.specs.WorkedMachine.{Small, settings, small, small_opening, widths}
use Rattle.jdwp_link.specs.declared.events.Outcome.{Outcome}
use Rattle.jdwp_link.specs.declared.events.Outcome.TheVariants as outcome
use Rattle.jdwp_link.specs.Wires.{call_sent}
use Rattle.jdwp_across.specs.Programs.{Act, ComesToDebugger, ComesToTarget, Connects, DebuggerAsks, DebuggerLoses, DebuggerTurns, LeavesDebugger, LeavesTarget, Programs, TargetLoses, TargetSteps, TargetTurns, events_in, new_programs, told_in}
use Rattle.jdwp_across.specs.Merges.{Merged}

-- These acts are a merge of two programs over the machine, before their first session, and this holds where they lead.
abbrev pub Leads : List Act → (Programs Small → Type 0) → Type 0
Leads acts P = (programs : Programs Small) × Merged small (new_programs small settings small_opening 1) acts programs × P programs

-- ---- messages

-- the messages that one end put leave it and come to the other
abbrev pub to_target : List Message → List Act
to_target messages = LeavesDebugger (stream messages) ∷ ComesToTarget (stream messages) ∷ []

abbrev pub to_debugger : List Message → List Act
to_debugger messages = LeavesTarget (stream messages) ∷ ComesToDebugger (stream messages) ∷ []

abbrev pub first_ticket : Ticket
first_ticket = record { 0 = 1 }

abbrev pub second_ticket : Ticket
second_ticket = record { 0 = 2 }

-- breakpoints at index 3 are asked for, which suspend all threads
abbrev pub breakpoint : Command
breakpoint = set_breakpoint 2 (at_three ∷ [])

-- ---- a session begins

-- the debugger's handshake comes to the target in two pieces, and is handled
abbrev pub greets : List Act
greets =
    Connects ∷ LeavesDebugger handshake_bytes ∷ ComesToTarget (take 5 handshake_bytes) ∷ ComesToTarget (drop 5 handshake_bytes) ∷ TargetTurns turning.Hello ∷ []

-- The target's handshake and VM_START come to the debugger, which asks for the widths of ids, and is answered. What that turn answers has
-- VM_START, which waited.
abbrev pub greeted : Read → List Act
greeted sizes =
    greets ++ (to_debugger (Handshake ∷ report_of widths 1 (vm_start 0 1) ∷ []) ++ DebuggerTurns reading.Hello [] ∷ DebuggerTurns reading.Parked []
    ∷ (to_target (call_sent widths 1 (Asks None id_sizes) ∷ []) ++ TargetTurns (turning.Replied 1 NONE)
    ∷ (to_debugger (reply_to widths 1 (sizes_answer widths) ∷ []) ++ DebuggerTurns sizes [] ∷ [])))

-- ---- a breakpoint

-- it is asked for, and the reply read; the first thread steps to it, and the event is read
abbrev pub stopped : Read → List Act
stopped sizes =
    greeted sizes ++ DebuggerAsks breakpoint first_ticket
    ∷ (to_target (call_sent widths 2 (Asks (Some 1) breakpoint) ∷ []) ++ TargetTurns (turning.Replied 2 NONE)
    ∷ (to_debugger (reply_to widths 2 (int_answer 1) ∷ []) ++ DebuggerTurns (reading.Answered first_ticket (int_answer 1)) []
    ∷ TargetSteps 1 stepping.Quiet ∷ TargetSteps 1 stepping.Reported
    ∷ (to_debugger (report_of widths 2 (reached 2) ∷ []) ++ DebuggerTurns (reading.Seen (reached 2)) [] ∷ [])))

-- ---- a loss, and a session anew

-- a Resume is asked that never comes: both ends lose the connection, and its ticket is lost
abbrev pub lost : Read → List Act
lost sizes = stopped sizes ++ DebuggerAsks (command RESUME []) second_ticket ∷ TargetLoses ∷ DebuggerLoses (second_ticket ∷ []) ∷ []

-- both handshakes come, and no VM_START again
abbrev pub begun_again : Read → List Act
begun_again sizes =
    lost sizes ++ (greets ++ (to_debugger (Handshake ∷ []) ++ DebuggerTurns reading.Hello [] ∷ []))

-- ---- what holds

-- a thread is held by the debugger's mirror and suspended in the target, both with this count
abbrev pub IsStopped : ℕ → ℕ → Programs Small → Type 0
IsStopped t n programs =
    (is_held_in programs.debugger.mirror.threads t ≡ true) × (count_in programs.debugger.mirror.threads t ≡ Some n) × (count_of programs.target.moment.state t ≡ Some n)

-- what is told up to the loss
abbrev pub until_loss : List Outcome
until_loss =
    outcome.Seen (vm_start 0 1) ∷ outcome.Asked first_ticket ∷ outcome.Answered first_ticket (int_answer 1) ∷ outcome.Seen (reached 2)
    ∷ outcome.Asked second_ticket ∷ outcome.Lost second_ticket ∷ []

-- and the events of the model that these acts are
abbrev pub events_until_loss : List LinkEvent
events_until_loss =
    Events.Attach ∷ Events.TargetTurn ∷ Events.DebuggerTurn ∷ Events.DebuggerTurn ∷ Events.TargetTurn ∷ Events.DebuggerTurn
    ∷ Events.Ask breakpoint ∷ Events.TargetTurn ∷ Events.DebuggerTurn ∷ Events.Step 1 ∷ Events.Step 1 ∷ Events.DebuggerTurn
    ∷ Events.Ask (command RESUME []) ∷ Events.TargetLoses ∷ Events.DebuggerLoses ∷ []

-- the mirror knows nobody, and a thread runs
abbrev pub IsForgotten : ℕ → Programs Small → Type 0
IsForgotten t programs = (programs.debugger.mirror.threads ≡ []) × (count_of programs.target.moment.state t ≡ Some 0)

pub record MergesAsWorked : Type 0 where
  pub nothing : Leads [] (λ programs. programs.target.end.phase ≡ Closed)
  pub connects : Leads (Connects ∷ []) (λ programs. programs.target.end.phase ≡ AwaitingHandshake)
  pub handles : Leads greets (λ programs. programs.target.end.phase ≡ Established)
  pub stops : (sizes : Read) → read_meaning sizes ≡ Sizes (vm_start 0 1 ∷ []) → Leads (stopped sizes) (IsStopped 1 1)
  pub loses : (sizes : Read) → read_meaning sizes ≡ Sizes (vm_start 0 1 ∷ []) → Leads (lost sizes) (IsForgotten 1)
  pub told : (sizes : Read) → read_meaning sizes ≡ Sizes (vm_start 0 1 ∷ []) → told_in (lost sizes) ≡ until_loss
  pub events : (sizes : Read) → read_meaning sizes ≡ Sizes (vm_start 0 1 ∷ []) → events_in (lost sizes) ≡ events_until_loss
  pub begins_again : (sizes : Read) → read_meaning sizes ≡ Sizes (vm_start 0 1 ∷ []) → Leads (begun_again sizes) (λ programs. programs.debugger.end.phase ≡ Established)
