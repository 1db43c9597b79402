-- Whom commands resume, as it is kept of those that wait.
use Rattle.std.specs.Prelude.{◌≡◌, ℕ, ◌==◌, ◌≤◌, Bool, true, false, List, length, drop, map, Option, Some, None}
use Rattle.jdwp_value.specs.declared.id.ObjectId.{ObjectId}
use Rattle.jdwp_mirror.specs.declared.command.CommandKind.{CommandKind}
use Rattle.jdwp_mirror.specs.declared.command.CommandKind.TheVariants as kinds
use Rattle.jdwp_action.specs.Actions
use Rattle.jdwp_action.specs.Actions.{Action, Command, action_of}
use Rattle.jdwp_event.specs.Told.{object_id}
use Rattle.jdwp_wire.specs.Widths.{Widths}
use Rattle.jdwp_apart.specs.Following.{invocation_in}
use Rattle.jdwp_apart.specs.Messages.{Invocation, lowers, releases}
use Rattle.jdwp_watch.specs.declared.waiting.Lowering.{Lowering}
use Rattle.jdwp_watch.specs.declared.waiting.Lowering.TheVariants.{Nobody, Thread, All}

abbrev pub lowering_of : Action → Lowering
lowering_of Actions.Resume = All
lowering_of (Actions.ResumeThread t) = Thread (object_id t)
lowering_of action = Nobody

abbrev pub lowering_of_one : Option ObjectId → Lowering
lowering_of_one None = Nobody
lowering_of_one (Some t) = Thread t

-- by its kind, and the thread that it is about
abbrev pub lowering_by : CommandKind → Option ObjectId → Lowering
lowering_by kinds.Resume thread = All
lowering_by kinds.ResumeThread thread = lowering_of_one thread
lowering_by kind thread = Nobody

abbrev pub lowered_by : ℕ → Lowering → Bool
lowered_by t Nobody = false
lowered_by t (Thread u) = u.0 == t
lowered_by t All = true

-- by how much a command that waits lowers the count of a thread, whether or not it invokes a method
abbrev pub lowers_by : Option Invocation → Command → ℕ → ℕ
lowers_by (Some i) c t = releases i t
lowers_by None c t = lowers (action_of c) t

abbrev pub lowers_one : Widths → Command → ℕ → ℕ
lowers_one w c t = lowers_by (invocation_in w c) c t

abbrev pub lowering_of_command : Command → Lowering
lowering_of_command c = lowering_of (action_of c)

abbrev pub lowerings_of : List Command → List Lowering
lowerings_of cs = map lowering_of_command cs

-- of those that were asked so many were answered, and of the others is kept whom they resume
pub record AreWaiting (answered : ℕ) (asked : List Command) (lowerings : List Lowering) : Type 0 where
  pub asks : answered ≤ length asked
  pub kept : lowerings ≡ lowerings_of (drop answered asked)
