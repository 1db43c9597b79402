-- A target in one program and a debugger in another, and what the calls of each do (JDWP specification, "JDWP overview": the debuggee and the
-- debugger, one connection between them).
use Rattle.std.specs.Prelude.{◌≡◌, ℕ, ◌+◌, ◌<◌, ◌^◌, Bool, true, false, List, [], ◌∷◌, ◌++◌, None, Ok}
use Rattle.jdwp_end.specs.Ends.{front_of, is_open}
use Rattle.jdwp_machine.specs.Meanings.{Meaning}
use Rattle.jdwp_action.specs.Actions.{Command}
use Rattle.jdwp_debuggee.specs.Settings.{Settings}
use Rattle.jdwp_debuggee.specs.State.{new_state}
use Rattle.jdwp_target.specs.Targets as targets
use Rattle.jdwp_target.specs.Targets.{Target, new_target}
use Rattle.jdwp_target.specs.Turns as turns
use Rattle.jdwp_target.specs.Turns.{EncodesNext, EncodesReleased, EncodesWhere, ReleasesAt, SendsAt, SendsReleased, SendsWhere, StepsWhere, deferred_at, is_frozen}
use Rattle.jdwp_target.specs.declared.target.Stepped.{Stepped}
use Rattle.jdwp_target.specs.declared.target.Turn.{Turn}
use Rattle.jdwp_debugger.specs.Asking.{HasAsked, refusal_of_ask}
use Rattle.jdwp_debugger.specs.Debuggers as debuggers
use Rattle.jdwp_debugger.specs.Debuggers.{Debugger, new_debugger, tickets_of}
use Rattle.jdwp_debugger.specs.DebuggerTurns as reads
use Rattle.jdwp_debugger.specs.DebuggerTurns.{read_meaning}
use Rattle.jdwp_debugger.specs.declared.pending.Ticket.{Ticket}
use Rattle.jdwp_debugger.specs.declared.turning.Read.{Read}
use Rattle.jdwp_model.specs.Events
use Rattle.jdwp_model.specs.Events.{LinkEvent}
use Rattle.jdwp_link.specs.declared.events.Outcome.{Outcome}
use Rattle.jdwp_link.specs.declared.events.Outcome.TheVariants as outcome
use Rattle.jdwp_link.specs.EventParts.{is_left, lost_of, outcomes_of, told_did}
use Rattle.jdwp_link.specs.Told.{step_did, told_outcomes, turn_did}

-- the target as the one program has it, and the debugger as the other has it
pub record Programs (S : Type 0) : Type 0 where
  pub target : Target S
  pub debugger : Debugger

-- Both before their first session, over a machine in this state; the debugger's first packet has this id. Both ends have the same limits:
-- what the one sends within its own is then within the other's, and that nothing is refused rests on it.
abbrev pub new_programs : {S : Type 0} → Meaning S → Settings → S → ℕ → Programs S
new_programs m settings s id = record {
  target = new_target settings (record { state = new_state (m.live s); machine = s });
  debugger = new_debugger settings.limits id;
}

-- ---- acts

-- What one of the programs does, whatever the other does: a call, with what it was given and what it answered. A call that is refused, or
-- that wants memory, changes nothing and is no act; and no turn fails for another reason (`RefusesNothing`).
pub data Act : Type 0 where
  -- a session begins, at both ends together: nothing of the session before comes to either of them any more
  Connects : Act
  -- bytes come to the target, or leave it
  ComesToTarget : List ℕ → Act
  LeavesTarget : List ℕ → Act
  -- it makes a turn, answers the deferred command at a place, lets a thread step, begins or ceases to defer, or loses the connection
  TargetTurns : Turn → Act
  TargetReleases : ℕ → Turn → Act
  TargetSteps : ℕ → Stepped → Act
  TargetDefers : Bool → Act
  TargetLoses : Act
  -- bytes come to the debugger, or leave it
  ComesToDebugger : List ℕ → Act
  LeavesDebugger : List ℕ → Act
  -- it asks a command under a ticket; gives its next packet another id; makes a turn, by which these tickets are lost; or loses the
  -- connection, and these tickets with it
  DebuggerAsks : Command → Ticket → Act
  DebuggerNumbers : ℕ → Act
  DebuggerTurns : Read → List Ticket → Act
  DebuggerLoses : List Ticket → Act

-- Where a turn closed the debugger's end, at VM_DEATH or an OK reply to Dispose, and tickets wait, they are lost: that turn and the loss are
-- one act. Bytes that leave in between may as well leave behind it.
abbrev pub settled : Bool → Debugger → Debugger
settled true d = debuggers.lost_debugger d
settled false d = d

abbrev pub lost_with : Bool → Debugger → List Ticket
lost_with true d = tickets_of d.pending
lost_with false d = []

-- What an act does to both: of the end whose call it is what the call's contract says, and the other stays as it is.
abbrev pub Does : {S : Type 0} → Meaning S → Act → Programs S → Programs S → Type 0
Does m Connects old new =
    (is_open old.target.end ≡ false) × (is_open old.debugger.end ≡ false) × (old.target.moment.state.alive ≡ true)
    × (new ≡ record { target = targets.opened_target old.target; debugger = debuggers.attached old.debugger })
Does m (ComesToTarget bytes) old new = new ≡ record old { target = targets.with_fed bytes old.target }
Does m (LeavesTarget bytes) old new = new ≡ record old { target = targets.with_taken bytes old.target }
Does m (TargetTurns turn) old new =
    turns.TurnsAt m (front_of old.target.end) old.target (Ok turn) new.target × EncodesNext m (front_of old.target.end) old.target
    × SendsAt m (front_of old.target.end) old.target × (new.debugger ≡ old.debugger)
Does m (TargetReleases place turn) old new =
    ReleasesAt m place (deferred_at place old.target) old.target (Ok turn) new.target × EncodesReleased m (deferred_at place old.target) old.target
    × SendsReleased m place (deferred_at place old.target) old.target × (new.debugger ≡ old.debugger)
Does m (TargetSteps t stepped) old new =
    StepsWhere m t old.target stepped new.target (is_frozen m t old.target) × EncodesWhere m t old.target (is_frozen m t old.target)
    × SendsWhere m t old.target (is_frozen m t old.target) × (new.debugger ≡ old.debugger)
Does m (TargetDefers deferring) old new = new ≡ record old { target = targets.with_deferring deferring old.target }
Does m TargetLoses old new = new ≡ record old { target = targets.lost_target old.target }
Does m (ComesToDebugger bytes) old new = new ≡ record old { debugger = debuggers.with_fed bytes old.debugger }
Does m (LeavesDebugger bytes) old new = new ≡ record old { debugger = debuggers.with_taken bytes old.debugger }
Does m (DebuggerAsks c ticket) old new =
    (refusal_of_ask old.debugger c ≡ None) × (ticket.0 ≡ old.debugger.tickets + 1) × HasAsked c old.debugger new.debugger × (new.target ≡ old.target)
Does m (DebuggerNumbers id) old new = (id < 2 ^ 32) × (new ≡ record old { debugger = record old.debugger { next_id = id } })
Does m (DebuggerTurns read lost) old new =
    (after : Debugger) × reads.TurnsAt (front_of old.debugger.end) old.debugger (Ok read) after × (lost ≡ lost_with (is_left after) after)
    × (new ≡ record old { debugger = settled (is_left after) after })
Does m (DebuggerLoses lost) old new = (lost ≡ tickets_of old.debugger.pending) × (new ≡ record old { debugger = debuggers.lost_debugger old.debugger })

-- ---- what is told of acts

-- the tickets under which commands were asked, the answers and composites that were read, and the tickets that were lost
abbrev pub told_by : Act → List Outcome
told_by (DebuggerAsks c ticket) = outcome.Asked ticket ∷ []
told_by (DebuggerTurns read lost) = told_outcomes (outcomes_of (read_meaning read)) ++ lost_of lost
told_by (DebuggerLoses lost) = lost_of lost
told_by act = []

abbrev pub told_in : List Act → List Outcome
told_in [] = []
told_in (act ∷ acts) = told_by act ++ told_in acts

-- ---- as events of the model

abbrev pub where_did : Bool → LinkEvent → List LinkEvent
where_did true e = e ∷ []
where_did false e = []

-- What an act is in the model of a session: an event, or none where bytes come or leave, or where a turn, a release or a step did nothing.
abbrev pub events_of : Act → List LinkEvent
events_of Connects = Events.Attach ∷ []
events_of (TargetTurns turn) = where_did (turn_did turn) Events.TargetTurn
events_of (TargetReleases place turn) = where_did (turn_did turn) (Events.Release place)
events_of (TargetSteps t stepped) = where_did (step_did stepped) (Events.Step t)
events_of (TargetDefers deferring) = Events.Defer deferring ∷ []
events_of TargetLoses = Events.TargetLoses ∷ []
events_of (DebuggerAsks c ticket) = Events.Ask c ∷ []
events_of (DebuggerTurns read lost) = where_did (told_did (read_meaning read)) Events.DebuggerTurn
events_of (DebuggerLoses lost) = Events.DebuggerLoses ∷ []
events_of act = []

abbrev pub events_in : List Act → List LinkEvent
events_in [] = []
events_in (act ∷ acts) = events_of act ++ events_in acts
