-- What calls leave of the visits.
use Rattle.std.specs.Prelude.{◌≡◌, ◌⊎◌, ℕ, Bool, true, false, List, Some, None, Ok, Err}
use Rattle.jdwp_wire.specs.Streams.{Handshake, Packet}
use Rattle.jdwp_wire.specs.declared.error_code.ErrorCode.{ErrorCode}
use Rattle.jdwp_wire.specs.declared.packet.Header.{Header}
use Rattle.jdwp_wire.specs.declared.packet.PacketKind.TheVariants as kind
use Rattle.jdwp_event.specs.Composites.{CompositeMeaning, POLICY_ALL}
use Rattle.jdwp_machine.specs.Meanings.{Meaning}
use Rattle.jdwp_action.specs.Actions
use Rattle.jdwp_action.specs.Actions.{Action, Command, action_of}
use Rattle.jdwp_debuggee.specs.Answering.{read_as}
use Rattle.jdwp_debuggee.specs.Effects.{effect}
use Rattle.jdwp_debuggee.specs.Facts.{is_data}
use Rattle.jdwp_debuggee.specs.Settings.{Settings}
use Rattle.jdwp_debuggee.specs.State.{Moment}
use Rattle.jdwp_debuggee.specs.Steps.{may_step, occurs, starts, with_started}
use Rattle.jdwp_debuggee.specs.Visits.{turned}
use Rattle.jdwp_target.specs.Deeds.{DefersFew}
use Rattle.jdwp_target.specs.Targets.{Target, full_standing, lost_target, new_target, opened_target, with_deferring, with_fed, with_handled, with_release, with_step, with_taken}

-- Suspend and Resume of all threads
abbrev pub moves_all : Action → Bool
moves_all Actions.Suspend = true
moves_all Actions.Resume = true
moves_all action = false

-- A machine Suspend and a machine Resume that are not refused, VM_START of policy ALL, and a step that reports an event of policy ALL visit
-- exactly the threads that they turn, from running to suspended or the other way round; a thread that the step starts runs before the
-- event. Before the first there are no visits, and all other calls leave them as they were.
pub record VisitsWhatTurns {S : Type 0} (m : Meaning S) : Type 0 where
  pub new : (settings : Settings) (now : Moment S) → (new_target settings now).visits ≡ 0
  pub opened : (v : Target S) → (opened_target v).visits ≡ v.visits
  pub fed : (v : Target S) (bytes : List ℕ) → (with_fed bytes v).visits ≡ v.visits
  pub taken : (v : Target S) (bytes : List ℕ) → (with_taken bytes v).visits ≡ v.visits
  pub lost : (v : Target S) → (lost_target v).visits ≡ v.visits
  pub deferring : (v : Target S) (deferring : Bool) → (with_deferring deferring v).visits ≡ v.visits
  pub released : (v : Target S) (place : ℕ) → DefersFew (full_standing v) → (with_release m place v).visits ≡ v.visits
  pub moved : (v : Target S) (header : Header) (body : List ℕ) (used set number : ℕ) (c : Command) → header.kind ≡ kind.Command set number
      → read_as v.settings.profile (m.sizes v.moment.machine) set number body ≡ Ok c → moves_all (action_of c) ≡ true → is_data (effect m v.settings v.moment c).answer ≡ true
      → (with_handled m (Packet header body) used v).visits ≡ turned v.moment.state.threads (with_handled m (Packet header body) used v).moment.state.threads
  pub refused : (v : Target S) (header : Header) (body : List ℕ) (used set number : ℕ) (c : Command) → header.kind ≡ kind.Command set number
      → read_as v.settings.profile (m.sizes v.moment.machine) set number body ≡ Ok c → is_data (effect m v.settings v.moment c).answer ≡ false
      → (with_handled m (Packet header body) used v).visits ≡ v.visits
  pub other : (v : Target S) (header : Header) (body : List ℕ) (used set number : ℕ) (c : Command) → header.kind ≡ kind.Command set number
      → read_as v.settings.profile (m.sizes v.moment.machine) set number body ≡ Ok c → moves_all (action_of c) ≡ false
      → (with_handled m (Packet header body) used v).visits ≡ v.visits
  pub unread : (v : Target S) (header : Header) (body : List ℕ) (used set number : ℕ) (e : ErrorCode) → header.kind ≡ kind.Command set number
      → read_as v.settings.profile (m.sizes v.moment.machine) set number body ≡ Err e → (with_handled m (Packet header body) used v).visits ≡ v.visits
  pub ignored : (v : Target S) (header : Header) (body : List ℕ) (used : ℕ) (e : ErrorCode) → header.kind ≡ kind.Reply e
      → (with_handled m (Packet header body) used v).visits ≡ v.visits
  pub started : (v : Target S) (used : ℕ) → v.moment.state.handshaken ≡ false → v.settings.start_all ≡ true
      → (with_handled m Handshake used v).visits ≡ turned v.moment.state.threads (with_handled m Handshake used v).moment.state.threads
  pub greeted : (v : Target S) (used : ℕ) → (v.moment.state.handshaken ≡ true) ⊎ (v.settings.start_all ≡ false)
      → (with_handled m Handshake used v).visits ≡ v.visits
  pub reported : (v : Target S) (t : ℕ) (c : CompositeMeaning) → may_step m v.settings v.moment t ≡ true → (occurs m v.moment t).sends ≡ Some c → c.policy ≡ POLICY_ALL
      → (with_step m t v).visits ≡ turned (with_started (starts m v.moment t) v.moment.state).threads (with_step m t v).moment.state.threads
  pub apart : (v : Target S) (t : ℕ) (c : CompositeMeaning) → (occurs m v.moment t).sends ≡ Some c → (c.policy ≡ POLICY_ALL → ⊥)
      → (with_step m t v).visits ≡ v.visits
  pub quiet : (v : Target S) (t : ℕ) → (occurs m v.moment t).sends ≡ None → (with_step m t v).visits ≡ v.visits
