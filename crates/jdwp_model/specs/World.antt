-- A target and a debugger, and what is under way between them (JDWP specification, "JDWP Handshake" and "JDWP Packets": one session over
-- one connection). No byte, buffer or width of an id occurs: messages are what they mean, and a measure says how long they are.
use Rattle.std.specs.Prelude.{ℕ, ◌+◌, ◌-◌, Bool, not, false, List, [], ◌∷◌, Option}
use Rattle.jdwp_end.specs.Ends.{is_open_phase}
use Rattle.jdwp_end.specs.declared.phase.Phase.TheVariants.{Closed}
use Rattle.jdwp_end.specs.declared.phase.Phase.{Phase}
use Rattle.jdwp_machine.specs.Meanings.{Meaning}
use Rattle.jdwp_debuggee.specs.State.{Moment, new_state}
use Rattle.jdwp_action.specs.Actions.{Command}
use Rattle.jdwp_mirror.specs.Messages.{Ticket, Call, Message}
use Rattle.jdwp_model.specs.Events.{AskRefusal}

-- How many bytes messages have, and which commands can't be sent at all (BadCommand, TooLong). Whatever these are, all that is said of
-- a link holds.
pub record Measure : Type 0 where
  pub call : Call → ℕ
  pub message : Message → ℕ
  pub unfit : Command → Option AskRefusal

abbrev pub is_closed : Phase → Bool
is_closed phase = not (is_open_phase phase)

-- A message to the debugger, and the debuggee as it was when the target sent it.
abbrev pub Packet : Type 0 → Type 0
Packet S = Message × Moment S

pub record World (S : Type 0) : Type 0 where
  -- the debuggee
  pub now : Moment S
  -- the target's end; whether it noticed a loss in this session
  pub target : Phase
  pub lost : Bool
  -- what each end sent and the other has not handled, in order
  pub to_target : List Call
  pub to_debugger : List (Packet S)
  -- how many bytes of it came to the other end
  pub at_target : ℕ
  pub at_debugger : ℕ
  -- the commands that the target took and will answer later, the one deferred longest first; whether it defers those that may be
  pub deferred : List (Ticket × Command)
  pub deferring : Bool
  -- the debugger's end; whether it knows the widths of ids; the composites that wait for them, in order
  pub debugger : Phase
  pub ready : Bool
  pub parked : List (Packet S)
  -- the packets that it read in this session, the last first
  pub read : List (Packet S)
  -- how many tickets were given, and the commands neither answered nor lost, in the order asked
  pub asked : ℕ
  pub pending : List (Ticket × Command)

-- ---- bytes

abbrev pub calls_size : Measure → List Call → ℕ
calls_size measure [] = 0
calls_size measure (c ∷ cs) = measure.call c + calls_size measure cs

abbrev pub packets_size : {S : Type 0} → Measure → List (Packet S) → ℕ
packets_size measure [] = 0
packets_size measure (p ∷ ps) = measure.message p.0 + packets_size measure ps

-- those that were sent and did not come to the other end
abbrev pub way_to_target : {S : Type 0} → Measure → World S → ℕ
way_to_target measure w = calls_size measure w.to_target - w.at_target

abbrev pub way_to_debugger : {S : Type 0} → Measure → World S → ℕ
way_to_debugger measure w = packets_size measure w.to_debugger - w.at_debugger

-- ---- a link before its first session

abbrev pub opening : {S : Type 0} → Meaning S → S → World S
opening m s = record {
  now = record { state = new_state (m.live s); machine = s };
  target = Closed;
  lost = false;
  to_target = [];
  to_debugger = [];
  at_target = 0;
  at_debugger = 0;
  deferred = [];
  deferring = false;
  debugger = Closed;
  ready = false;
  parked = [];
  read = [];
  asked = 0;
  pending = [];
}
