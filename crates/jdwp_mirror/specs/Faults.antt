-- Which packets a debugger refuses from a target, and why. A refused packet closes the debugger's end.
use Rattle.std.specs.Prelude.{ℕ, pos, ◌==◌, nat_le, nat_lt, Bool, true, false, ◌||◌, ◌&&◌, not, List, [], ◌∷◌, length, Option, Some, None, is_some, if◌then◌else◌}
use Rattle.std.specs.List.{list_any}
use Rattle.jdwp_layout.specs.declared.answer.Answer.{Answer}
use Rattle.jdwp_layout.specs.declared.answer.Answer.TheVariants.{Data, Error}
use Rattle.jdwp_layout.specs.Meanings.{ScalarMeaning, Int, DatumMeaning, One}
use Rattle.jdwp_event.specs.Composites.{CompositeMeaning, POLICY_NONE, POLICY_ALL}
use Rattle.jdwp_event.specs.Told.{event_thread, events_thread, composite_thread, is_vm_death}
use Rattle.jdwp_action.specs.Actions
use Rattle.jdwp_action.specs.Actions.{Command, Action, action_of}
use Rattle.jdwp_mirror.specs.Messages.{Ticket, same_ticket, Message, Handshake, Reply, Report}
use Rattle.jdwp_mirror.specs.Mirror.{learned, counted, given_id, is_positive}

pub data Fault : Type 0 where
  -- a handshake after the first, or something else in place of it
  BadHandshake : Fault
  -- a reply to no command that waits for one
  UnknownReply : Fault
  -- a reply that says nothing a debugger can use
  BadReply : Fault
  -- one composite too many before the widths of ids are known
  TooManyParked : Fault
  -- a composite that no target may send
  BadEvent : Fault

-- What a debugger knows as it reads a packet: whether the target's handshake came; whether the widths of ids are known; the composites
-- that wait for them; the commands that wait for replies; and the mirror's counts.
pub record Reader : Type 0 where
  pub greeted : Bool
  pub ready : Bool
  pub parked : List Message
  pub pending : List (Ticket × Command)
  pub counts : ℕ → Option ℕ

abbrev pub or_else : Option Fault → Option Fault → Option Fault
or_else (Some f) next = Some f
or_else None next = next

abbrev pub when : Bool → Fault → Option Fault
when true f = Some f
when false f = None

-- ---- replies

abbrev pub is_of_ticket : Ticket → Ticket × Command → Bool
is_of_ticket k p = same_ticket p.0 k

abbrev pub is_waited_for : Ticket → List (Ticket × Command) → Bool
is_waited_for k pending = list_any (is_of_ticket k) pending

-- a width from 1 to 8
abbrev pub is_width : DatumMeaning → Bool
is_width (One (Int (pos n))) = nat_le 1 n && nat_le n 8
is_width item = false

abbrev pub are_widths : List DatumMeaning → Bool
are_widths (a ∷ b ∷ c ∷ d ∷ e ∷ []) = is_width a && (is_width b && (is_width c && (is_width d && is_width e)))
are_widths content = false

-- a suspend count that is none, a request's id that is none, and widths that are none
abbrev pub is_bad_data : Action → List DatumMeaning → Bool
is_bad_data (Actions.SuspendCount t) content = not (is_some (counted content))
is_bad_data (Actions.SetRequest byte policy entries) content = not (is_some (given_id content))
is_bad_data Actions.IdSizes content = not (are_widths content)
is_bad_data action content = false

-- IDSizes is never refused
abbrev pub is_bad_error : Action → Bool
is_bad_error Actions.IdSizes = true
is_bad_error action = false

abbrev pub is_bad_reply : Command → Answer → Bool
is_bad_reply c (Data content) = is_bad_data (action_of c) content
is_bad_reply c (Error e) = is_bad_error (action_of c)

-- ---- composites

-- all events that have a thread have the same
abbrev pub is_of : Option ℕ → Option ℕ → Bool
is_of None thread = true
is_of (Some t) None = true
is_of (Some t) (Some u) = t == u

abbrev pub is_of_two : List (List ScalarMeaning) → Bool
is_of_two [] = false
is_of_two (event ∷ events) = not (is_of (event_thread event) (events_thread events)) || is_of_two events

abbrev pub count_of_thread : (ℕ → Option ℕ) → Option ℕ → Option ℕ
count_of_thread counts None = None
count_of_thread counts (Some t) = counts t

-- No event; a policy that is none; events of two threads; an event of a thread that can't have run, as it is known with a count above 0;
-- VM_DEATH beside another event, or with a policy other than NONE.
abbrev pub is_bad_event : (ℕ → Option ℕ) → CompositeMeaning → Bool
is_bad_event counts c =
    (length c.events == 0) || (not (nat_le c.policy POLICY_ALL) || (is_of_two c.events ||
    (is_positive (count_of_thread counts (composite_thread c)) ||
    (is_vm_death c && (not (length c.events == 1) || not (c.policy == POLICY_NONE))))))

-- of those that waited, in order, each judged after those before it
abbrev pub has_bad_event : (ℕ → Option ℕ) → List Message → Bool
has_bad_event counts [] = false
has_bad_event counts (Report c ∷ messages) = is_bad_event counts c || has_bad_event (λ t. learned (Report c) t (counts t)) messages
has_bad_event counts (message ∷ messages) = has_bad_event counts messages

-- ---- all packets

-- how many composites may wait for the widths of ids
abbrev pub PARKED_MOST : ℕ
PARKED_MOST = 4

abbrev pub fault_after_greeting : Reader → Message → Option Fault
fault_after_greeting r Handshake = Some BadHandshake
fault_after_greeting r (Reply k c answer) =
    or_else (when (not (is_waited_for k r.pending)) UnknownReply) (or_else (when (is_bad_reply c answer) BadReply) (when (has_bad_event r.counts r.parked) BadEvent))
fault_after_greeting r (Report c) =
    if r.ready then when (is_bad_event r.counts c) BadEvent else when (not (nat_lt (length r.parked) PARKED_MOST)) TooManyParked

abbrev pub fault_before_greeting : Message → Option Fault
fault_before_greeting Handshake = None
fault_before_greeting message = Some BadHandshake

-- Why a packet is refused, or none.
abbrev pub fault_of : Reader → Message → Option Fault
fault_of r message = if r.greeted then fault_after_greeting r message else fault_before_greeting message
