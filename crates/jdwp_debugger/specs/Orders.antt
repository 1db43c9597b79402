-- What a debugger refuses and learns, by the order in which its target sends what it says.
use Rattle.std.specs.Prelude.{◌≡◌, ℕ, nat_le, nat_lt, Bool, false, ◌||◌, ◌&&◌, not, List, [], ◌∷◌, length, Option, Some, None, if◌then◌else◌}
use Rattle.std.specs.List.{list_any}
use Rattle.jdwp_layout.specs.Meanings.{ScalarMeaning}
use Rattle.jdwp_event.specs.Composites.{CompositeMeaning, POLICY_ALL}
use Rattle.jdwp_event.specs.Told.{is_event_of}
use Rattle.jdwp_event.specs.declared.kind.EventKind.TheVariants as kind
use Rattle.jdwp_debugger.specs.declared.order.Order.{Order}
use Rattle.jdwp_debugger.specs.declared.order.Order.TheVariants.{One, Apart}
use Rattle.jdwp_mirror.specs.Faults.{BadEvent, BadHandshake, Fault, PARKED_MOST, Reader, TooManyParked, UnknownReply, BadReply, fault_before_greeting, fault_of, has_bad_event, is_bad_event, is_bad_reply, is_waited_for, or_else, when}
use Rattle.jdwp_mirror.specs.Messages.{Message, Handshake, Reply, Report}
use Rattle.jdwp_mirror.specs.Mirror.{requests_after}
use Rattle.jdwp_mirror.specs.Mirrors.{Mirror, Learned}

-- no thread is known
abbrev pub none_known : ℕ → Option ℕ
none_known t = None

-- ---- composites of a target that sends replies and composites by threads of their own

-- an event of another kind than VM_DEATH
abbrev pub is_no_death : List ScalarMeaning → Bool
is_no_death event = not (is_event_of kind.VmDeath event)

-- Several events, all of VM_DEATH: where requests asked for it, a target sends an event for each, and the one that it sends by itself, in
-- one composite with the policy asked.
abbrev pub is_asked_death : CompositeMeaning → Bool
is_asked_death c = nat_lt 1 (length c.events) && not (list_any is_no_death c.events)

-- A composite that such a target may not send. It may be read before the reply to a Resume that was carried out before its events: so no count
-- says anything of it, and it is judged as where no thread is known.
abbrev pub is_bad_event_apart : CompositeMeaning → Bool
is_bad_event_apart c = if is_asked_death c then not (nat_le c.policy POLICY_ALL) else is_bad_event none_known c

abbrev pub has_bad_event_apart : List Message → Bool
has_bad_event_apart [] = false
has_bad_event_apart (Report c ∷ messages) = is_bad_event_apart c || has_bad_event_apart messages
has_bad_event_apart (message ∷ messages) = has_bad_event_apart messages

-- ---- by the order

-- Where each packet is sent as the target acts, the counts that are known say which composites it may not send.
abbrev pub is_bad_in : Order → (ℕ → Option ℕ) → CompositeMeaning → Bool
is_bad_in One counts c = is_bad_event counts c
is_bad_in Apart counts c = is_bad_event_apart c

abbrev pub has_bad_in : Order → (ℕ → Option ℕ) → List Message → Bool
has_bad_in One counts messages = has_bad_event counts messages
has_bad_in Apart counts messages = has_bad_event_apart messages

-- ---- all packets

abbrev pub fault_after_greeting_apart : Reader → Message → Option Fault
fault_after_greeting_apart r Handshake = Some BadHandshake
fault_after_greeting_apart r (Reply k c answer) =
    or_else (when (not (is_waited_for k r.pending)) UnknownReply) (or_else (when (is_bad_reply c answer) BadReply) (when (has_bad_event_apart r.parked) BadEvent))
fault_after_greeting_apart r (Report c) =
    if r.ready then when (is_bad_event_apart c) BadEvent else when (not (nat_lt (length r.parked) PARKED_MOST)) TooManyParked

abbrev pub fault_apart : Reader → Message → Option Fault
fault_apart r message = if r.greeted then fault_after_greeting_apart r message else fault_before_greeting message

-- Why a packet is refused, or none.
abbrev pub fault_in : Order → Reader → Message → Option Fault
fault_in One r message = fault_of r message
fault_in Apart r message = fault_apart r message

-- ---- what is learned

-- Where replies and composites are sent by threads of their own, the order in which they are read is not that of what they tell: so no count
-- is learned of it, and no thread, but only the requests.
abbrev pub LearnedIn : Order → Mirror → Message → Mirror → Type 0
LearnedIn One old message new = Learned old message new
LearnedIn Apart old message new = (new.threads ≡ []) × (new.requests ≡ requests_after message old.requests)

-- what is kept so that this can be learned
abbrev pub MayLearn : Order → Mirror → Type 0
MayLearn One m = Unit {0}
MayLearn Apart m = m.threads ≡ []
