-- Which event requests are refused, and why (JDWP specification, "Protocol Details": EventRequest.Set). The tests are made in this
-- order, and the first that fails is the answer.
use Rattle.jdwp_wire.specs.Numbers.{greatest_int}
use Rattle.std.specs.Prelude.{ℕ, ℤ, pos, ◌==◌, nat_le, nat_lt, int_lt, Bool, true, false, ◌&&◌, not, List, [], ◌∷◌, length, Option, Some, None, is_some, if◌then◌else◌}
use Rattle.std.specs.List.{list_any, filter}
use Rattle.jdwp_wire.specs.declared.error_code.ErrorCode.{ErrorCode}
use Rattle.jdwp_wire.specs.ErrorCodes.{INVALID_THREAD, INVALID_CLASS, NOT_IMPLEMENTED, INVALID_EVENT_TYPE, ILLEGAL_ARGUMENT, INTERNAL, INVALID_COUNT}
use Rattle.jdwp_value.specs.declared.location.Location.{Location}
use Rattle.jdwp_layout.specs.declared.answer.Answer.{Answer}
use Rattle.jdwp_layout.specs.declared.answer.Answer.TheVariants.{Data, Error}
use Rattle.jdwp_layout.specs.CommandNumbers.{SIGNATURE, SET_REQUEST}
use Rattle.jdwp_layout.specs.Meanings.{ReferenceType, One}
use Rattle.jdwp_event.specs.declared.kind.EventKind.{EventKind}
use Rattle.jdwp_event.specs.declared.kind.EventKind.TheVariants as kind
use Rattle.jdwp_event.specs.Composites.{POLICY_ALL}
use Rattle.jdwp_event.specs.Constants.{size_of_number, depth_of_number}
use Rattle.jdwp_event.specs.EventKinds.{kind_byte, kind_of_byte}
use Rattle.jdwp_event.specs.Modifiers.{ModifierMeaning, Count, Conditional, ThreadOnly, ClassOnly, ClassMatch, ClassExclude, LocationOnly, ExceptionOnly, FieldOnly, Step, InstanceOnly, SourceNameMatch}
use Rattle.jdwp_machine.specs.declared.query.Query.{Query}
use Rattle.jdwp_machine.specs.Laws.{breakpoint_at}
use Rattle.jdwp_machine.specs.Meanings.{Meaning}
use Rattle.jdwp_machine.specs.declared.profile.Profile.{Profile}
use Rattle.jdwp_machine.specs.declared.profile.Profile.TheVariants.{Standard, Jdi}
use Rattle.jdwp_debuggee.specs.Settings.{Settings}
use Rattle.jdwp_debuggee.specs.State.{State, Moment, count_of}

-- the first refusal of two tests
abbrev pub or_else : Option ErrorCode → Option ErrorCode → Option ErrorCode
or_else (Some e) next = Some e
or_else None next = next

abbrev pub unless : Bool → ErrorCode → Option ErrorCode
unless true e = None
unless false e = Some e

-- ---- kinds

abbrev pub is_kind : EventKind → ℕ → Bool
is_kind k byte = byte == kind_byte k

abbrev pub is_one_of : List EventKind → ℕ → Bool
is_one_of kinds byte = list_any (λ (k : EventKind). byte == kind_byte k) kinds

-- the kinds that may be requested in each profile
abbrev pub requestable_anywhere : List EventKind
requestable_anywhere =
    kind.SingleStep ∷ kind.Breakpoint ∷ kind.Exception ∷ kind.ThreadStart ∷ kind.ThreadDeath ∷ kind.ClassPrepare ∷
    kind.MethodEntry ∷ kind.MethodExit ∷ kind.MethodExitWithReturnValue ∷ []

-- and those of a profile: debuggers over the Java Debug Interface may ask for the unloading of classes, which never happens
abbrev pub requestable : Profile → List EventKind
requestable Standard = requestable_anywhere
requestable Jdi = kind.ClassUnload ∷ requestable_anywhere

-- a byte of no kind, and a kind that is not implemented
abbrev pub kind_refusal_by : Profile → ℕ → Option EventKind → Option ErrorCode
kind_refusal_by profile byte None = Some INVALID_EVENT_TYPE
kind_refusal_by profile byte (Some k) = unless (is_one_of (requestable profile) byte) NOT_IMPLEMENTED

abbrev pub kind_refusal : Profile → ℕ → Option ErrorCode
kind_refusal profile byte = kind_refusal_by profile byte (kind_of_byte byte)

-- ---- room

-- the greatest id of a request, which is an int on the wire
abbrev pub LAST_REQUEST : ℕ
LAST_REQUEST = greatest_int

abbrev pub room_refusal : Settings → State → Option ErrorCode
room_refusal settings state = unless (nat_lt (length state.requests) settings.limits.requests && nat_le state.next_request LAST_REQUEST) INTERNAL

-- ---- what modifiers name

abbrev pub is_some_count : Option ℕ → Bool
is_some_count None = false
is_some_count (Some n) = true

abbrev pub thread_refusal : State → ℕ → Option ErrorCode
thread_refusal state t = unless (is_some_count (count_of state t)) INVALID_THREAD

-- a class is unknown where the machine answers so when it is asked for the signature
abbrev pub signature_query : ℕ → Query
signature_query class = record { set = SIGNATURE.set; number = SIGNATURE.number; content = One (ReferenceType class) ∷ [] }

abbrev pub class_refusal_by : Answer → Option ErrorCode
class_refusal_by (Error e) = unless (not (e.0 == INVALID_CLASS.0)) INVALID_CLASS
class_refusal_by (Data content) = None

abbrev pub class_refusal : {S : Type 0} → Meaning S → S → ℕ → Option ErrorCode
class_refusal m s class = class_refusal_by (m.query s (signature_query class))

-- a location, as the only modifier of a breakpoint: the machine answers whether there is such a place
abbrev pub location_query : Location → Query
location_query location = record {
  set = SET_REQUEST.set;
  number = SET_REQUEST.number;
  content = breakpoint_at location;
}

abbrev pub location_refusal_by : Answer → Option ErrorCode
location_refusal_by (Error e) = Some e
location_refusal_by (Data content) = None

abbrev pub location_refusal : {S : Type 0} → Meaning S → S → Location → Option ErrorCode
location_refusal m s location = location_refusal_by (m.query s (location_query location))

-- ---- which modifiers suit which kinds

abbrev pub of_threads : List EventKind
of_threads = kind.ThreadStart ∷ kind.ThreadDeath ∷ []

-- kinds that no thread runs into, and kinds that are at no place in a class
abbrev pub of_no_thread : List EventKind
of_no_thread = kind.ClassUnload ∷ []

abbrev pub of_no_place : List EventKind
of_no_place = kind.ClassUnload ∷ of_threads

-- kinds at which a location says nothing of its own
abbrev pub without_locations : List EventKind
without_locations =
    kind.ThreadStart ∷ kind.ThreadDeath ∷ kind.ClassPrepare ∷ kind.ClassUnload ∷ kind.MethodEntry ∷ kind.MethodExit ∷ kind.MethodExitWithReturnValue ∷ []

abbrev pub not_in : List EventKind → ℕ → Option ErrorCode
not_in kinds byte = unless (not (is_one_of kinds byte)) ILLEGAL_ARGUMENT

-- the sizes and depths of steps that there are
abbrev pub is_size : ℤ → Bool
is_size n = is_some (size_of_number n)

abbrev pub is_depth : ℤ → Bool
is_depth n = is_some (depth_of_number n)

abbrev pub exception_refusal : {S : Type 0} → Meaning S → S → ℕ → Option ErrorCode
exception_refusal m s class = if class == 0 then None else class_refusal m s class

-- ---- a modifier, in a request of this kind

abbrev pub modifier_refusal : {S : Type 0} → Meaning S → Moment S → ℕ → ModifierMeaning → Option ErrorCode
modifier_refusal m now byte (Count n) = unless (not (int_lt n (pos 1))) INVALID_COUNT
modifier_refusal m now byte (ThreadOnly t) = or_else (thread_refusal now.state t) (not_in of_no_thread byte)
modifier_refusal m now byte (ClassOnly class) = or_else (class_refusal m now.machine class) (not_in of_no_place byte)
modifier_refusal m now byte (ClassMatch pattern) = not_in of_threads byte
modifier_refusal m now byte (ClassExclude pattern) = not_in of_threads byte
modifier_refusal m now byte (LocationOnly location) = or_else (location_refusal m now.machine location) (not_in without_locations byte)
modifier_refusal m now byte (ExceptionOnly class caught uncaught) =
    or_else (exception_refusal m now.machine class) (unless (is_kind kind.Exception byte) ILLEGAL_ARGUMENT)
modifier_refusal m now byte (Step t size depth) =
    or_else (thread_refusal now.state t) (unless (is_kind kind.SingleStep byte && (is_size size && is_depth depth)) ILLEGAL_ARGUMENT)
modifier_refusal m now byte (Conditional n) = Some NOT_IMPLEMENTED
modifier_refusal m now byte (FieldOnly class field) = Some NOT_IMPLEMENTED
modifier_refusal m now byte (InstanceOnly object) = Some NOT_IMPLEMENTED
modifier_refusal m now byte (SourceNameMatch pattern) = Some NOT_IMPLEMENTED

-- one after the other, in the order sent
abbrev pub modifiers_refusal : {S : Type 0} → Meaning S → Moment S → ℕ → List ModifierMeaning → Option ErrorCode
modifiers_refusal m now byte [] = None
modifiers_refusal m now byte (x ∷ xs) = or_else (modifier_refusal m now byte x) (modifiers_refusal m now byte xs)

-- ---- what a request of a kind must have

abbrev pub is_location : ModifierMeaning → Bool
is_location (LocationOnly location) = true
is_location modifier = false

abbrev pub is_step : ModifierMeaning → Bool
is_step (Step t size depth) = true
is_step modifier = false

-- a breakpoint has a location, and a single step exactly one Step
abbrev pub shape_refusal : ℕ → List ModifierMeaning → Option ErrorCode
shape_refusal byte modifiers =
    if is_kind kind.Breakpoint byte then unless (list_any is_location modifiers) ILLEGAL_ARGUMENT else
    (if is_kind kind.SingleStep byte then unless (length (filter is_step modifiers) == 1) ILLEGAL_ARGUMENT else None)

-- ---- all of it

abbrev pub set_refusal : {S : Type 0} → Meaning S → Settings → Moment S → ℕ → ℕ → List ModifierMeaning → Option ErrorCode
set_refusal m settings now byte policy modifiers =
    or_else (kind_refusal settings.profile byte) (
    or_else (unless (nat_le policy POLICY_ALL) ILLEGAL_ARGUMENT) (
    or_else (room_refusal settings now.state) (
    or_else (modifiers_refusal m now byte modifiers) (
    shape_refusal byte modifiers))))
