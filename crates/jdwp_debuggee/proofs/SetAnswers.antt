-- What a request for events is answered is encoded by the bytes that are sent for it.
use Rattle.std.proofs.Common.{◌≡◌, ℕ, pos, ◌≤◌, ◌==◌, ◌&&◌, Bool, true, false, not, nat_le, nat_lt, if◌then◌else◌, List, [], ◌∷◌, length, Option, Some, None, refl, arith}
use Rattle.std.specs.Prelude.{⊤, int_lt}
use Rattle.std.specs.List.{list_any, filter}
use Rattle.std.proofs.lemmas.Bool.{false≢true, leb-true}
use Rattle.jdwp_wire.specs.declared.error_code.ErrorCode.{ErrorCode}
use Rattle.jdwp_wire.specs.ErrorCodes.{INVALID_THREAD, INVALID_CLASS, NOT_IMPLEMENTED, ILLEGAL_ARGUMENT, INTERNAL, INVALID_COUNT}
use Rattle.jdwp_wire.specs.Widths.{Widths}
use Rattle.jdwp_layout.specs.declared.answer.Answer.{Answer}
use Rattle.jdwp_layout.specs.declared.answer.Answer.TheVariants.{Data, Error}
use Rattle.jdwp_layout.specs.declared.item.Field.TheVariants as field
use Rattle.jdwp_layout.specs.CommandNumbers.{SET_REQUEST}
use Rattle.jdwp_layout.specs.CommandTable.{row_at}
use Rattle.jdwp_layout.specs.Shapes.{OneOf}
use Rattle.jdwp_event.specs.declared.kind.EventKind.{EventKind}
use Rattle.jdwp_event.specs.declared.kind.EventKind.TheVariants as kind
use Rattle.jdwp_event.specs.Composites.{POLICY_ALL}
use Rattle.jdwp_event.specs.EventKinds.{kind_of_byte}
use Rattle.jdwp_event.specs.Modifiers.{ModifierMeaning, Count, Conditional, ThreadOnly, ClassOnly, ClassMatch, ClassExclude, LocationOnly, ExceptionOnly, FieldOnly, Step, InstanceOnly, SourceNameMatch}
use Rattle.jdwp_machine.specs.Laws.{IsLawful, MayAnswer}
use Rattle.jdwp_machine.specs.Meanings.{Meaning}
use Rattle.jdwp_debuggee.specs.Effects.{set_by}
use Rattle.jdwp_machine.specs.declared.profile.Profile.{Profile}
use Rattle.jdwp_debuggee.specs.Refusals.{or_else, unless, is_kind, is_one_of, requestable, kind_refusal, kind_refusal_by, LAST_REQUEST, room_refusal, is_some_count, thread_refusal, class_refusal, class_refusal_by, signature_query, location_query, location_refusal, location_refusal_by, of_threads, of_no_thread, of_no_place, without_locations, not_in, is_size, is_depth, exception_refusal, modifier_refusal, modifiers_refusal, is_location, is_step, shape_refusal, set_refusal}
use Rattle.jdwp_action.specs.AnswerPackets.{EncodesAnswer}
use Rattle.jdwp_action.specs.RowLayouts.{row_reply}
use Rattle.jdwp_debuggee.specs.Settings.{Settings}
use Rattle.jdwp_debuggee.specs.State.{State, Moment, count_of}
use Rattle.jdwp_debuggee.proofs.OwnAnswers.{error-encoded, int-answer-encoded}

-- a refusal is an error
abbrev IsError : Option ErrorCode → Type 0
IsError None = ⊤
IsError (Some e) = 1 ≤ e.0

or-error : (a b : Option ErrorCode) → IsError a → IsError b → IsError (or_else a b)
or-error None b h k = k
or-error (Some e) b h k = h

unless-error : (b : Bool) (e : ErrorCode) → 1 ≤ e.0 → IsError (unless b e)
unless-error true e h = tt
unless-error false e h = h

kind-error : (profile : Profile) (byte : ℕ) (k : Option EventKind) → IsError (kind_refusal_by profile byte k)
kind-error profile byte None = omega arith
kind-error profile byte (Some k) = unless-error (is_one_of (requestable profile) byte) NOT_IMPLEMENTED (omega arith)

class-error : (a : Answer) → IsError (class_refusal_by a)
class-error (Error e) = unless-error (not (e.0 == INVALID_CLASS.0)) INVALID_CLASS (omega arith)
class-error (Data content) = tt

location-error : {S : Type 0} (m : Meaning S) (s : S) (set number : ℕ) (a : Answer) → MayAnswer m s set number a → IsError (location_refusal_by a)
location-error m s set number (Error e) h = h.0
location-error m s set number (Data content) h = tt

thread-error : (state : State) (t : ℕ) → IsError (thread_refusal state t)
thread-error state t = unless-error (is_some_count (count_of state t)) INVALID_THREAD (omega arith)

in-error : (kinds : List EventKind) (byte : ℕ) → IsError (not_in kinds byte)
in-error kinds byte = unless-error (not (is_one_of kinds byte)) ILLEGAL_ARGUMENT (omega arith)

exception-error : {S : Type 0} (m : Meaning S) (s : S) (class : ℕ) (b : Bool) → IsError (if b then None else class_refusal m s class)
exception-error m s class true = tt
exception-error m s class false = class-error (m.query s (signature_query class))

modifier-error : {S : Type 0} (m : Meaning S) → IsLawful m → (now : Moment S) → m.is_state now.machine → (byte : ℕ) (x : ModifierMeaning) → IsError (modifier_refusal m now byte x)
modifier-error m law now is byte (Count n) = unless-error (not (int_lt n (pos 1))) INVALID_COUNT (omega arith)
modifier-error m law now is byte (ThreadOnly t) = or-error (thread_refusal now.state t) (not_in of_no_thread byte) (thread-error now.state t) (in-error of_no_thread byte)
modifier-error m law now is byte (ClassOnly class) = or-error (class_refusal m now.machine class) (not_in of_no_place byte) (class-error (m.query now.machine (signature_query class))) (in-error of_no_place byte)
modifier-error m law now is byte (ClassMatch pattern) = in-error of_threads byte
modifier-error m law now is byte (ClassExclude pattern) = in-error of_threads byte
modifier-error m law now is byte (LocationOnly location) =
    or-error (location_refusal m now.machine location) (not_in without_locations byte)
    (location-error m now.machine SET_REQUEST.set SET_REQUEST.number (m.query now.machine (location_query location)) (law.answers now.machine (location_query location) is)) (in-error without_locations byte)
modifier-error m law now is byte (ExceptionOnly class caught uncaught) =
    or-error (exception_refusal m now.machine class) (unless (is_kind kind.Exception byte) ILLEGAL_ARGUMENT) (exception-error m now.machine class (class == 0)) (unless-error (is_kind kind.Exception byte) ILLEGAL_ARGUMENT (omega arith))
modifier-error m law now is byte (Step t size depth) =
    or-error (thread_refusal now.state t) (unless (is_kind kind.SingleStep byte && (is_size size && is_depth depth)) ILLEGAL_ARGUMENT) (thread-error now.state t)
    (unless-error (is_kind kind.SingleStep byte && (is_size size && is_depth depth)) ILLEGAL_ARGUMENT (omega arith))
modifier-error m law now is byte (Conditional n) = omega arith
modifier-error m law now is byte (FieldOnly class field) = omega arith
modifier-error m law now is byte (InstanceOnly object) = omega arith
modifier-error m law now is byte (SourceNameMatch pattern) = omega arith

modifiers-error : {S : Type 0} (m : Meaning S) → IsLawful m → (now : Moment S) → m.is_state now.machine → (byte : ℕ) (xs : List ModifierMeaning) → IsError (modifiers_refusal m now byte xs)
modifiers-error m law now is byte [] = tt
modifiers-error m law now is byte (x ∷ xs) = or-error (modifier_refusal m now byte x) (modifiers_refusal m now byte xs) (modifier-error m law now is byte x) (modifiers-error m law now is byte xs)

step-error : (b c : Bool) → IsError (if b then unless c ILLEGAL_ARGUMENT else None)
step-error true c = unless-error c ILLEGAL_ARGUMENT (omega arith)
step-error false c = tt

shape-by : (b c d e : Bool) → IsError (if b then unless c ILLEGAL_ARGUMENT else (if d then unless e ILLEGAL_ARGUMENT else None))
shape-by true c d e = unless-error c ILLEGAL_ARGUMENT (omega arith)
shape-by false c d e = step-error d e

shape-error : (byte : ℕ) (modifiers : List ModifierMeaning) → IsError (shape_refusal byte modifiers)
shape-error byte modifiers = shape-by (is_kind kind.Breakpoint byte) (list_any is_location modifiers) (is_kind kind.SingleStep byte) (length (filter is_step modifiers) == 1)

set-error : {S : Type 0} (m : Meaning S) → IsLawful m → (settings : Settings) (now : Moment S) → m.is_state now.machine → (byte policy : ℕ) (modifiers : List ModifierMeaning) → IsError (set_refusal m settings now byte policy modifiers)
set-error m law settings now is byte policy modifiers =
    let shape = shape_refusal byte modifiers in
    let named = or_else (modifiers_refusal m now byte modifiers) shape in
    let roomy = or_else (room_refusal settings now.state) named in
    let suits = or_else (unless (nat_le policy POLICY_ALL) ILLEGAL_ARGUMENT) roomy in
    or-error (kind_refusal settings.profile byte) suits (kind-error settings.profile byte (kind_of_byte byte)) (
    or-error (unless (nat_le policy POLICY_ALL) ILLEGAL_ARGUMENT) roomy (unless-error (nat_le policy POLICY_ALL) ILLEGAL_ARGUMENT (omega arith)) (
    or-error (room_refusal settings now.state) named (unless-error (nat_lt (length now.state.requests) settings.limits.requests && nat_le now.state.next_request LAST_REQUEST) INTERNAL (omega arith)) (
    or-error (modifiers_refusal m now byte modifiers) shape (modifiers-error m law now is byte modifiers) (shape-error byte modifiers))))

-- ---- a request that is made

or-none : (a b : Option ErrorCode) → or_else a b ≡ None → (a ≡ None) × (b ≡ None)
or-none None b h = (refl, h)
or-none (Some e) b h = absurd cc

unless-none : (b : Bool) (e : ErrorCode) → unless b e ≡ None → b ≡ true
unless-none true e h = refl
unless-none false e h = absurd cc

and-second : (a b : Bool) → (a && b) ≡ true → b ≡ true
and-second true b h = h
and-second false b h = absurd (false≢true h)

next-most : {S : Type 0} (m : Meaning S) (settings : Settings) (now : Moment S) (byte policy : ℕ) (modifiers : List ModifierMeaning) → set_refusal m settings now byte policy modifiers ≡ None → now.state.next_request ≤ LAST_REQUEST
next-most m settings now byte policy modifiers h =
    let shape = shape_refusal byte modifiers in
    let named = or_else (modifiers_refusal m now byte modifiers) shape in
    let roomy = or_else (room_refusal settings now.state) named in
    let suits = or_else (unless (nat_le policy POLICY_ALL) ILLEGAL_ARGUMENT) roomy in
    let one = or-none (kind_refusal settings.profile byte) suits h in
    let two = or-none (unless (nat_le policy POLICY_ALL) ILLEGAL_ARGUMENT) roomy one.1 in
    let three = or-none (room_refusal settings now.state) named two.1 in
    let test = unless-none (nat_lt (length now.state.requests) settings.limits.requests && nat_le now.state.next_request LAST_REQUEST) INTERNAL three.0 in
    leb-true now.state.next_request LAST_REQUEST (and-second (nat_lt (length now.state.requests) settings.limits.requests) (nat_le now.state.next_request LAST_REQUEST) test)

set-by-encoded : {S : Type 0} (m : Meaning S) (now : Moment S) (byte policy : ℕ) (modifiers : List ModifierMeaning) (w : Widths) (set number : ℕ) (refusal : Option ErrorCode) → IsError refusal → (refusal ≡ None → now.state.next_request ≤ LAST_REQUEST)
    → row_reply (row_at set number) ≡ Some (OneOf field.Int ∷ []) → EncodesAnswer w set number (set_by m now byte policy modifiers refusal).answer
set-by-encoded m now byte policy modifiers w set number (Some e) error most shape = error-encoded w set number e error
set-by-encoded m now byte policy modifiers w set number None error most shape = int-answer-encoded w set number now.state.next_request (most refl) shape

pub set-encoded : {S : Type 0} (m : Meaning S) → IsLawful m → (settings : Settings) (now : Moment S) → m.is_state now.machine → (byte policy : ℕ) (modifiers : List ModifierMeaning) (w : Widths) (set number : ℕ) → row_reply (row_at set number) ≡ Some (OneOf field.Int ∷ [])
    → EncodesAnswer w set number (set_by m now byte policy modifiers (set_refusal m settings now byte policy modifiers)).answer
set-encoded m law settings now is byte policy modifiers w set number shape =
    set-by-encoded m now byte policy modifiers w set number (set_refusal m settings now byte policy modifiers) (set-error m law settings now is byte policy modifiers)
    (λ none. next-most m settings now byte policy modifiers none) shape
