-- Writing slots of a frame (JDWP specification, "StackFrame": SetValues).
use Rattle.std.specs.Prelude.{ℕ, ℤ, ◌==◌, ◌||◌, Bool, true, false, not, List, [], ◌∷◌, map, if◌then◌else◌, Option, Some, None}
use Rattle.std.specs.List.{list_any, list_all}
use Rattle.std.specs.Ordering.{int_eq}
use Rattle.jdwp_wire.specs.declared.error_code.ErrorCode.{ErrorCode}
use Rattle.jdwp_wire.specs.ErrorCodes.{INVALID_OBJECT, INVALID_FRAMEID, TYPE_MISMATCH, INVALID_SLOT}
use Rattle.jdwp_value.specs.declared.tag.Tag.{Tag}
use Rattle.jdwp_value.specs.declared.value.Value.{Value}
use Rattle.jdwp_value.specs.declared.value.Value.TheVariants as value
use Rattle.jdwp_value.specs.Tags.{tag_byte}
use Rattle.jdwp_value.specs.Values.{tag_of, is_object, is_void}
use Rattle.jdwp_layout.specs.declared.answer.Answer.{Answer}
use Rattle.jdwp_layout.specs.declared.answer.Answer.TheVariants.{Data, Error}
use Rattle.jdwp_script_machine.specs.LookUps.{with_id, changed}
use Rattle.jdwp_script_machine.specs.States.{SlotNow, FrameNow, ThreadNow, State, thread_at}
use Rattle.jdwp_script_machine.specs.Sites.{is_known}

-- ---- what is tested

-- what a slot holds; None where there is no such slot
abbrev pub slot_value : ℤ → List SlotNow → Option Value
slot_value n [] = None
slot_value n (x ∷ xs) = if int_eq x.slot n then Some x.value else slot_value n xs

abbrev pub has_slot : List SlotNow → ℤ → Bool
has_slot slots n = list_any (λ (x : SlotNow). int_eq x.slot n) slots

-- Whether a value of this tag may be asked of, or written into, a slot of that tag: any object tag for an object, never
-- void, and else the very tag.
abbrev pub suits : Tag → Tag → Bool
suits slot asked = if is_void asked then false else (if is_object slot then is_object asked else (tag_byte slot == tag_byte asked))

abbrev pub found_suits : Option Value → Tag → Bool
found_suits None asked = false
found_suits (Some v) asked = suits (tag_of v) asked

-- an object has to be null or known
abbrev pub may_hold : State → Value → Bool
may_hold s (value.Object x) = (x.id.0 == 0) || is_known s x.id.0
may_hold s (value.Byte n) = true
may_hold s (value.Char n) = true
may_hold s (value.Double n) = true
may_hold s (value.Float n) = true
may_hold s (value.Int n) = true
may_hold s (value.Long n) = true
may_hold s (value.Short n) = true
may_hold s value.Void = true
may_hold s (value.Boolean b) = true

-- Why values can't be written into these slots: first every slot is tested, then every tag, then every object.
abbrev pub slots_refusal : State → List SlotNow → List (ℤ × Value) → Option ErrorCode
slots_refusal s slots values =
    if not (list_all (λ (v : ℤ × Value). has_slot slots v.0) values) then Some INVALID_SLOT else (
    if not (list_all (λ (v : ℤ × Value). found_suits (slot_value v.0 slots) (tag_of v.1)) values) then Some TYPE_MISMATCH else (
    if not (list_all (λ (v : ℤ × Value). may_hold s v.1) values) then Some INVALID_OBJECT else
    None))

abbrev pub frame_refusal : State → List (ℤ × Value) → Option FrameNow → Option ErrorCode
frame_refusal s values None = Some INVALID_FRAMEID
frame_refusal s values (Some f) = slots_refusal s f.slots values

abbrev pub frame_in : ℕ → List FrameNow → Option FrameNow
frame_in f fs = with_id (λ (x : FrameNow). x.id) f fs

abbrev pub thread_refusal : State → ℕ → List (ℤ × Value) → Option ThreadNow → Option ErrorCode
thread_refusal s f values None = Some INVALID_OBJECT
thread_refusal s f values (Some e) = frame_refusal s values (frame_in f e.frames)

-- why values can't be written into slots of a frame of a thread
abbrev pub write_refusal : State → ℕ → ℕ → List (ℤ × Value) → Option ErrorCode
write_refusal s t f values = thread_refusal s f values (thread_at s t)

-- ---- what is written

-- a slot with a value in place of its own, and so with the value's tag
abbrev pub slot_written : ℤ × Value → SlotNow → SlotNow
slot_written v x = if int_eq x.slot v.0 then record x { value = v.1 } else x

-- the slots after the values were written in turn
abbrev pub slots_written : List (ℤ × Value) → List SlotNow → List SlotNow
slots_written [] slots = slots
slots_written (v ∷ values) slots = slots_written values (map (slot_written v) slots)

abbrev pub frame_written : List (ℤ × Value) → FrameNow → FrameNow
frame_written values f = record f { slots = slots_written values f.slots }

abbrev pub thread_written : ℕ → List (ℤ × Value) → ThreadNow → ThreadNow
thread_written f values e = record e { frames = changed (λ (x : FrameNow). x.id) f (frame_written values) e.frames }

abbrev pub answer_of_refusal : Option ErrorCode → Answer
answer_of_refusal None = Data []
answer_of_refusal (Some e) = Error e

abbrev pub write_answer : State → ℕ → ℕ → List (ℤ × Value) → Answer
write_answer s t f values = answer_of_refusal (write_refusal s t f values)

abbrev pub written_by : State → ℕ → ℕ → List (ℤ × Value) → Option ErrorCode → State
written_by s t f values None = record s { threads = changed (λ (e : ThreadNow). e.id) t (thread_written f values) s.threads }
written_by s t f values (Some e) = s

-- all values are written, or none
abbrev pub written : State → ℕ → ℕ → List (ℤ × Value) → State
written s t f values = written_by s t f values (write_refusal s t f values)
