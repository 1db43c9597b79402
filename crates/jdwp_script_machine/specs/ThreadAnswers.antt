-- What is answered of threads, their frames and the slots of frames (JDWP specification, "ThreadReference" and
-- "StackFrame"), and whether a location is one at which a breakpoint may be set ("EventRequest": Set).
use Rattle.std.specs.Prelude.{ℕ, pos, ◌==◌, ◌&&◌, Bool, true, false, not, List, [], ◌∷◌, map, length, nat_lt, if◌then◌else◌, Option, Some, None, option_map}
use Rattle.std.specs.List.{list_all}
use Rattle.jdwp_wire.specs.ErrorCodes.{INVALID_CLASS, INVALID_METHODID, INVALID_LOCATION, TYPE_MISMATCH, INVALID_SLOT, NOT_IMPLEMENTED}
use Rattle.jdwp_value.specs.declared.location.Location.{Location}
use Rattle.jdwp_value.specs.declared.location.Location.TheVariants.{Null, At}
use Rattle.jdwp_value.specs.declared.tag.Tag.{Tag}
use Rattle.jdwp_value.specs.declared.value.Value.{Value}
use Rattle.jdwp_value.specs.Tags.{tag_of_byte}
use Rattle.jdwp_layout.specs.declared.answer.Answer.{Answer}
use Rattle.jdwp_layout.specs.declared.answer.Answer.TheVariants.{Data, Error}
use Rattle.jdwp_layout.specs.CommandNumbers.{THREAD_NAME, THREAD_GROUP, FRAMES, FRAME_COUNT, GET_SLOTS, THIS_OBJECT}
use Rattle.jdwp_layout.specs.ModifierKindNumbers.{LOCATION_ONLY}
use Rattle.jdwp_layout.specs.Meanings.{ScalarMeaning, Byte, Int, Text, Object, Frame, Located, Valued, Tagged, One, Many}
use Rattle.jdwp_event.specs.declared.kind.EventKind.TheVariants as event
use Rattle.jdwp_event.specs.Composites.{POLICY_NONE}
use Rattle.jdwp_event.specs.EventKinds.{kind_byte}
use Rattle.jdwp_script.specs.Parts.{ClassPart, MethodPart, ThreadPart, ScriptPart}
use Rattle.jdwp_script_machine.specs.States.{SlotNow, FrameNow, ThreadNow, State, thread_at}
use Rattle.jdwp_script_machine.specs.Sites.{class_in, method_in, tagged, frame_location}
use Rattle.jdwp_script_machine.specs.SlotWrites.{slot_value, found_suits, has_slot}
use Rattle.jdwp_script_machine.specs.Requests.{Asks, alone, found_or, of_thread, of_frames, of_frame, of_entries, of_part}

-- the frames of a thread, the newest first
abbrev pub frames_at : State → ℕ → Option (List FrameNow)
frames_at s t = option_map (λ (e : ThreadNow). e.frames) (thread_at s t)

-- ---- ThreadReference

abbrev pub thread_name_answer : ThreadPart → Asks
thread_name_answer t = alone (Data (One (Text t.name) ∷ []))

abbrev pub thread_group_answer : ThreadPart → Asks
thread_group_answer t = alone (Data (One (Object t.group) ∷ []))

abbrev pub frame_entry : ScriptPart → FrameNow → List ScalarMeaning
frame_entry script f = Frame f.id ∷ Located (frame_location script f) ∷ []

abbrev pub frames_listed : ScriptPart → List FrameNow → Answer
frames_listed script fs = Data (Many (map (frame_entry script) fs) ∷ [])

-- some frames, from the newest on; a length of -1 means the rest
abbrev pub frames_answer : ScriptPart → List FrameNow → Asks
frames_answer script fs = of_part true (frames_listed script) fs

abbrev pub count_answer : List FrameNow → Answer
count_answer fs = Data (One (Int (pos (length fs))) ∷ [])

abbrev pub frame_count_answer : List FrameNow → Asks
frame_count_answer fs = alone (count_answer fs)

abbrev pub thread_answer_by : ScriptPart → (ℕ → Option (List FrameNow)) → ℕ → Asks
thread_answer_by script frames number content =
    if number == THREAD_NAME.number then of_thread script thread_name_answer content else (
    if number == THREAD_GROUP.number then of_thread script thread_group_answer content else (
    if number == FRAMES.number then of_frames frames (frames_answer script) content else (
    if number == FRAME_COUNT.number then of_frames frames frame_count_answer content else
    Error NOT_IMPLEMENTED)))

-- ---- StackFrame

-- the slot that an entry names, and the byte of the tag asked for
abbrev pub entry_has_slot : List SlotNow → List ScalarMeaning → Bool
entry_has_slot slots (Int n ∷ Byte asked ∷ []) = has_slot slots n
entry_has_slot slots entry = false

abbrev pub byte_suits : Option Value → Option Tag → Bool
byte_suits held None = false
byte_suits held (Some asked) = found_suits held asked

abbrev pub entry_suits : List SlotNow → List ScalarMeaning → Bool
entry_suits slots (Int n ∷ Byte asked ∷ []) = byte_suits (slot_value n slots) (tag_of_byte asked)
entry_suits slots entry = false

abbrev pub with_entry : Option Value → List (List ScalarMeaning) → List (List ScalarMeaning)
with_entry None entries = entries
with_entry (Some v) entries = (Valued v ∷ []) ∷ entries

abbrev pub entry_slot : List SlotNow → List ScalarMeaning → Option Value
entry_slot slots (Int n ∷ Byte asked ∷ []) = slot_value n slots
entry_slot slots entry = None

-- the values of the slots asked, in the order asked
abbrev pub slot_entries : List SlotNow → List (List ScalarMeaning) → List (List ScalarMeaning)
slot_entries slots [] = []
slot_entries slots (entry ∷ entries) = with_entry (entry_slot slots entry) (slot_entries slots entries)

-- first every slot is tested, then every tag
abbrev pub slots_asked : List SlotNow → List (List ScalarMeaning) → Answer
slots_asked slots entries =
    if not (list_all (entry_has_slot slots) entries) then Error INVALID_SLOT else (
    if not (list_all (entry_suits slots) entries) then Error TYPE_MISMATCH else
    Data (Many (slot_entries slots entries) ∷ []))

abbrev pub slots_answer : FrameNow → Asks
slots_answer f = of_entries (slots_asked f.slots)

-- null where the frame has none
abbrev pub this_answer : ScriptPart → FrameNow → Asks
this_answer script f = alone (Data (One (Tagged (tagged script f.this)) ∷ []))

abbrev pub stack_frame_answer_by : ScriptPart → (ℕ → Option (List FrameNow)) → ℕ → Asks
stack_frame_answer_by script frames number content =
    if number == GET_SLOTS.number then of_frame frames slots_answer content else (
    if number == THIS_OBJECT.number then of_frame frames (this_answer script) content else
    Error NOT_IMPLEMENTED)

-- ---- the test of a location

abbrev pub index_answer : ℕ → MethodPart → Answer
index_answer index m = if nat_lt m.last index then Error INVALID_LOCATION else Data (One (Int (pos 0)) ∷ [])

abbrev pub location_in_class : ℕ → ℕ → ClassPart → Answer
location_in_class method index c = found_or INVALID_METHODID (index_answer index) (method_in c method)

-- the null location is none, a class and a method of it have to be there, and the index may not be above the last one
abbrev pub location_answer : ScriptPart → Location → Answer
location_answer script Null = Error INVALID_LOCATION
location_answer script (At tag class method index) = found_or INVALID_CLASS (location_in_class method.0 index) (class_in script class.0)

-- A Set of a breakpoint, policy NONE, with one modifier, LocationOnly, asks whether its location is one.
-- Other requests are not the machine's.
abbrev pub set_answer : ScriptPart → Asks
set_answer script (One (Byte kind) ∷ One (Byte policy) ∷ Many ((Byte modifier ∷ Located location ∷ []) ∷ []) ∷ []) =
    if (kind == kind_byte event.Breakpoint) && ((policy == POLICY_NONE) && (modifier == LOCATION_ONLY)) then location_answer script location else Error NOT_IMPLEMENTED
set_answer script content = Error NOT_IMPLEMENTED
