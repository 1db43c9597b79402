-- What is answered of objects, and of thread groups
-- (JDWP specification, "ObjectReference", "StringReference", "ArrayReference" and "ThreadGroupReference").
use Rattle.std.specs.Prelude.{ℕ, pos, ◌==◌, Bool, true, false, List, [], ◌∷◌, map, filter, length, if◌then◌else◌, Option, Some, None}
use Rattle.jdwp_wire.specs.ErrorCodes.{INVALID_CLASS, NOT_IMPLEMENTED, INVALID_STRING, INVALID_ARRAY}
use Rattle.jdwp_value.specs.declared.tag.Tag.{Tag}
use Rattle.jdwp_value.specs.declared.value.Value.{Value}
use Rattle.jdwp_value.specs.declared.value.Value.TheVariants as value
use Rattle.jdwp_value.specs.Locations.{type_tag_byte}
use Rattle.jdwp_value.specs.Values.{is_object}
use Rattle.jdwp_value.specs.Regions.{region_of}
use Rattle.jdwp_layout.specs.declared.answer.Answer.{Answer}
use Rattle.jdwp_layout.specs.declared.answer.Answer.TheVariants.{Data, Error}
use Rattle.jdwp_layout.specs.CommandNumbers.{OBJECT_TYPE, GET_FIELDS, DISABLE_COLLECTION, ENABLE_COLLECTION, IS_COLLECTED, STRING_VALUE, ARRAY_LENGTH, GET_ELEMENTS, GROUP_NAME, GROUP_PARENT, GROUP_CHILDREN}
use Rattle.jdwp_layout.specs.Meanings.{ScalarMeaning, Byte, Boolean, Int, Text, Object, ReferenceType, DatumMeaning, One, Many, Elements}
use Rattle.jdwp_script.specs.declared.script.FieldValue.{FieldValue}
use Rattle.jdwp_script.specs.declared.step.Literal.{Literal}
use Rattle.jdwp_script.specs.Literals.{value_of_bits}
use Rattle.jdwp_script.specs.Parts.{GroupPart, ClassPart, ElementsPart, ObjectPart, ThreadPart, ScriptPart}
use Rattle.jdwp_script_machine.specs.LookUps.{with_id}
use Rattle.jdwp_script_machine.specs.States.{ThreadNow, State, is_living}
use Rattle.jdwp_script_machine.specs.Sites.{class_in, thread_in, tagged}
use Rattle.jdwp_script_machine.specs.Requests.{Asks, alone, found_or, of_object, of_group, of_entries, of_part}
use Rattle.jdwp_script_machine.specs.ClassAnswers.{group_entry, groups_below, answer_entries, field_values}

-- ---- ObjectReference

-- what the object has in a field
abbrev pub held_by : Option FieldValue → Option Literal
held_by None = None
held_by (Some x) = Some x.value

abbrev pub held_value : ObjectPart → ℕ → Option Literal
held_value o field = held_by (with_id (λ (x : FieldValue). x.field.0) field o.fields)

abbrev pub type_answer : ClassPart → Answer
type_answer c = Data (One (Byte (type_tag_byte c.tag)) ∷ One (ReferenceType c.id) ∷ [])

abbrev pub object_type_answer : ScriptPart → ObjectPart → Asks
object_type_answer script o = alone (found_or INVALID_CLASS type_answer (class_in script o.class))

abbrev pub held_answer : ObjectPart → Asks
held_answer o = of_entries (λ entries. answer_entries (field_values (held_value o) entries))

-- objects are never collected: enabling and disabling it does nothing
abbrev pub collection_answer : ObjectPart → Asks
collection_answer o = alone (Data [])

abbrev pub collected_answer : ObjectPart → Asks
collected_answer o = alone (Data (One (Boolean false) ∷ []))

abbrev pub object_answer : State → ℕ → Asks
object_answer s number content =
    if number == OBJECT_TYPE.number then of_object s (object_type_answer s.script) content else (
    if number == GET_FIELDS.number then of_object s held_answer content else (
    if number == DISABLE_COLLECTION.number then of_object s collection_answer content else (
    if number == ENABLE_COLLECTION.number then of_object s collection_answer content else (
    if number == IS_COLLECTED.number then of_object s collected_answer content else
    Error NOT_IMPLEMENTED))))

-- ---- StringReference

abbrev pub text_answer : List ℕ → Answer
text_answer text = Data (One (Text text) ∷ [])

abbrev pub string_value_answer : ObjectPart → Asks
string_value_answer o = alone (found_or INVALID_STRING text_answer o.text)

abbrev pub string_answer : State → ℕ → Asks
string_answer s number content =
    if number == STRING_VALUE.number then of_object s string_value_answer content else
    Error NOT_IMPLEMENTED

-- ---- ArrayReference

-- the element of these bits: an object has the tag of what it has
abbrev pub element_by : Bool → ScriptPart → Tag → ℕ → Value
element_by true script t bits = value.Object (tagged script bits)
element_by false script t bits = value_of_bits t bits

abbrev pub element : ScriptPart → Tag → ℕ → Value
element script t bits = element_by (is_object t) script t bits

abbrev pub length_answer : ElementsPart → Answer
length_answer e = Data (One (Int (pos (length e.bits))) ∷ [])

abbrev pub array_length_answer : ObjectPart → Asks
array_length_answer o = alone (found_or INVALID_ARRAY length_answer o.array)

abbrev pub region_answer : ScriptPart → Tag → List ℕ → Answer
region_answer script t bits = Data (Elements (region_of t (map (element script t) bits)) ∷ [])

-- some elements; a length of -1 doesn't mean the rest here
abbrev pub elements_asked : ScriptPart → List DatumMeaning → ElementsPart → Answer
elements_asked script content e = of_part false (region_answer script e.tag) e.bits content

abbrev pub elements_answer : ScriptPart → ObjectPart → Asks
elements_answer script o content = found_or INVALID_ARRAY (elements_asked script content) o.array

abbrev pub array_answer : State → ℕ → Asks
array_answer s number content =
    if number == ARRAY_LENGTH.number then of_object s array_length_answer content else (
    if number == GET_ELEMENTS.number then of_object s (elements_answer s.script) content else
    Error NOT_IMPLEMENTED)

-- ---- ThreadGroupReference

abbrev pub group_name_answer : GroupPart → Asks
group_name_answer g = alone (Data (One (Text g.name) ∷ []))

-- 0 where the group has none
abbrev pub parent_answer : GroupPart → Asks
parent_answer g = alone (Data (One (Object g.parent) ∷ []))

abbrev pub group_is : ℕ → Option ThreadPart → Bool
group_is group None = false
group_is group (Some t) = t.group == group

-- whether a thread is in a group
abbrev pub is_in_group : ScriptPart → ℕ → ℕ → Bool
is_in_group script group t = group_is group (thread_in script t)

abbrev pub thread_entry : ThreadNow → List ScalarMeaning
thread_entry e = Object e.id ∷ []

-- the threads of a group that live
abbrev pub threads_below : State → ℕ → List ThreadNow
threads_below s group = filter (λ (e : ThreadNow). if is_living e.life then is_in_group s.script group e.id else false) s.threads

-- the threads and the groups right below, each by rising id
abbrev pub children : State → ℕ → Answer
children s group = Data (Many (map thread_entry (threads_below s group)) ∷ Many (map group_entry (groups_below s.script group)) ∷ [])

abbrev pub children_answer : State → GroupPart → Asks
children_answer s g = alone (children s g.id)

abbrev pub group_answer : State → ℕ → Asks
group_answer s number content =
    if number == GROUP_NAME.number then of_group s.script group_name_answer content else (
    if number == GROUP_PARENT.number then of_group s.script parent_answer content else (
    if number == GROUP_CHILDREN.number then of_group s.script (children_answer s) content else
    Error NOT_IMPLEMENTED))
