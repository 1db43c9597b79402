-- Proofs that what is answered of objects and thread groups is in the layouts of the replies, and fits.
use Rattle.std.proofs.Common.{◌≡◌, ℕ, ◌^◌, Bool, true, false, nat_lt, if◌then◌else◌, List, [], ◌∷◌, map, filter, length, refl, arith, Option, Some, None}
use Rattle.std.specs.List.{AllByRecursion}
use Rattle.jdwp_wire.specs.Widths.{Widths}
use Rattle.jdwp_wire.specs.Text.{text_refusal}
use Rattle.jdwp_wire.specs.ErrorCodes.{INVALID_CLASS, INVALID_STRING, INVALID_ARRAY}
use Rattle.jdwp_wire.specs.Listed.{list_refusal}
use Rattle.jdwp_value.specs.declared.tag.Tag.{Tag}
use Rattle.jdwp_value.specs.declared.tag.Tag.TheVariants as tag
use Rattle.jdwp_value.specs.Values.{value_refusal}
use Rattle.jdwp_layout.specs.declared.answer.Answer.TheVariants.{Data}
use Rattle.jdwp_layout.specs.declared.item.Field.TheVariants as field
use Rattle.jdwp_layout.specs.CommandNumbers.{OBJECT_REFERENCE, STRING_REFERENCE, THREAD_GROUP_REFERENCE, ARRAY_REFERENCE, OBJECT_TYPE, GET_FIELDS, DISABLE_COLLECTION, ENABLE_COLLECTION, IS_COLLECTED, STRING_VALUE, GROUP_NAME, GROUP_PARENT, GROUP_CHILDREN, ARRAY_LENGTH, GET_ELEMENTS}
use Rattle.jdwp_layout.specs.Shapes.{Fields}
use Rattle.jdwp_layout.specs.Writes.{entry_refusal}
use Rattle.jdwp_layout.specs.Meanings.{ScalarMeaning, Boolean, Object, Text, DatumMeaning, One, Many}
use Rattle.jdwp_script.specs.declared.script.FieldValue.{FieldValue}
use Rattle.jdwp_script.specs.declared.step.Literal.{Literal}
use Rattle.jdwp_script.specs.Literals.{value_of_bits}
use Rattle.jdwp_script.specs.Parts.{GroupPart, ClassPart, ElementsPart, ObjectPart, ScriptPart}
use Rattle.jdwp_script_machine.specs.LookUps.{with_id}
use Rattle.jdwp_script_machine.specs.States.{ThreadNow, State, is_living}
use Rattle.jdwp_script_machine.specs.Sites.{class_in}
use Rattle.jdwp_script_machine.specs.Requests.{found_or}
use Rattle.jdwp_script_machine.specs.ClassAnswers.{group_entry, groups_below, answer_entries, field_values}
use Rattle.jdwp_script_machine.specs.ObjectAnswers.{held_by, held_value, type_answer, object_type_answer, held_answer, collection_answer, collected_answer, object_answer, text_answer, string_value_answer, string_answer, element, length_answer, array_length_answer, region_answer, elements_asked, elements_answer, array_answer, group_name_answer, parent_answer, is_in_group, thread_entry, threads_below, children_answer, group_answer}
use Rattle.jdwp_script_machine.specs.Sound.{IsShort, ValueFits, ClassIsSound, ElementsAreSound, GroupIsSound, ThreadNowIsSound, ObjectFits, IsSound}
use Rattle.jdwp_script_machine.specs.SoundLaws.{all_found}
use Rattle.jdwp_script_machine.specs.FitLaws.{short_text, entries_fit, all_filter, short_filter}
use Rattle.jdwp_script_machine.specs.GoodAnswers.{Good, command_at, above, at_number, alone_good, found_good, object_good, group_good, entries_good, of_part_good}
use Rattle.jdwp_script_machine.specs.ClassAnswerLaws.{there, no_command, groups_fit, values_fit, field_error}

-- ---- ObjectReference

pub type_good : (s : State) (c : ClassPart) → ClassIsSound s.script.sizes c → Good s OBJECT_TYPE (type_answer c)
unfolding Good
type_good s c h = rw h.id refl

object_type_good : (s : State) → IsSound s → (o : ObjectPart) → Good s OBJECT_TYPE (found_or INVALID_CLASS type_answer (class_in s.script o.class))
object_type_good s sound o =
    found_good s OBJECT_TYPE INVALID_CLASS type_answer (class_in s.script o.class) (above INVALID_CLASS (omega arith) (omega arith))
    (λ c h. type_good s c (all_found (λ (c : ClassPart). c.id) (ClassIsSound s.script.sizes) s.script.classes o.class c sound.script.each_class h))

held_found : (w : Widths) (o : Option FieldValue) (v : Literal) → ((x : FieldValue) → o ≡ Some x → ValueFits w x.value) → held_by o ≡ Some v → ValueFits w v
held_found w None v fits h = absurd cc
held_found w (Some x) v fits h = let same : x.value ≡ v = cc in rw (← same) (fits x refl)

held_fits : (w : Widths) (o : ObjectPart) → ObjectFits w o → (n : ℕ) (v : Literal) → held_value o n ≡ Some v → ValueFits w v
held_fits w o sound n v h =
    held_found w (with_id (λ (x : FieldValue). x.field.0) n o.fields) v
    (λ x e. all_found (λ (x : FieldValue). x.field.0) (λ (x : FieldValue). ValueFits w x.value) o.fields n x sound.fields e) h

values_data : (s : State) (value_of : ℕ → Option Literal) → ((n : ℕ) (v : Literal) → value_of n ≡ Some v → ValueFits s.script.sizes v) → (entries ys : List (List ScalarMeaning)) → nat_lt (length entries) (2 ^ 31) ≡ true → field_values value_of entries ≡ Some ys
    → Good s GET_FIELDS (Data (Many ys ∷ []))
unfolding Good
values_data s value_of fits entries ys few h = rw (values_fit s.script.sizes value_of fits entries ys few h) refl

values_found : (s : State) (value_of : ℕ → Option Literal) → ((n : ℕ) (v : Literal) → value_of n ≡ Some v → ValueFits s.script.sizes v) → (entries : List (List ScalarMeaning)) → nat_lt (length entries) (2 ^ 31) ≡ true
    → (o : Option (List (List ScalarMeaning))) → field_values value_of entries ≡ o → Good s GET_FIELDS (answer_entries o)
values_found s value_of fits entries few None h = field_error s GET_FIELDS
values_found s value_of fits entries few (Some ys) h = values_data s value_of fits entries ys few h

held_good : (s : State) (o : ObjectPart) → ObjectFits s.script.sizes o → (content : List DatumMeaning) → Good s GET_FIELDS (held_answer o content)
held_good s o h content =
    entries_good s GET_FIELDS (λ entries. answer_entries (field_values (held_value o) entries))
    (λ entries few. values_found s (held_value o) (held_fits s.script.sizes o h) entries few (field_values (held_value o) entries) refl) content

disabled_good : (s : State) → Good s DISABLE_COLLECTION (Data [])
unfolding Good
disabled_good s = refl

enabled_good : (s : State) → Good s ENABLE_COLLECTION (Data [])
unfolding Good
enabled_good s = refl

collected_good : (s : State) → Good s IS_COLLECTED (Data (One (Boolean false) ∷ []))
unfolding Good
collected_good s = refl

pub objects_answered : (s : State) → IsSound s → (n : ℕ) (content : List DatumMeaning) → Good s (command_at OBJECT_REFERENCE n) (object_answer s n content)
objects_answered s sound n content =
    at_number s OBJECT_TYPE n _ _ (object_good s OBJECT_TYPE sound (object_type_answer s.script) (λ o h. alone_good s OBJECT_TYPE _ (object_type_good s sound o)) content) (
    at_number s GET_FIELDS n _ _ (object_good s GET_FIELDS sound held_answer (held_good s) content) (
    at_number s DISABLE_COLLECTION n _ _ (object_good s DISABLE_COLLECTION sound collection_answer (λ o h. alone_good s DISABLE_COLLECTION _ (disabled_good s)) content) (
    at_number s ENABLE_COLLECTION n _ _ (object_good s ENABLE_COLLECTION sound collection_answer (λ o h. alone_good s ENABLE_COLLECTION _ (enabled_good s)) content) (
    at_number s IS_COLLECTED n _ _ (object_good s IS_COLLECTED sound collected_answer (λ o h. alone_good s IS_COLLECTED _ (collected_good s)) content) (
    no_command s (command_at OBJECT_REFERENCE n))))))

-- ---- StringReference

text_good : (s : State) (t : List ℕ) → text_refusal t ≡ None → Good s STRING_VALUE (text_answer t)
unfolding Good
text_good s t h = rw h refl

string_value_good : (s : State) (o : ObjectPart) → ObjectFits s.script.sizes o → Good s STRING_VALUE (found_or INVALID_STRING text_answer o.text)
string_value_good s o h = found_good s STRING_VALUE INVALID_STRING text_answer o.text (above INVALID_STRING (omega arith) (omega arith)) (λ t e. text_good s t (there (λ t. text_refusal t ≡ None) o.text t h.text e))

pub strings_answered : (s : State) → IsSound s → (n : ℕ) (content : List DatumMeaning) → Good s (command_at STRING_REFERENCE n) (string_answer s n content)
strings_answered s sound n content =
    at_number s STRING_VALUE n _ _ (object_good s STRING_VALUE sound string_value_answer (λ o h. alone_good s STRING_VALUE _ (string_value_good s o h)) content) (no_command s (command_at STRING_REFERENCE n))

-- ---- ArrayReference

length_good : (s : State) (e : ElementsPart) → Good s ARRAY_LENGTH (length_answer e)
unfolding Good
length_good s e = refl

array_length_good : (s : State) (o : ObjectPart) → Good s ARRAY_LENGTH (found_or INVALID_ARRAY length_answer o.array)
array_length_good s o = found_good s ARRAY_LENGTH INVALID_ARRAY length_answer o.array (above INVALID_ARRAY (omega arith) (omega arith)) (λ e h. length_good s e)

-- an element's id fits, whatever tag it gets
element_fits : (w : Widths) (script : ScriptPart) (t : Tag) (bits : ℕ) → value_refusal w (value_of_bits t bits) ≡ None → value_refusal w (element script t bits) ≡ None
element_fits w script tag.Byte bits h = refl
element_fits w script tag.Char bits h = refl
element_fits w script tag.Double bits h = refl
element_fits w script tag.Float bits h = refl
element_fits w script tag.Int bits h = refl
element_fits w script tag.Long bits h = refl
element_fits w script tag.Short bits h = refl
element_fits w script tag.Void bits h = refl
element_fits w script tag.Boolean bits h = refl
element_fits w script (tag.Object kind) bits h = h

region_good : (s : State) (t : Tag) (bits : List ℕ) → IsShort bits → AllByRecursion (λ (n : ℕ). value_refusal s.script.sizes (value_of_bits t n) ≡ None) bits → Good s GET_ELEMENTS (region_answer s.script t bits)
unfolding Good
region_good s t bits few all =
    let w = s.script.sizes in
    rw (entries_fit (λ (n : ℕ). value_refusal w (value_of_bits t n) ≡ None) (value_refusal w) (element s.script t) (element_fits w s.script t) bits few all) refl

elements_asked_good : (s : State) (content : List DatumMeaning) (e : ElementsPart) → ElementsAreSound s.script.sizes e → Good s GET_ELEMENTS (elements_asked s.script content e)
elements_asked_good s content e h =
    let short = h.bits in
    of_part_good (λ (n : ℕ). value_refusal s.script.sizes (value_of_bits e.tag n) ≡ None) s GET_ELEMENTS (region_answer s.script e.tag) false e.bits h.each
    (λ ys few all. region_good s e.tag ys (omega arith) all) content

elements_good : (s : State) (o : ObjectPart) → ObjectFits s.script.sizes o → (content : List DatumMeaning) → Good s GET_ELEMENTS (elements_answer s.script o content)
elements_good s o h content =
    found_good s GET_ELEMENTS INVALID_ARRAY (elements_asked s.script content) o.array (above INVALID_ARRAY (omega arith) (omega arith))
    (λ e k. elements_asked_good s content e (there (ElementsAreSound s.script.sizes) o.array e h.array k))

pub arrays_answered : (s : State) → IsSound s → (n : ℕ) (content : List DatumMeaning) → Good s (command_at ARRAY_REFERENCE n) (array_answer s n content)
arrays_answered s sound n content =
    at_number s ARRAY_LENGTH n _ _ (object_good s ARRAY_LENGTH sound array_length_answer (λ o h. alone_good s ARRAY_LENGTH _ (array_length_good s o)) content) (
    at_number s GET_ELEMENTS n _ _ (object_good s GET_ELEMENTS sound (elements_answer s.script) (elements_good s) content) (
    no_command s (command_at ARRAY_REFERENCE n)))

-- ---- ThreadGroupReference

group_name_good : (s : State) (g : GroupPart) → GroupIsSound s.script.sizes g → Good s GROUP_NAME (Data (One (Text g.name) ∷ []))
unfolding Good
group_name_good s g h = rw (short_text g.name h.name) refl

parent_good : (s : State) (g : GroupPart) → GroupIsSound s.script.sizes g → Good s GROUP_PARENT (Data (One (Object g.parent) ∷ []))
unfolding Good
parent_good s g h = rw h.parent refl

threads_fit : (s : State) (test : ThreadNow → Bool) → IsSound s → list_refusal (entry_refusal s.script.sizes (Fields (field.ObjectId ∷ []))) (map thread_entry (filter test s.threads)) ≡ None
threads_fit s test sound =
    entries_fit (ThreadNowIsSound s.script.sizes) (entry_refusal s.script.sizes (Fields (field.ObjectId ∷ []))) thread_entry (λ e h. rw h.id refl) (filter test s.threads)
    (short_filter test s.threads sound.threads) (all_filter (ThreadNowIsSound s.script.sizes) test s.threads sound.each_thread)

children_good : (s : State) → IsSound s → (g : GroupPart) → Good s GROUP_CHILDREN (Data (Many (map thread_entry (threads_below s g.id)) ∷ Many (map group_entry (groups_below s.script g.id)) ∷ []))
unfolding Good
children_good s sound g =
    rw (threads_fit s (λ (e : ThreadNow). if is_living e.life then is_in_group s.script g.id e.id else false) sound, groups_fit s g.id sound) refl

pub groups_answered : (s : State) → IsSound s → (n : ℕ) (content : List DatumMeaning) → Good s (command_at THREAD_GROUP_REFERENCE n) (group_answer s n content)
groups_answered s sound n content =
    at_number s GROUP_NAME n _ _ (group_good s GROUP_NAME sound group_name_answer (λ g h. alone_good s GROUP_NAME _ (group_name_good s g h)) content) (
    at_number s GROUP_PARENT n _ _ (group_good s GROUP_PARENT sound parent_answer (λ g h. alone_good s GROUP_PARENT _ (parent_good s g h)) content) (
    at_number s GROUP_CHILDREN n _ _ (group_good s GROUP_CHILDREN sound (children_answer s) (λ g h. alone_good s GROUP_CHILDREN _ (children_good s sound g)) content) (
    no_command s (command_at THREAD_GROUP_REFERENCE n))))
