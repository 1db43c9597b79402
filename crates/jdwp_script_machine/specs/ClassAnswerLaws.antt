-- Proofs that what is answered of the machine, of classes and of methods is in the layouts of the replies, and fits.
use Rattle.std.proofs.Common.{◌≡◌, ℕ, pos, ◌+◌, ◌^◌, ◌==◌, Bool, true, false, nat_lt, List, [], ◌∷◌, map, filter, length, refl, arith, Option, Some, None}
use Rattle.std.specs.Prelude.{bytes_eq}
use Rattle.std.specs.List.{AllByRecursion}
use Rattle.jdwp_wire.specs.Widths.{Widths}
use Rattle.jdwp_wire.specs.ErrorCodes.{INVALID_FIELDID, NOT_IMPLEMENTED, ABSENT_INFORMATION, ILLEGAL_ARGUMENT}
use Rattle.jdwp_wire.specs.Listed.{list_refusal}
use Rattle.jdwp_layout.specs.declared.answer.Answer.TheVariants.{Data, Error}
use Rattle.jdwp_layout.specs.declared.item.Field.{Field}
use Rattle.jdwp_layout.specs.declared.item.Field.TheVariants as field
use Rattle.jdwp_layout.specs.CommandNumbers.{CommandNumber, VIRTUAL_MACHINE, REFERENCE_TYPE, CLASS_TYPE, METHOD, VERSION, CLASSES_BY_SIGNATURE, ALL_CLASSES, TOP_LEVEL_THREAD_GROUPS, CAPABILITIES, DISPOSE_OBJECTS, CAPABILITIES_NEW, ALL_CLASSES_WITH_GENERIC, ALL_MODULES, SIGNATURE, CLASS_LOADER, MODIFIERS, FIELDS, METHODS, GET_STATICS, SOURCE_FILE, CLASS_STATUS, INTERFACES, SIGNATURE_WITH_GENERIC, FIELDS_WITH_GENERIC, METHODS_WITH_GENERIC, CLASS_MODULE, SUPERCLASS, LINE_TABLE, VARIABLE_TABLE, IS_OBSOLETE, VARIABLE_TABLE_WITH_GENERIC}
use Rattle.jdwp_layout.specs.Shapes.{Fields}
use Rattle.jdwp_layout.specs.Writes.{entry_refusal}
use Rattle.jdwp_layout.specs.Meanings.{ScalarMeaning, Boolean, Int, Long, Object, OfField, ReferenceType, Text, Valued, DatumMeaning, One, Many}
use Rattle.jdwp_script.specs.declared.script.Line.{Line}
use Rattle.jdwp_script.specs.declared.step.Literal.{Literal}
use Rattle.jdwp_script.specs.Literals.{literal_value}
use Rattle.jdwp_script.specs.Parts.{GroupPart, FieldPart, MethodPart, ClassPart}
use Rattle.jdwp_script_machine.specs.LookUps.{with_id}
use Rattle.jdwp_script_machine.specs.States.{State}
use Rattle.jdwp_script_machine.specs.ClassAnswers.{version, class_entry, class_entry_signed, class_entry_generic, classes_by_signature, all_classes, all_classes_generic, group_entry, groups_below, top_groups, module_entry, all_modules, incapable, disposed, virtual_machine_answer, field_entry, field_entry_generic, method_entry, method_entry_generic, interface_entry, static_of, static_value, answer_entries, and_value, entry_value, field_values, source_answer, signature_answer, loader_answer, modifiers_answer, fields_answer, methods_answer, statics_answer, source_file_answer, status_answer, interfaces_answer, generic_signature_answer, generic_fields_answer, generic_methods_answer, module_answer, reference_type_answer, superclass_answer, class_type_answer, index_long, line_entry, lines_answer, variable_entry, variable_entry_generic, line_table_answer, variable_table_answer, obsolete_answer, generic_variable_table_answer, method_answer, status}
use Rattle.jdwp_script_machine.specs.Sound.{IsShort, Fits, ValueFits, IfThere, FieldIsSound, SlotIsSound, MethodIsSound, ClassIsSound, GroupIsSound, ModuleIsSound, IsSound}
use Rattle.jdwp_script_machine.specs.SoundLaws.{all_found, zero_fits}
use Rattle.jdwp_script_machine.specs.FitLaws.{short_text, entries_fit, all_filter, short_filter, counted_fits}
use Rattle.jdwp_script_machine.specs.GoodAnswers.{Good, command_at, error_good, above, at_number, alone_good, class_good, prepared_good, method_good, entries_good}

pub no_command : (s : State) (command : CommandNumber) → Good s command (Error NOT_IMPLEMENTED)
no_command s command = error_good s command NOT_IMPLEMENTED (above NOT_IMPLEMENTED (omega arith) (omega arith))

abbrev entry_fits : Widths → List Field → List ScalarMeaning → Type 0
entry_fits w fields x = entry_refusal w (Fields fields) x ≡ None

signed : (w : Widths) (c : ClassPart) → ClassIsSound w c → IsShort c.signature
signed w c h = let short = h.signature in omega arith

-- ---- VirtualMachine

version_good : (s : State) → IsSound s → Good s VERSION (version s.script)
unfolding Good
version_good s sound = rw (short_text s.script.name sound.script.name) refl

class_entries : (s : State) (cs : List ClassPart) → IsShort cs → AllByRecursion (ClassIsSound s.script.sizes) cs → list_refusal (entry_refusal s.script.sizes (Fields (field.Byte ∷ field.ReferenceTypeId ∷ field.Int ∷ []))) (map (class_entry s) cs) ≡ None
class_entries s cs few all = entries_fit (ClassIsSound s.script.sizes) (entry_refusal s.script.sizes (Fields (field.Byte ∷ field.ReferenceTypeId ∷ field.Int ∷ []))) (class_entry s) (λ c h. rw h.id refl) cs few all

signed_entries : (s : State) (cs : List ClassPart) → IsShort cs → AllByRecursion (ClassIsSound s.script.sizes) cs → list_refusal (entry_refusal s.script.sizes (Fields (field.Byte ∷ field.ReferenceTypeId ∷ field.String ∷ field.Int ∷ []))) (map (class_entry_signed s) cs) ≡ None
signed_entries s cs few all =
    entries_fit (ClassIsSound s.script.sizes) (entry_refusal s.script.sizes (Fields (field.Byte ∷ field.ReferenceTypeId ∷ field.String ∷ field.Int ∷ []))) (class_entry_signed s)
    (λ c h. rw (h.id, short_text c.signature (signed s.script.sizes c h)) refl) cs few all

generic_entries : (s : State) (cs : List ClassPart) → IsShort cs → AllByRecursion (ClassIsSound s.script.sizes) cs → list_refusal (entry_refusal s.script.sizes (Fields (field.Byte ∷ field.ReferenceTypeId ∷ field.String ∷ field.String ∷ field.Int ∷ []))) (map (class_entry_generic s) cs) ≡ None
generic_entries s cs few all =
    entries_fit (ClassIsSound s.script.sizes) (entry_refusal s.script.sizes (Fields (field.Byte ∷ field.ReferenceTypeId ∷ field.String ∷ field.String ∷ field.Int ∷ []))) (class_entry_generic s)
    (λ c h. rw (h.id, short_text c.signature (signed s.script.sizes c h)) refl) cs few all

by_signature_data : (s : State) (test : ClassPart → Bool) → IsSound s → Good s CLASSES_BY_SIGNATURE (Data (Many (map (class_entry s) (filter test s.script.classes)) ∷ []))
unfolding Good
by_signature_data s test sound =
    rw (class_entries s (filter test s.script.classes) (short_filter test s.script.classes sound.script.classes) (all_filter (ClassIsSound s.script.sizes) test s.script.classes sound.script.each_class)) refl

by_signature_good : (s : State) → IsSound s → (content : List DatumMeaning) → Good s CLASSES_BY_SIGNATURE (classes_by_signature s content)
by_signature_good s sound (One (Text signature) ∷ []) = by_signature_data s (λ (c : ClassPart). bytes_eq c.signature signature) sound
by_signature_good s sound content = error_good s CLASSES_BY_SIGNATURE ILLEGAL_ARGUMENT (above ILLEGAL_ARGUMENT (omega arith) (omega arith))

all_classes_good : (s : State) → IsSound s → Good s ALL_CLASSES (all_classes s)
unfolding Good
all_classes_good s sound = rw (signed_entries s s.script.classes sound.script.classes sound.script.each_class) refl

all_generic_good : (s : State) → IsSound s → Good s ALL_CLASSES_WITH_GENERIC (all_classes_generic s)
unfolding Good
all_generic_good s sound = rw (generic_entries s s.script.classes sound.script.classes sound.script.each_class) refl

pub groups_fit : (s : State) (parent : ℕ) → IsSound s → list_refusal (entry_refusal s.script.sizes (Fields (field.ObjectId ∷ []))) (map group_entry (groups_below s.script parent)) ≡ None
groups_fit s parent sound =
    entries_fit (GroupIsSound s.script.sizes) (entry_refusal s.script.sizes (Fields (field.ObjectId ∷ []))) group_entry (λ g h. rw h.id refl) (groups_below s.script parent)
    (short_filter (λ (g : GroupPart). g.parent == parent) s.script.groups sound.script.groups) (all_filter (GroupIsSound s.script.sizes) (λ (g : GroupPart). g.parent == parent) s.script.groups sound.script.each_group)

top_groups_good : (s : State) → IsSound s → Good s TOP_LEVEL_THREAD_GROUPS (top_groups s.script)
unfolding Good
top_groups_good s sound = rw (groups_fit s 0 sound) refl

all_modules_good : (s : State) → IsSound s → Good s ALL_MODULES (all_modules s.script)
unfolding Good
all_modules_good s sound =
    let w = s.script.sizes in
    rw (entries_fit (ModuleIsSound w) (entry_refusal w (Fields (field.ObjectId ∷ []))) module_entry (λ m h. rw h.id refl) s.script.modules sound.script.modules sound.script.each_module) refl

incapable_good : (s : State) → Good s CAPABILITIES (incapable 7)
unfolding Good
incapable_good s = refl

incapable_new_good : (s : State) → Good s CAPABILITIES_NEW (incapable 32)
unfolding Good
incapable_new_good s = refl

disposed_data : (s : State) → Good s DISPOSE_OBJECTS (Data [])
unfolding Good
disposed_data s = refl

disposed_good : (s : State) (content : List DatumMeaning) → Good s DISPOSE_OBJECTS (disposed content)
disposed_good s (Many entries ∷ []) = disposed_data s
disposed_good s content = error_good s DISPOSE_OBJECTS ILLEGAL_ARGUMENT (above ILLEGAL_ARGUMENT (omega arith) (omega arith))

pub virtual_machine_good : (s : State) → IsSound s → (n : ℕ) (content : List DatumMeaning) → Good s (command_at VIRTUAL_MACHINE n) (virtual_machine_answer s n content)
virtual_machine_good s sound n content =
    at_number s VERSION n _ _ (alone_good s VERSION (version s.script) (version_good s sound) content) (
    at_number s CLASSES_BY_SIGNATURE n _ _ (by_signature_good s sound content) (
    at_number s ALL_CLASSES n _ _ (alone_good s ALL_CLASSES (all_classes s) (all_classes_good s sound) content) (
    at_number s TOP_LEVEL_THREAD_GROUPS n _ _ (alone_good s TOP_LEVEL_THREAD_GROUPS (top_groups s.script) (top_groups_good s sound) content) (
    at_number s CAPABILITIES n _ _ (alone_good s CAPABILITIES (incapable 7) (incapable_good s) content) (
    at_number s DISPOSE_OBJECTS n _ _ (disposed_good s content) (
    at_number s CAPABILITIES_NEW n _ _ (alone_good s CAPABILITIES_NEW (incapable 32) (incapable_new_good s) content) (
    at_number s ALL_CLASSES_WITH_GENERIC n _ _ (alone_good s ALL_CLASSES_WITH_GENERIC (all_classes_generic s) (all_generic_good s sound) content) (
    at_number s ALL_MODULES n _ _ (alone_good s ALL_MODULES (all_modules s.script) (all_modules_good s sound) content) (
    no_command s (command_at VIRTUAL_MACHINE n))))))))))

-- ---- values that were asked

abbrev OneValue : Widths → List ScalarMeaning → Type 0
OneValue w x = entry_refusal w (Fields (field.Value ∷ [])) x ≡ None

-- as many entries as were asked, each of which fits
pub record AreValues (w : Widths) (n : ℕ) (xs : List (List ScalarMeaning)) : Type 0 where
  pub count : length xs ≡ n
  pub each : AllByRecursion (OneValue w) xs

one_more : (w : Widths) (n : ℕ) (x : Option Literal) (xs : Option (List (List ScalarMeaning))) (ys : List (List ScalarMeaning)) → ((v : Literal) → x ≡ Some v → ValueFits w v)
    → ((zs : List (List ScalarMeaning)) → xs ≡ Some zs → AreValues w n zs) → and_value x xs ≡ Some ys → AreValues w (n + 1) ys
one_more w n None xs ys f g h = absurd cc
one_more w n (Some v) None ys f g h = absurd cc
one_more w n (Some v) (Some zs) ys f g h =
    let same : ((Valued (literal_value v) ∷ []) ∷ zs) ≡ ys = cc in
    let rest = g zs refl in
    let few = rest.count in
    rw (← same) (record { count = omega arith; each = (rw (f v refl) refl, rest.each) })

value_named : (w : Widths) (value_of : ℕ → Option Literal) → ((n : ℕ) (v : Literal) → value_of n ≡ Some v → ValueFits w v) → (entry : List ScalarMeaning) (v : Literal) → entry_value value_of entry ≡ Some v → ValueFits w v
value_named w value_of fits (OfField n ∷ []) v h = fits n v h
value_named w value_of fits entry v h = absurd cc

values_are : (w : Widths) (value_of : ℕ → Option Literal) → ((n : ℕ) (v : Literal) → value_of n ≡ Some v → ValueFits w v) → (entries ys : List (List ScalarMeaning)) → field_values value_of entries ≡ Some ys → AreValues w (length entries) ys
values_are w value_of fits [] ys h = let same : [] ≡ ys = cc in rw (← same) (record { count = refl; each = tt })
values_are w value_of fits (entry ∷ entries) ys h =
    let more = one_more w (length entries) (entry_value value_of entry) (field_values value_of entries) ys (value_named w value_of fits entry) (λ zs e. values_are w value_of fits entries zs e) h in
    let count = more.count in
    record { count = omega arith; each = more.each }

-- for both commands that ask for values of fields, whose replies have one layout
pub values_fit : (w : Widths) (value_of : ℕ → Option Literal) → ((n : ℕ) (v : Literal) → value_of n ≡ Some v → ValueFits w v) → (entries ys : List (List ScalarMeaning)) → nat_lt (length entries) (2 ^ 31) ≡ true → field_values value_of entries ≡ Some ys
    → list_refusal (entry_refusal w (Fields (field.Value ∷ []))) ys ≡ None
values_fit w value_of fits entries ys few h =
    let are = values_are w value_of fits entries ys h in
    counted_fits (entry_refusal w (Fields (field.Value ∷ []))) ys (rw are.count few) are.each

pub field_error : (s : State) (command : CommandNumber) → Good s command (Error INVALID_FIELDID)
field_error s command = error_good s command INVALID_FIELDID (above INVALID_FIELDID (omega arith) (omega arith))

-- ---- ReferenceType

signature_good : (s : State) (c : ClassPart) → ClassIsSound s.script.sizes c → Good s SIGNATURE (Data (One (Text c.signature) ∷ []))
unfolding Good
signature_good s c h = rw (short_text c.signature (signed s.script.sizes c h)) refl

loader_good : (s : State) → Good s CLASS_LOADER (Data (One (Object 0) ∷ []))
unfolding Good
loader_good s = rw (zero_fits s.script.sizes.object) refl

modifiers_good : (s : State) (c : ClassPart) → Good s MODIFIERS (Data (One (Int c.modifiers) ∷ []))
unfolding Good
modifiers_good s c = refl

fields_good : (s : State) (c : ClassPart) → ClassIsSound s.script.sizes c → Good s FIELDS (Data (Many (map field_entry c.fields) ∷ []))
unfolding Good
fields_good s c h =
    let w = s.script.sizes in
    rw (entries_fit (FieldIsSound w) (entry_refusal w (Fields (field.FieldId ∷ field.String ∷ field.String ∷ field.Int ∷ []))) field_entry
    (λ f k. rw (k.id, short_text f.name k.name, short_text f.signature k.signature) refl) c.fields h.fields h.each_field) refl

generic_fields_good : (s : State) (c : ClassPart) → ClassIsSound s.script.sizes c → Good s FIELDS_WITH_GENERIC (Data (Many (map field_entry_generic c.fields) ∷ []))
unfolding Good
generic_fields_good s c h =
    let w = s.script.sizes in
    rw (entries_fit (FieldIsSound w) (entry_refusal w (Fields (field.FieldId ∷ field.String ∷ field.String ∷ field.String ∷ field.Int ∷ []))) field_entry_generic
    (λ f k. rw (k.id, short_text f.name k.name, short_text f.signature k.signature) refl) c.fields h.fields h.each_field) refl

methods_good : (s : State) (c : ClassPart) → ClassIsSound s.script.sizes c → Good s METHODS (Data (Many (map method_entry c.methods) ∷ []))
unfolding Good
methods_good s c h =
    let w = s.script.sizes in
    rw (entries_fit (MethodIsSound w) (entry_refusal w (Fields (field.MethodId ∷ field.String ∷ field.String ∷ field.Int ∷ []))) method_entry
    (λ m k. rw (k.id, short_text m.name k.name, short_text m.signature k.signature) refl) c.methods h.methods h.each_method) refl

generic_methods_good : (s : State) (c : ClassPart) → ClassIsSound s.script.sizes c → Good s METHODS_WITH_GENERIC (Data (Many (map method_entry_generic c.methods) ∷ []))
unfolding Good
generic_methods_good s c h =
    let w = s.script.sizes in
    rw (entries_fit (MethodIsSound w) (entry_refusal w (Fields (field.MethodId ∷ field.String ∷ field.String ∷ field.String ∷ field.Int ∷ []))) method_entry_generic
    (λ m k. rw (k.id, short_text m.name k.name, short_text m.signature k.signature) refl) c.methods h.methods h.each_method) refl

pub there : {A : Type 0} (P : A → Type 0) (o : Option A) (x : A) → IfThere P o → o ≡ Some x → P x
there P None x h e = absurd cc
there P (Some y) x h e = let same : y ≡ x = cc in rw (← same) h

static_found : (w : Widths) (o : Option FieldPart) (v : Literal) → ((f : FieldPart) → o ≡ Some f → FieldIsSound w f) → static_of o ≡ Some v → ValueFits w v
static_found w None v sound h = absurd cc
static_found w (Some f) v sound h = let k = sound f refl in there (ValueFits w) f.value v k.value h

static_fits : (w : Widths) (c : ClassPart) → ClassIsSound w c → (n : ℕ) (v : Literal) → static_value c n ≡ Some v → ValueFits w v
static_fits w c sound n v h =
    static_found w (with_id (λ (f : FieldPart). f.id) n c.fields) v (λ f e. all_found (λ (f : FieldPart). f.id) (FieldIsSound w) c.fields n f sound.each_field e) h

values_data : (s : State) (value_of : ℕ → Option Literal) → ((n : ℕ) (v : Literal) → value_of n ≡ Some v → ValueFits s.script.sizes v) → (entries ys : List (List ScalarMeaning)) → nat_lt (length entries) (2 ^ 31) ≡ true → field_values value_of entries ≡ Some ys
    → Good s GET_STATICS (Data (Many ys ∷ []))
unfolding Good
values_data s value_of fits entries ys few h = rw (values_fit s.script.sizes value_of fits entries ys few h) refl

values_found : (s : State) (value_of : ℕ → Option Literal) → ((n : ℕ) (v : Literal) → value_of n ≡ Some v → ValueFits s.script.sizes v) → (entries : List (List ScalarMeaning)) → nat_lt (length entries) (2 ^ 31) ≡ true
    → (o : Option (List (List ScalarMeaning))) → field_values value_of entries ≡ o → Good s GET_STATICS (answer_entries o)
values_found s value_of fits entries few None h = field_error s GET_STATICS
values_found s value_of fits entries few (Some ys) h = values_data s value_of fits entries ys few h

statics_good : (s : State) (c : ClassPart) → ClassIsSound s.script.sizes c → (content : List DatumMeaning) → Good s GET_STATICS (statics_answer c content)
statics_good s c h content =
    entries_good s GET_STATICS (λ entries. answer_entries (field_values (static_value c) entries))
    (λ entries few. values_found s (static_value c) (static_fits s.script.sizes c h) entries few (field_values (static_value c) entries) refl) content

source_data : (s : State) (t : List ℕ) → IsShort t → Good s SOURCE_FILE (Data (One (Text t) ∷ []))
unfolding Good
source_data s t h = rw (short_text t h) refl

source_good : (s : State) (o : Option (List ℕ)) → IfThere IsShort o → Good s SOURCE_FILE (source_answer o)
source_good s None h = error_good s SOURCE_FILE ABSENT_INFORMATION (above ABSENT_INFORMATION (omega arith) (omega arith))
source_good s (Some t) h = source_data s t h

status_good : (s : State) (c : ClassPart) → Good s CLASS_STATUS (Data (One (Int (status s c)) ∷ []))
unfolding Good
status_good s c = refl

interfaces_good : (s : State) (c : ClassPart) → ClassIsSound s.script.sizes c → Good s INTERFACES (Data (Many (map interface_entry c.interfaces) ∷ []))
unfolding Good
interfaces_good s c h =
    let w = s.script.sizes in
    rw (entries_fit (Fits w.reference) (entry_refusal w (Fields (field.ReferenceTypeId ∷ []))) interface_entry (λ i k. rw k refl) c.interfaces h.interfaces h.each_interface) refl

generic_signature_good : (s : State) (c : ClassPart) → ClassIsSound s.script.sizes c → Good s SIGNATURE_WITH_GENERIC (Data (One (Text c.signature) ∷ One (Text []) ∷ []))
unfolding Good
generic_signature_good s c h = rw (short_text c.signature (signed s.script.sizes c h)) refl

module_of_class_good : (s : State) (c : ClassPart) → ClassIsSound s.script.sizes c → Good s CLASS_MODULE (Data (One (Object c.module) ∷ []))
unfolding Good
module_of_class_good s c h = rw h.module refl

pub reference_type_good : (s : State) → IsSound s → (n : ℕ) (content : List DatumMeaning) → Good s (command_at REFERENCE_TYPE n) (reference_type_answer s n content)
reference_type_good s sound n content =
    at_number s SIGNATURE n _ _ (class_good s SIGNATURE sound signature_answer (λ c h. alone_good s SIGNATURE _ (signature_good s c h)) content) (
    at_number s CLASS_LOADER n _ _ (class_good s CLASS_LOADER sound loader_answer (λ c h. alone_good s CLASS_LOADER _ (loader_good s)) content) (
    at_number s MODIFIERS n _ _ (class_good s MODIFIERS sound modifiers_answer (λ c h. alone_good s MODIFIERS _ (modifiers_good s c)) content) (
    at_number s FIELDS n _ _ (prepared_good s FIELDS sound fields_answer (λ c h. alone_good s FIELDS _ (fields_good s c h)) content) (
    at_number s METHODS n _ _ (prepared_good s METHODS sound methods_answer (λ c h. alone_good s METHODS _ (methods_good s c h)) content) (
    at_number s GET_STATICS n _ _ (prepared_good s GET_STATICS sound statics_answer (statics_good s) content) (
    at_number s SOURCE_FILE n _ _ (class_good s SOURCE_FILE sound source_file_answer (λ c h. alone_good s SOURCE_FILE _ (source_good s c.source h.source)) content) (
    at_number s CLASS_STATUS n _ _ (class_good s CLASS_STATUS sound (status_answer s) (λ c h. alone_good s CLASS_STATUS _ (status_good s c)) content) (
    at_number s INTERFACES n _ _ (prepared_good s INTERFACES sound interfaces_answer (λ c h. alone_good s INTERFACES _ (interfaces_good s c h)) content) (
    at_number s SIGNATURE_WITH_GENERIC n _ _ (class_good s SIGNATURE_WITH_GENERIC sound generic_signature_answer (λ c h. alone_good s SIGNATURE_WITH_GENERIC _ (generic_signature_good s c h)) content) (
    at_number s FIELDS_WITH_GENERIC n _ _ (prepared_good s FIELDS_WITH_GENERIC sound generic_fields_answer (λ c h. alone_good s FIELDS_WITH_GENERIC _ (generic_fields_good s c h)) content) (
    at_number s METHODS_WITH_GENERIC n _ _ (prepared_good s METHODS_WITH_GENERIC sound generic_methods_answer (λ c h. alone_good s METHODS_WITH_GENERIC _ (generic_methods_good s c h)) content) (
    at_number s CLASS_MODULE n _ _ (class_good s CLASS_MODULE sound module_answer (λ c h. alone_good s CLASS_MODULE _ (module_of_class_good s c h)) content) (
    no_command s (command_at REFERENCE_TYPE n))))))))))))))

-- ---- ClassType

superclass_good : (s : State) (c : ClassPart) → ClassIsSound s.script.sizes c → Good s SUPERCLASS (Data (One (ReferenceType c.superclass) ∷ []))
unfolding Good
superclass_good s c h = rw h.superclass refl

pub class_type_good : (s : State) → IsSound s → (n : ℕ) (content : List DatumMeaning) → Good s (command_at CLASS_TYPE n) (class_type_answer s n content)
class_type_good s sound n content = at_number s SUPERCLASS n _ _ (class_good s SUPERCLASS sound superclass_answer (λ c h. alone_good s SUPERCLASS _ (superclass_good s c h)) content) (no_command s (command_at CLASS_TYPE n))

-- ---- Method

all_there : {A : Type 0} (xs : List A) → AllByRecursion (λ (x : A). Unit {0}) xs
all_there [] = tt
all_there (x ∷ xs) = (tt, all_there xs)

lines_data : (s : State) (last : ℕ) (ls : List Line) → IsShort ls → Good s LINE_TABLE (Data (One (Long (pos 0)) ∷ One (index_long last) ∷ Many (map line_entry ls) ∷ []))
unfolding Good
lines_data s last ls few =
    rw (entries_fit (λ (l : Line). Unit {0}) (entry_refusal s.script.sizes (Fields (field.Long ∷ field.Int ∷ []))) line_entry (λ l k. refl) ls few (all_there ls)) refl

lines_good : (s : State) (last : ℕ) (ls : List Line) → IsShort ls → Good s LINE_TABLE (lines_answer last ls)
lines_good s last [] few = error_good s LINE_TABLE ABSENT_INFORMATION (above ABSENT_INFORMATION (omega arith) (omega arith))
lines_good s last (l ∷ ls) few = lines_data s last (l ∷ ls) few

variables_good : (s : State) (m : MethodPart) → MethodIsSound s.script.sizes m → Good s VARIABLE_TABLE (Data (One (Int m.args) ∷ Many (map variable_entry m.slots) ∷ []))
unfolding Good
variables_good s m h =
    let w = s.script.sizes in
    rw (entries_fit SlotIsSound (entry_refusal w (Fields (field.Long ∷ field.String ∷ field.String ∷ field.Int ∷ field.Int ∷ []))) variable_entry
    (λ x k. rw (short_text x.name k.name, short_text x.signature k.signature) refl) m.slots h.slots h.each_slot) refl

generic_variables_good : (s : State) (m : MethodPart) → MethodIsSound s.script.sizes m → Good s VARIABLE_TABLE_WITH_GENERIC (Data (One (Int m.args) ∷ Many (map variable_entry_generic m.slots) ∷ []))
unfolding Good
generic_variables_good s m h =
    let w = s.script.sizes in
    rw (entries_fit SlotIsSound (entry_refusal w (Fields (field.Long ∷ field.String ∷ field.String ∷ field.String ∷ field.Int ∷ field.Int ∷ []))) variable_entry_generic
    (λ x k. rw (short_text x.name k.name, short_text x.signature k.signature) refl) m.slots h.slots h.each_slot) refl

obsolete_good : (s : State) → Good s IS_OBSOLETE (Data (One (Boolean false) ∷ []))
unfolding Good
obsolete_good s = refl

pub methods_answered : (s : State) → IsSound s → (n : ℕ) (content : List DatumMeaning) → Good s (command_at METHOD n) (method_answer s n content)
methods_answered s sound n content =
    at_number s LINE_TABLE n _ _ (method_good s LINE_TABLE sound line_table_answer (λ c m h. alone_good s LINE_TABLE _ (lines_good s m.last m.lines h.lines)) content) (
    at_number s VARIABLE_TABLE n _ _ (method_good s VARIABLE_TABLE sound variable_table_answer (λ c m h. alone_good s VARIABLE_TABLE _ (variables_good s m h)) content) (
    at_number s IS_OBSOLETE n _ _ (method_good s IS_OBSOLETE sound obsolete_answer (λ c m h. alone_good s IS_OBSOLETE _ (obsolete_good s)) content) (
    at_number s VARIABLE_TABLE_WITH_GENERIC n _ _ (method_good s VARIABLE_TABLE_WITH_GENERIC sound generic_variable_table_answer (λ c m h. alone_good s VARIABLE_TABLE_WITH_GENERIC _ (generic_variables_good s m h)) content) (
    no_command s (command_at METHOD n)))))
