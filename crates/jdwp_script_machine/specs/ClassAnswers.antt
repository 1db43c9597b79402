-- What is answered of the whole machine, of classes and of methods
-- (JDWP specification, "VirtualMachine", "ReferenceType", "ClassType" and "Method").
use Rattle.std.specs.Prelude.{ℕ, ℤ, pos, ◌==◌, false, List, [], ◌∷◌, map, filter, replicate, codes, bytes_eq, if◌then◌else◌, Option, Some, None}
use Rattle.std.specs.Int.{w64, cast_signed}
use Rattle.jdwp_wire.specs.ErrorCodes.{INVALID_FIELDID, ILLEGAL_ARGUMENT, NOT_IMPLEMENTED, ABSENT_INFORMATION}
use Rattle.jdwp_value.specs.Locations.{type_tag_byte}
use Rattle.jdwp_layout.specs.declared.answer.Answer.{Answer}
use Rattle.jdwp_layout.specs.declared.answer.Answer.TheVariants.{Data, Error}
use Rattle.jdwp_layout.specs.CommandNumbers.{VERSION, CLASSES_BY_SIGNATURE, ALL_CLASSES, TOP_LEVEL_THREAD_GROUPS, CAPABILITIES, DISPOSE_OBJECTS, CAPABILITIES_NEW, ALL_CLASSES_WITH_GENERIC, ALL_MODULES, SIGNATURE, CLASS_LOADER, MODIFIERS, FIELDS, METHODS, GET_STATICS, SOURCE_FILE, CLASS_STATUS, INTERFACES, SIGNATURE_WITH_GENERIC, FIELDS_WITH_GENERIC, METHODS_WITH_GENERIC, CLASS_MODULE, SUPERCLASS, LINE_TABLE, VARIABLE_TABLE, IS_OBSOLETE, VARIABLE_TABLE_WITH_GENERIC}
use Rattle.jdwp_layout.specs.Meanings.{ScalarMeaning, Byte, Boolean, Int, Long, Text, Object, ReferenceType, Method, OfField, Valued, One, Many}
use Rattle.jdwp_script.specs.declared.script.Line.{Line}
use Rattle.jdwp_script.specs.declared.step.Literal.{Literal}
use Rattle.jdwp_script.specs.Literals.{literal_value}
use Rattle.jdwp_script.specs.Parts.{GroupPart, FieldPart, SlotPart, MethodPart, ClassPart, ModulePart, ScriptPart}
use Rattle.jdwp_script_machine.specs.LookUps.{with_id}
use Rattle.jdwp_script_machine.specs.States.{State, is_prepared}
use Rattle.jdwp_script_machine.specs.Requests.{Asks, alone, of_class, of_prepared_class, of_method, of_entries}

-- ---- VirtualMachine

-- Version: a description, the version of JDWP, the version of the machine, and its name
abbrev pub version : ScriptPart → Answer
version script =
    Data (One (Text (codes "scripted machine")) ∷ One (Int (pos 11)) ∷ One (Int (pos 0)) ∷ One (Text (codes "11")) ∷ One (Text script.name) ∷ [])

-- the status of a class: 3, verified and prepared, once it is prepared, and 0 before
abbrev pub status : State → ClassPart → ℤ
status s c = if is_prepared s c.id then pos 3 else pos 0

abbrev pub class_entry : State → ClassPart → List ScalarMeaning
class_entry s c = Byte (type_tag_byte c.tag) ∷ ReferenceType c.id ∷ Int (status s c) ∷ []

abbrev pub class_entry_signed : State → ClassPart → List ScalarMeaning
class_entry_signed s c = Byte (type_tag_byte c.tag) ∷ ReferenceType c.id ∷ Text c.signature ∷ Int (status s c) ∷ []

-- the same with a generic signature, which is empty
abbrev pub class_entry_generic : State → ClassPart → List ScalarMeaning
class_entry_generic s c = Byte (type_tag_byte c.tag) ∷ ReferenceType c.id ∷ Text c.signature ∷ Text [] ∷ Int (status s c) ∷ []

-- ClassesBySignature: every class with this signature, by rising id
abbrev pub classes_by_signature : State → Asks
classes_by_signature s (One (Text signature) ∷ []) =
    Data (Many (map (class_entry s) (filter (λ (c : ClassPart). bytes_eq c.signature signature) s.script.classes)) ∷ [])
classes_by_signature s content = Error ILLEGAL_ARGUMENT

-- AllClasses and AllClassesWithGeneric, by rising id
abbrev pub all_classes : State → Answer
all_classes s = Data (Many (map (class_entry_signed s) s.script.classes) ∷ [])

abbrev pub all_classes_generic : State → Answer
all_classes_generic s = Data (Many (map (class_entry_generic s) s.script.classes) ∷ [])

abbrev pub group_entry : GroupPart → List ScalarMeaning
group_entry g = Object g.id ∷ []

-- the groups whose parent is this, or with 0 those that have none, by rising id
abbrev pub groups_below : ScriptPart → ℕ → List GroupPart
groups_below script parent = filter (λ (g : GroupPart). g.parent == parent) script.groups

abbrev pub top_groups : ScriptPart → Answer
top_groups script = Data (Many (map group_entry (groups_below script 0)) ∷ [])

abbrev pub module_entry : ModulePart → List ScalarMeaning
module_entry m = Object m.id ∷ []

-- AllModules, by rising id
abbrev pub all_modules : ScriptPart → Answer
all_modules script = Data (Many (map module_entry script.modules) ∷ [])

-- Capabilities and CapabilitiesNew: none
abbrev pub incapable : ℕ → Answer
incapable n = Data (replicate n (One (Boolean false)))

-- DisposeObjects does nothing, and tests no id
abbrev pub disposed : Asks
disposed (Many entries ∷ []) = Data []
disposed content = Error ILLEGAL_ARGUMENT

abbrev pub virtual_machine_answer : State → ℕ → Asks
virtual_machine_answer s number content =
    if number == VERSION.number then alone (version s.script) content else (
    if number == CLASSES_BY_SIGNATURE.number then classes_by_signature s content else (
    if number == ALL_CLASSES.number then alone (all_classes s) content else (
    if number == TOP_LEVEL_THREAD_GROUPS.number then alone (top_groups s.script) content else (
    if number == CAPABILITIES.number then alone (incapable 7) content else (
    if number == DISPOSE_OBJECTS.number then disposed content else (
    if number == CAPABILITIES_NEW.number then alone (incapable 32) content else (
    if number == ALL_CLASSES_WITH_GENERIC.number then alone (all_classes_generic s) content else (
    if number == ALL_MODULES.number then alone (all_modules s.script) content else
    Error NOT_IMPLEMENTED))))))))

-- ---- ReferenceType

abbrev pub field_entry : FieldPart → List ScalarMeaning
field_entry f = OfField f.id ∷ Text f.name ∷ Text f.signature ∷ Int f.modifiers ∷ []

abbrev pub field_entry_generic : FieldPart → List ScalarMeaning
field_entry_generic f = OfField f.id ∷ Text f.name ∷ Text f.signature ∷ Text [] ∷ Int f.modifiers ∷ []

abbrev pub method_entry : MethodPart → List ScalarMeaning
method_entry m = Method m.id ∷ Text m.name ∷ Text m.signature ∷ Int m.modifiers ∷ []

abbrev pub method_entry_generic : MethodPart → List ScalarMeaning
method_entry_generic m = Method m.id ∷ Text m.name ∷ Text m.signature ∷ Text [] ∷ Int m.modifiers ∷ []

abbrev pub interface_entry : ℕ → List ScalarMeaning
interface_entry i = ReferenceType i ∷ []

-- the value of a static field
abbrev pub static_of : Option FieldPart → Option Literal
static_of None = None
static_of (Some f) = f.value

-- the value of a static field of the class itself
abbrev pub static_value : ClassPart → ℕ → Option Literal
static_value c field = static_of (with_id (λ (f : FieldPart). f.id) field c.fields)

-- the entries of a reply, where each was found
abbrev pub answer_entries : Option (List (List ScalarMeaning)) → Answer
answer_entries None = Error INVALID_FIELDID
answer_entries (Some entries) = Data (Many entries ∷ [])

-- one more value in front, if it was found and the others were
abbrev pub and_value : Option Literal → Option (List (List ScalarMeaning)) → Option (List (List ScalarMeaning))
and_value None entries = None
and_value (Some x) None = None
and_value (Some x) (Some entries) = Some ((Valued (literal_value x) ∷ []) ∷ entries)

-- the field that an entry names
abbrev pub entry_value : (ℕ → Option Literal) → List ScalarMeaning → Option Literal
entry_value value_of (OfField field ∷ []) = value_of field
entry_value value_of entry = None

-- the values of the fields asked, in the order asked; None where one has none
abbrev pub field_values : (ℕ → Option Literal) → List (List ScalarMeaning) → Option (List (List ScalarMeaning))
field_values value_of [] = Some []
field_values value_of (entry ∷ entries) = and_value (entry_value value_of entry) (field_values value_of entries)

abbrev pub source_answer : Option (List ℕ) → Answer
source_answer None = Error ABSENT_INFORMATION
source_answer (Some source) = Data (One (Text source) ∷ [])

abbrev pub signature_answer : ClassPart → Asks
signature_answer c = alone (Data (One (Text c.signature) ∷ []))

-- no class has a loader
abbrev pub loader_answer : ClassPart → Asks
loader_answer c = alone (Data (One (Object 0) ∷ []))

abbrev pub modifiers_answer : ClassPart → Asks
modifiers_answer c = alone (Data (One (Int c.modifiers) ∷ []))

abbrev pub fields_answer : ClassPart → Asks
fields_answer c = alone (Data (Many (map field_entry c.fields) ∷ []))

abbrev pub methods_answer : ClassPart → Asks
methods_answer c = alone (Data (Many (map method_entry c.methods) ∷ []))

abbrev pub statics_answer : ClassPart → Asks
statics_answer c = of_entries (λ entries. answer_entries (field_values (static_value c) entries))

abbrev pub source_file_answer : ClassPart → Asks
source_file_answer c = alone (source_answer c.source)

abbrev pub status_answer : State → ClassPart → Asks
status_answer s c = alone (Data (One (Int (status s c)) ∷ []))

-- as they stand in the script
abbrev pub interfaces_answer : ClassPart → Asks
interfaces_answer c = alone (Data (Many (map interface_entry c.interfaces) ∷ []))

abbrev pub generic_signature_answer : ClassPart → Asks
generic_signature_answer c = alone (Data (One (Text c.signature) ∷ One (Text []) ∷ []))

abbrev pub generic_fields_answer : ClassPart → Asks
generic_fields_answer c = alone (Data (Many (map field_entry_generic c.fields) ∷ []))

abbrev pub generic_methods_answer : ClassPart → Asks
generic_methods_answer c = alone (Data (Many (map method_entry_generic c.methods) ∷ []))

-- 0 where the class is in none
abbrev pub module_answer : ClassPart → Asks
module_answer c = alone (Data (One (Object c.module) ∷ []))

abbrev pub reference_type_answer : State → ℕ → Asks
reference_type_answer s number content =
    if number == SIGNATURE.number then of_class s.script signature_answer content else (
    if number == CLASS_LOADER.number then of_class s.script loader_answer content else (
    if number == MODIFIERS.number then of_class s.script modifiers_answer content else (
    if number == FIELDS.number then of_prepared_class s fields_answer content else (
    if number == METHODS.number then of_prepared_class s methods_answer content else (
    if number == GET_STATICS.number then of_prepared_class s statics_answer content else (
    if number == SOURCE_FILE.number then of_class s.script source_file_answer content else (
    if number == CLASS_STATUS.number then of_class s.script (status_answer s) content else (
    if number == INTERFACES.number then of_prepared_class s interfaces_answer content else (
    if number == SIGNATURE_WITH_GENERIC.number then of_class s.script generic_signature_answer content else (
    if number == FIELDS_WITH_GENERIC.number then of_prepared_class s generic_fields_answer content else (
    if number == METHODS_WITH_GENERIC.number then of_prepared_class s generic_methods_answer content else (
    if number == CLASS_MODULE.number then of_class s.script module_answer content else
    Error NOT_IMPLEMENTED))))))))))))

-- ---- ClassType

-- 0 where the class has none
abbrev pub superclass_answer : ClassPart → Asks
superclass_answer c = alone (Data (One (ReferenceType c.superclass) ∷ []))

abbrev pub class_type_answer : State → ℕ → Asks
class_type_answer s number content =
    if number == SUPERCLASS.number then of_class s.script superclass_answer content else
    Error NOT_IMPLEMENTED

-- ---- Method

-- a code index as a long: its 8 bytes
abbrev pub index_long : ℕ → ScalarMeaning
index_long index = Long (cast_signed w64 index)

abbrev pub line_entry : Line → List ScalarMeaning
line_entry l = index_long l.index ∷ Int l.line ∷ []

-- the first and the last code index, and the lines as they stand
abbrev pub lines_answer : ℕ → List Line → Answer
lines_answer last [] = Error ABSENT_INFORMATION
lines_answer last (l ∷ ls) = Data (One (Long (pos 0)) ∷ One (index_long last) ∷ Many (map line_entry (l ∷ ls)) ∷ [])

abbrev pub variable_entry : SlotPart → List ScalarMeaning
variable_entry x = index_long x.from ∷ Text x.name ∷ Text x.signature ∷ Int x.len ∷ Int x.slot ∷ []

abbrev pub variable_entry_generic : SlotPart → List ScalarMeaning
variable_entry_generic x = index_long x.from ∷ Text x.name ∷ Text x.signature ∷ Text [] ∷ Int x.len ∷ Int x.slot ∷ []

abbrev pub line_table_answer : ClassPart → MethodPart → Asks
line_table_answer c m = alone (lines_answer m.last m.lines)

abbrev pub variable_table_answer : ClassPart → MethodPart → Asks
variable_table_answer c m = alone (Data (One (Int m.args) ∷ Many (map variable_entry m.slots) ∷ []))

abbrev pub obsolete_answer : ClassPart → MethodPart → Asks
obsolete_answer c m = alone (Data (One (Boolean false) ∷ []))

abbrev pub generic_variable_table_answer : ClassPart → MethodPart → Asks
generic_variable_table_answer c m = alone (Data (One (Int m.args) ∷ Many (map variable_entry_generic m.slots) ∷ []))

abbrev pub method_answer : State → ℕ → Asks
method_answer s number content =
    if number == LINE_TABLE.number then of_method s.script line_table_answer content else (
    if number == VARIABLE_TABLE.number then of_method s.script variable_table_answer content else (
    if number == IS_OBSOLETE.number then of_method s.script obsolete_answer content else (
    if number == VARIABLE_TABLE_WITH_GENERIC.number then of_method s.script generic_variable_table_answer content else
    Error NOT_IMPLEMENTED)))
