-- What a machine answers beside the standard profile, for debuggers over the Java Debug Interface (JDWP specification, "VirtualMachine",
-- "ReferenceType", "ObjectReference", "ThreadReference" and "ModuleReference").
use Rattle.std.specs.Prelude.{ℕ, ◌+◌, ◌-◌, ◌^◌, ◌==◌, ◌&&◌, not, max, Bool, List, [], ◌∷◌, ◌++◌, map, length, slice_get, codes, bytes_eq, nat_lt, if◌then◌else◌, Option, Some, None, option_map}
use Rattle.jdwp_wire.specs.ErrorCodes.{ABSENT_INFORMATION}
use Rattle.jdwp_value.specs.declared.tag.ObjectTag.TheVariants as kind
use Rattle.jdwp_value.specs.Values.{object_id}
use Rattle.jdwp_layout.specs.declared.answer.Answer.{Answer}
use Rattle.jdwp_layout.specs.declared.answer.Answer.TheVariants.{Data, Error}
use Rattle.jdwp_layout.specs.CommandNumbers.{is_command, OBJECT_TYPE, ALL_MODULES, CLASS_MODULE, MODULE_NAME, MODULE_CLASS_LOADER, CLASS_PATHS, CONTENDED_MONITOR, OWNED_MONITORS, SOURCE_DEBUG_EXTENSION}
use Rattle.jdwp_layout.specs.Meanings.{ScalarMeaning, Text, Object, Tagged, DatumMeaning, One, Many, Raw}
use Rattle.jdwp_layout.specs.Writes.{data_canonical}
use Rattle.jdwp_script.specs.Parts.{GroupPart, ClassPart, ObjectPart, ThreadPart, ModulePart, ScriptPart}
use Rattle.jdwp_script_machine.specs.States.{State}
use Rattle.jdwp_script_machine.specs.Sites.{class_in, group_in, thread_in}
use Rattle.jdwp_script_machine.specs.Requests.{Asks, alone, of_class, of_object, of_module, of_thread}
use Rattle.jdwp_script_machine.specs.ClassAnswers.{module_entry}
use Rattle.jdwp_script_machine.specs.ObjectAnswers.{type_answer, object_type_answer}
use Rattle.jdwp_script_machine.specs.ModuleAnswers.{module_name_answer, module_loader_answer}
use Rattle.jdwp_script_machine.specs.Answers.{answer_at}

-- ---- the class of a thread or a group

-- the first class with this signature: by rising id, that of least id
abbrev pub class_signed : List ℕ → List ClassPart → Option ClassPart
class_signed signature [] = None
class_signed signature (c ∷ cs) = if bytes_eq c.signature signature then Some c else class_signed signature cs

-- the class that the script names, or else the one with this signature
abbrev pub class_named : ScriptPart → ℕ → List ℕ → Option ClassPart
class_named script class signature = if class == 0 then class_signed signature script.classes else class_in script class

abbrev pub class_by : ScriptPart → Option ThreadPart → Option GroupPart → Option ClassPart
class_by script (Some t) g = class_named script t.class (codes "Ljava/lang/Thread;")
class_by script None (Some g) = class_named script g.class (codes "Ljava/lang/ThreadGroup;")
class_by script None None = None

-- the class of the thread or the group of this id, if it is one and has one
abbrev pub class_of_id : ScriptPart → ℕ → Option ClassPart
class_of_id script id = class_by script (thread_in script id) (group_in script id)

-- what data ask of the type of such a thread or group, and the data that are left
pub record TypeAsked : Type 0 where
  pub class : ClassPart
  pub rest : List DatumMeaning

abbrev pub asked_of : List DatumMeaning → ClassPart → TypeAsked
asked_of rest c = record { class = c; rest = rest }

abbrev pub type_asked : ScriptPart → List DatumMeaning → Option TypeAsked
type_asked script (One (Object id) ∷ rest) = option_map (asked_of rest) (class_of_id script id)
type_asked script content = None

abbrev pub type_told : Answer → Option TypeAsked → Answer
type_told otherwise None = otherwise
type_told otherwise (Some asked) = alone (type_answer asked.class) asked.rest

-- ObjectReference.ReferenceType: of a thread or a group its class, of the others as ever
abbrev pub any_type_answer : State → Asks
any_type_answer s content = type_told (of_object s (object_type_answer s.script) content) (type_asked s.script content)

-- ---- the unnamed module

abbrev pub id_or_zero : {A : Type 0} → (A → ℕ) → Option A → ℕ
id_or_zero key None = 0
id_or_zero key (Some x) = key x

-- the id of the last: by rising id, the greatest one, and 0 where there is none
abbrev pub last_id : {A : Type 0} → (A → ℕ) → List A → ℕ
last_id key xs = id_or_zero key (slice_get xs (length xs - 1))

-- the greatest id of a group, a thread, an object or a module
abbrev pub greatest_id : ScriptPart → ℕ
greatest_id script =
    max (max (last_id (λ (g : GroupPart). g.id) script.groups) (last_id (λ (t : ThreadPart). t.id) script.threads))
    (max (last_id (λ (o : ObjectPart). o.id) script.objects) (last_id (λ (m : ModulePart). m.id) script.modules))

-- whether a number is an id of this width, which has 8 bytes at most
abbrev pub is_id : ℕ → ℕ → Bool
is_id width n = nat_lt n (2 ^ 64) && nat_lt n (256 ^ width)

-- the number, or 0 where it is none
abbrev pub fitting : ℕ → ℕ → ℕ
fitting width n = if is_id width n then n else 0

-- The id of the module of all classes that the script puts in none: one more than the greatest id of a group, a thread, an object or a
-- module. There is no such module, and this is 0, where that doesn't fit the width of objects' ids.
abbrev pub unnamed_module : ScriptPart → ℕ
unnamed_module script = fitting script.sizes.object (greatest_id script + 1)

abbrev pub unnamed_entries : ℕ → List (List ScalarMeaning)
unnamed_entries n = if n == 0 then [] else (Object n ∷ []) ∷ []

-- VirtualMachine.AllModules, by rising id
abbrev pub every_module : ScriptPart → Answer
every_module script = Data (Many (map module_entry script.modules ++ unnamed_entries (unnamed_module script)) ∷ [])

-- ReferenceType.Module
abbrev pub module_or_unnamed : ScriptPart → ℕ → ℕ
module_or_unnamed script id = if id == 0 then unnamed_module script else id

abbrev pub any_module_answer : ScriptPart → ClassPart → Asks
any_module_answer script c = alone (Data (One (Object (module_or_unnamed script c.module)) ∷ []))

-- the data behind the unnamed module's id, if they begin with it
abbrev pub unnamed_asked : ScriptPart → List DatumMeaning → Option (List DatumMeaning)
unnamed_asked script (One (Object id) ∷ rest) = if not (id == 0) && (id == unnamed_module script) then Some rest else None
unnamed_asked script content = None

abbrev pub unnamed_told : Answer → Answer → Option (List DatumMeaning) → Answer
unnamed_told unnamed otherwise None = otherwise
unnamed_told unnamed otherwise (Some rest) = alone unnamed rest

-- ModuleReference.Name, which is empty, and ModuleReference.ClassLoader
abbrev pub any_name_answer : ScriptPart → Asks
any_name_answer script content = unnamed_told (Data (One (Text []) ∷ [])) (of_module script module_name_answer content) (unnamed_asked script content)

abbrev pub any_loader_answer : ScriptPart → Asks
any_loader_answer script content = unnamed_told (Data (One (Object 0) ∷ [])) (of_module script module_loader_answer content) (unnamed_asked script content)

-- ---- what no script says

-- VirtualMachine.ClassPaths: the base directory is `/`, and there are no class paths and no boot class paths. The row is raw, so it is answered
-- the bytes of these. No id stands in them, so that they are the same at all widths.
abbrev pub class_paths_content : List DatumMeaning
class_paths_content = One (Text (codes "/")) ∷ Many [] ∷ Many [] ∷ []

abbrev pub class_paths_bytes : List ℕ
class_paths_bytes = data_canonical (record { field = 8; method = 8; object = 8; reference = 8; frame = 8 }) class_paths_content

abbrev pub class_paths_answer : Asks
class_paths_answer = alone (Data (Raw class_paths_bytes ∷ []))

-- ReferenceType.SourceDebugExtension: no class has one
abbrev pub extension_answer : ClassPart → Asks
extension_answer c = alone (Error ABSENT_INFORMATION)

-- ThreadReference.OwnedMonitors and CurrentContendedMonitor: no thread has a monitor or waits for one
abbrev pub owned_answer : ThreadPart → Asks
owned_answer t = alone (Data (Many [] ∷ []))

abbrev pub contended_answer : ThreadPart → Asks
contended_answer t = alone (Data (One (Tagged (object_id kind.Object 0)) ∷ []))

-- ---- all of it

abbrev pub jdi_answer_at : State → ℕ → ℕ → Asks
jdi_answer_at s set number content =
    if is_command OBJECT_TYPE set number then any_type_answer s content else (
    if is_command CLASS_PATHS set number then class_paths_answer content else (
    if is_command ALL_MODULES set number then alone (every_module s.script) content else (
    if is_command CLASS_MODULE set number then of_class s.script (any_module_answer s.script) content else (
    if is_command MODULE_NAME set number then any_name_answer s.script content else (
    if is_command MODULE_CLASS_LOADER set number then any_loader_answer s.script content else (
    if is_command SOURCE_DEBUG_EXTENSION set number then of_class s.script extension_answer content else (
    if is_command OWNED_MONITORS set number then of_thread s.script owned_answer content else (
    if is_command CONTENDED_MONITOR set number then of_thread s.script contended_answer content else
    answer_at s set number content))))))))
