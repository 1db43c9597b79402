-- The answers about classes and methods by what is asked, and what the code's look-ups and readings of data find.
use Rattle.std.specs.Prelude.{false, List, [], ◌∷◌, map, Option, Some, None}
use Rattle.std.specs.Borrow.{Bor}
use Rattle.std.specs.Global.{Vec}
use Rattle.jdwp_wire.specs.ErrorCodes.{ILLEGAL_ARGUMENT}
use Rattle.jdwp_layout.specs.declared.answer.Answer.{Answer}
use Rattle.jdwp_layout.specs.declared.answer.Answer.TheVariants.{Data, Error}
use Rattle.jdwp_layout.specs.declared.datum.Scalar.{Scalar}
use Rattle.jdwp_layout.specs.Meanings.{ScalarMeaning, Boolean, Int, Text, Object, ReferenceType, One, Many, entry_meanings}
use Rattle.jdwp_script.specs.Parts.{MethodPart, ClassPart}
use Rattle.jdwp_script_machine.specs.declared.class_answers.ClassQuestion.{ClassQuestion}
use Rattle.jdwp_script_machine.specs.declared.class_answers.ClassQuestion.TheVariants as class
use Rattle.jdwp_script_machine.specs.declared.method_answers.MethodQuestion.{MethodQuestion}
use Rattle.jdwp_script_machine.specs.declared.method_answers.MethodQuestion.TheVariants as method
use Rattle.jdwp_script_machine.specs.declared.machine_answers.MachineQuestion.{MachineQuestion}
use Rattle.jdwp_script_machine.specs.declared.machine_answers.MachineQuestion.TheVariants as machine
use Rattle.jdwp_script_machine.specs.States.{State}
use Rattle.jdwp_script_machine.specs.ClassAnswers.{version, all_classes, all_classes_generic, all_modules, top_groups, incapable, field_entry, field_entry_generic, method_entry, method_entry_generic, interface_entry, status, source_answer, lines_answer, variable_entry, variable_entry_generic}

-- ---- what is answered by what is asked

abbrev pub machine_answer_to : State → MachineQuestion → Answer
machine_answer_to s machine.Version = version s.script
machine_answer_to s machine.AllClasses = all_classes s
machine_answer_to s machine.TopLevelThreadGroups = top_groups s.script
machine_answer_to s machine.Capabilities = incapable 7
machine_answer_to s machine.CapabilitiesNew = incapable 32
machine_answer_to s machine.AllClassesWithGeneric = all_classes_generic s
machine_answer_to s machine.AllModules = all_modules s.script

abbrev pub class_answer_to : State → ClassQuestion → ClassPart → Answer
class_answer_to s class.Signature c = Data (One (Text c.signature) ∷ [])
class_answer_to s class.Loader c = Data (One (Object 0) ∷ [])
class_answer_to s class.Modifiers c = Data (One (Int c.modifiers) ∷ [])
class_answer_to s class.Fields c = Data (Many (map field_entry c.fields) ∷ [])
class_answer_to s class.Methods c = Data (Many (map method_entry c.methods) ∷ [])
class_answer_to s class.SourceFile c = source_answer c.source
class_answer_to s class.Status c = Data (One (Int (status s c)) ∷ [])
class_answer_to s class.Interfaces c = Data (Many (map interface_entry c.interfaces) ∷ [])
class_answer_to s class.GenericSignature c = Data (One (Text c.signature) ∷ One (Text []) ∷ [])
class_answer_to s class.GenericFields c = Data (Many (map field_entry_generic c.fields) ∷ [])
class_answer_to s class.GenericMethods c = Data (Many (map method_entry_generic c.methods) ∷ [])
class_answer_to s class.InModule c = Data (One (Object c.module) ∷ [])
class_answer_to s class.Superclass c = Data (One (ReferenceType c.superclass) ∷ [])

abbrev pub method_answer_to : MethodQuestion → MethodPart → Answer
method_answer_to method.LineTable m = lines_answer m.last m.lines
method_answer_to method.VariableTable m = Data (One (Int m.args) ∷ Many (map variable_entry m.slots) ∷ [])
method_answer_to method.IsObsolete m = Data (One (Boolean false) ∷ [])
method_answer_to method.GenericVariableTable m = Data (One (Int m.args) ∷ Many (map variable_entry_generic m.slots) ∷ [])

-- ---- what data are left

-- what is answered of the entries that are asked; other data are an illegal argument
abbrev pub by_entries : (List (List ScalarMeaning) → Answer) → Option (Bor (List (Vec Scalar))) → Answer
by_entries answer None = Error ILLEGAL_ARGUMENT
by_entries answer (Some entries) = answer (entry_meanings entries.now)
