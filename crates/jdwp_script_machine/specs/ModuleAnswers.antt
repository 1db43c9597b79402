-- What is answered of modules (JDWP specification, "ModuleReference").
use Rattle.std.specs.Prelude.{ℕ, ◌==◌, [], ◌∷◌, if◌then◌else◌}
use Rattle.jdwp_wire.specs.ErrorCodes.{NOT_IMPLEMENTED}
use Rattle.jdwp_layout.specs.declared.answer.Answer.TheVariants.{Data, Error}
use Rattle.jdwp_layout.specs.CommandNumbers.{MODULE_NAME, MODULE_CLASS_LOADER}
use Rattle.jdwp_layout.specs.Meanings.{Text, Object, One}
use Rattle.jdwp_script.specs.Parts.{ModulePart}
use Rattle.jdwp_script_machine.specs.States.{State}
use Rattle.jdwp_script_machine.specs.Requests.{Asks, alone, of_module}

abbrev pub module_name_answer : ModulePart → Asks
module_name_answer m = alone (Data (One (Text m.name) ∷ []))

-- no module has a loader
abbrev pub module_loader_answer : ModulePart → Asks
module_loader_answer m = alone (Data (One (Object 0) ∷ []))

abbrev pub module_reference_answer : State → ℕ → Asks
module_reference_answer s number content =
    if number == MODULE_NAME.number then of_module s.script module_name_answer content else (
    if number == MODULE_CLASS_LOADER.number then of_module s.script module_loader_answer content else
    Error NOT_IMPLEMENTED)
