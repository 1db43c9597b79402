-- Proofs that what is answered of modules is in the layouts of the replies, and fits.
use Rattle.std.proofs.Common.{ℕ, List, [], ◌∷◌, refl}
use Rattle.jdwp_layout.specs.declared.answer.Answer.TheVariants.{Data}
use Rattle.jdwp_layout.specs.CommandNumbers.{MODULE_REFERENCE, MODULE_NAME, MODULE_CLASS_LOADER}
use Rattle.jdwp_layout.specs.Meanings.{Object, Text, DatumMeaning, One}
use Rattle.jdwp_script.specs.Parts.{ModulePart}
use Rattle.jdwp_script_machine.specs.States.{State}
use Rattle.jdwp_script_machine.specs.ModuleAnswers.{module_name_answer, module_loader_answer, module_reference_answer}
use Rattle.jdwp_script_machine.specs.Sound.{ModuleIsSound, IsSound}
use Rattle.jdwp_script_machine.specs.SoundLaws.{zero_fits}
use Rattle.jdwp_script_machine.specs.FitLaws.{short_text}
use Rattle.jdwp_script_machine.specs.GoodAnswers.{Good, command_at, at_number, alone_good, module_good}
use Rattle.jdwp_script_machine.specs.ClassAnswerLaws.{no_command}

module_name_good : (s : State) (m : ModulePart) → ModuleIsSound s.script.sizes m → Good s MODULE_NAME (Data (One (Text m.name) ∷ []))
unfolding Good
module_name_good s m h = rw (short_text m.name h.name) refl

module_loader_good : (s : State) → Good s MODULE_CLASS_LOADER (Data (One (Object 0) ∷ []))
unfolding Good
module_loader_good s = rw (zero_fits s.script.sizes.object) refl

pub modules_answered : (s : State) → IsSound s → (n : ℕ) (content : List DatumMeaning) → Good s (command_at MODULE_REFERENCE n) (module_reference_answer s n content)
modules_answered s sound n content =
    at_number s MODULE_NAME n _ _ (module_good s MODULE_NAME sound module_name_answer (λ m h. alone_good s MODULE_NAME _ (module_name_good s m h)) content) (
    at_number s MODULE_CLASS_LOADER n _ _ (module_good s MODULE_CLASS_LOADER sound module_loader_answer (λ m h. alone_good s MODULE_CLASS_LOADER _ (module_loader_good s)) content) (
    no_command s (command_at MODULE_REFERENCE n)))
