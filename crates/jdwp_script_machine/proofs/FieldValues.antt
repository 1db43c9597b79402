-- What is answered to GetValues where some field has no value.
use Rattle.std.proofs.Common.{◌≡◌, false, List, Option, Some, None, refl}
use Rattle.jdwp_wire.specs.ErrorCodes.{INVALID_FIELDID}
use Rattle.jdwp_layout.specs.declared.answer.Answer.TheVariants.{Error}
use Rattle.jdwp_layout.specs.Meanings.{ScalarMeaning}
use Rattle.jdwp_script_machine.specs.ClassAnswers.{answer_entries}
use Rattle.jdwp_machine.specs.Laws.{takes_memory}

pub refused_as : (found : Option (List (List ScalarMeaning))) → takes_memory (answer_entries found) ≡ false → answer_entries found ≡ Error INVALID_FIELDID
refused_as None h = refl
refused_as (Some entries) h = absurd cc
