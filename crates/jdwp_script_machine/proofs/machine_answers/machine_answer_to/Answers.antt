use Rattle.std.proofs.Common.{rules}
use Rattle.jdwp_script_machine.proofs.machine_answers.machine_answer_to.Goals as goal

pub returns-in-AllClasses-clause-value : goal.returns-in-AllClasses-clause-value
returns-in-AllClasses-clause-value c = search rules
