use Rattle.std.proofs.Common.{rules}
use Rattle.jdwp_script_machine.proofs.location_answers.in_class.Goals as goal

pub returns-in-Some : goal.returns-in-Some
returns-in-Some c = search rules
