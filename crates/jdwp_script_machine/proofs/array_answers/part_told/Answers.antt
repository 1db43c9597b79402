use Rattle.std.proofs.Common.{rules}
use Rattle.jdwp_script_machine.proofs.array_answers.part_told.Goals as goal

pub returns-in-Ok : goal.returns-in-Ok
returns-in-Ok c = search rules
