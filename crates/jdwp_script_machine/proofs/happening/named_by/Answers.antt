use Rattle.std.proofs.Common.{rules}
use Rattle.jdwp_script_machine.proofs.happening.named_by.Goals as goal

pub returns-in-Start : goal.returns-in-Start
returns-in-Start c = search rules
