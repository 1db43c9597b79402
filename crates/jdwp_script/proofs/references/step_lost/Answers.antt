use Rattle.std.proofs.Common.{rules}
use Rattle.jdwp_script.proofs.references.step_lost.Goals as goal

pub returns-in-Go : goal.returns-in-Go
returns-in-Go c = search rules
