use Rattle.std.proofs.Common.{rules}
use Rattle.jdwp_script.proofs.step.Literal.value.Goals as goal

pub returns-in-Int : goal.returns-in-Int
returns-in-Int c = search rules
