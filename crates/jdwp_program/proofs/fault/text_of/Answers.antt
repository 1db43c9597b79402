use Rattle.std.proofs.Common.{rules}
use Rattle.jdwp_program.proofs.fault.text_of.Goals as goal

pub returns-in-Err : goal.returns-in-Err
returns-in-Err c = search rules
