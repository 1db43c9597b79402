use Rattle.std.proofs.Common.{rules}
use Rattle.jdwp_program.proofs.fault.Fault.of_file.Goals as goal

pub returns : goal.returns
returns c = search rules
