use Rattle.std.proofs.Common.{rules}
use Rattle.jdwp_machine.proofs.laws.ends_its_thread.Goals as goal

pub returns : goal.returns
returns g c = search rules
