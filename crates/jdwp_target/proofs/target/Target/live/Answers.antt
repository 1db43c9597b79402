use Rattle.std.proofs.Common.{rules}
use Rattle.jdwp_target.proofs.target.Target.live.Goals as goal

pub returns : goal.returns
returns g c = search rules
