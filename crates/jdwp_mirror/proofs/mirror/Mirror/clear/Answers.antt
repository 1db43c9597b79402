use Rattle.std.proofs.Common.{rules}
use Rattle.jdwp_mirror.proofs.mirror.Mirror.clear.Goals as goal

pub returns : goal.returns
returns c = search rules
