use Rattle.std.proofs.Common.{rules}
use Rattle.jdwp_end.proofs.end.End.limits.Goals as goal

pub returns : goal.returns
returns c =
    search rules
