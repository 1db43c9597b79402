use Rattle.std.proofs.Common.{rules}
use Rattle.jdwp_mirror.proofs.judging.is_bad_composite.Goals as goal

pub returns-then-is_suspended : goal.returns-then-is_suspended
returns-then-is_suspended c = search rules
