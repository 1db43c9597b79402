use Rattle.std.proofs.Common.{rules}
use Rattle.jdwp_value.proofs.region.ArrayRegionPartialEq.eq.Goals as goal

pub returns-then-same_tag : goal.returns-then-same_tag
returns-then-same_tag c = search rules

pub returns-else-same_tag : goal.returns-else-same_tag
returns-else-same_tag c = search rules
