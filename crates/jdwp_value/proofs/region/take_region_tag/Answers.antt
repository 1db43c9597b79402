use Rattle.std.proofs.Common.{rules}
use Rattle.jdwp_value.proofs.region.take_region_tag.Goals as goal

pub returns-then-is_void-clause-err : goal.returns-then-is_void-clause-err
returns-then-is_void-clause-err c = search rules

pub returns-then-is_void-clause-memory : goal.returns-then-is_void-clause-memory
returns-then-is_void-clause-memory c = search rules
