use Rattle.std.proofs.Common.{rules}
use Rattle.jdwp_value.proofs.region.ArrayRegion.into_elements.Goals as goal

pub returns : goal.returns
returns c = search rules
