use Rattle.std.proofs.Common.{rules}
use Rattle.jdwp_value.proofs.tag.TagWire.size.Goals as goal

pub returns : goal.returns
returns c = search rules
