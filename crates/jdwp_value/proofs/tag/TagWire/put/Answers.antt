use Rattle.std.proofs.Common.{rules}
use Rattle.jdwp_value.proofs.tag.TagWire.put.Goals as goal

pub returns-clause-ok : goal.returns-clause-ok
returns-clause-ok c = search rules
