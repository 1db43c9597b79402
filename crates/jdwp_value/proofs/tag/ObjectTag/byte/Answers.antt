use Rattle.std.proofs.Common.{rules}
use Rattle.jdwp_value.proofs.tag.ObjectTag.byte.Goals as goal

pub returns-in-String : goal.returns-in-String
returns-in-String c = search rules
