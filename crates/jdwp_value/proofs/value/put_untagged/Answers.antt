use Rattle.std.proofs.Common.{rules}
use Rattle.jdwp_value.proofs.value.put_untagged.Goals as goal

pub returns-in-Int-clause-ok : goal.returns-in-Int-clause-ok
returns-in-Int-clause-ok c = search rules
