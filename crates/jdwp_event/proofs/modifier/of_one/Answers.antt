use Rattle.std.proofs.Common.{rules}
use Rattle.jdwp_event.proofs.modifier.of_one.Goals as goal

pub returns-in-11-ObjectId : goal.returns-in-11-ObjectId
returns-in-11-ObjectId c = search rules
