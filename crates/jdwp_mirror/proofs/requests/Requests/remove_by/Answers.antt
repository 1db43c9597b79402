use Rattle.std.proofs.Common.{rules}
use Rattle.jdwp_mirror.proofs.requests.Requests.remove_by.Goals as goal

pub returns-in_default : goal.returns-in_default
returns-in_default c = search rules
