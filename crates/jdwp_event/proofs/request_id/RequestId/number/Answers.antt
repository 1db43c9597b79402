use Rattle.std.proofs.Common.{rules}
use Rattle.jdwp_event.proofs.request_id.RequestId.number.Goals as goal

pub returns-clause-value : goal.returns-clause-value
returns-clause-value c = search rules
