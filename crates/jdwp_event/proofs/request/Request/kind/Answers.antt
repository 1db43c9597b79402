use Rattle.std.proofs.Common.{rules}
use Rattle.jdwp_event.proofs.request.Request.kind.Goals as goal

pub returns : goal.returns
returns c = search rules
