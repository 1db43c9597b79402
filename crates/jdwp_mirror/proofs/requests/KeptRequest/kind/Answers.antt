use Rattle.std.proofs.Common.{rules}
use Rattle.jdwp_mirror.proofs.requests.KeptRequest.kind.Goals as goal

pub returns : goal.returns
returns c = search rules
