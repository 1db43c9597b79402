use Rattle.std.proofs.Common.{rules}
use Rattle.jdwp_debugger.proofs.lost.Lost.as_slice.Goals as goal

pub returns : goal.returns
returns c = search rules
