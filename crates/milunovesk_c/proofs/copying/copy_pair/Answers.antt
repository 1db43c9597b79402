use Rattle.std.proofs.Common.{arith}
use Rattle.milunovesk_c.proofs.Joined.{joined, joined-length}
use Rattle.milunovesk_c.proofs.copying.copy_pair.Goals as goal

pub returns : goal.returns
returns c = grind (arith, joined, joined-length)
