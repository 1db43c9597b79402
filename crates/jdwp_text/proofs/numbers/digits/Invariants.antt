use Rattle.std.proofs.Common.{length}
use Rattle.jdwp_text.proofs.numbers.digits.Given as goal

abbrev pub decreases-loop-rest : goal.decreases-loop-rest
decreases-loop-rest l = length l.rest
