use Rattle.std.proofs.Common.{length}
use Rattle.jdwp_pair.proofs.asking.+refusal_in.Given as goal

abbrev pub decreases-refusal_in : goal.decreases-refusal_in
decreases-refusal_in l = length l.outcomes.now
