use Rattle.std.proofs.Common.{length}
use Rattle.jdwp_debugger.proofs.turning.+learn_each.Given as goal

abbrev pub decreases-learn_each : goal.decreases-learn_each
decreases-learn_each l = length l.composites.now
