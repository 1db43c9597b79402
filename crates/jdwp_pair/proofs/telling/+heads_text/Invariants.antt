use Rattle.std.proofs.Common.{length}
use Rattle.jdwp_pair.proofs.telling.+heads_text.Given as goal

abbrev pub decreases-heads_text : goal.decreases-heads_text
decreases-heads_text l = length l.heads.now
