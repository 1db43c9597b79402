use Rattle.std.proofs.Common.{length}
use Rattle.jdwp_attach.proofs.tell.turns.+sizes_text.Given as goal

abbrev pub decreases-sizes_text : goal.decreases-sizes_text
decreases-sizes_text l = length l.composites.now
