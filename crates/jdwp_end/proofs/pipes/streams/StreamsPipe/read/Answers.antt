use Rattle.std.proofs.lemmas.Grind.{common_steps}
use Rattle.std.proofs.Common.{arith}
use Rattle.jdwp_end.proofs.Known.{early_push}
use Rattle.jdwp_end.proofs.pipes.streams.StreamsPipe.read.Goals as goal

pub returns-then-count-eq0-clause-story : goal.returns-then-count-eq0-clause-story
returns-then-count-eq0-clause-story g c = grind (arith, common_steps, early_push)

pub returns-else-has_room-2-clause-story : goal.returns-else-has_room-2-clause-story
returns-else-has_room-2-clause-story g c = grind (arith, common_steps, early_push)

pub returns-in-Err-clause-story : goal.returns-in-Err-clause-story
returns-in-Err-clause-story g c = grind (arith, common_steps, early_push)
