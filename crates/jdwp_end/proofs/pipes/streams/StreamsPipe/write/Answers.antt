use Rattle.std.proofs.Common.{rules, arith}
use Rattle.std.proofs.lemmas.Grind.{common_steps}
use Rattle.jdwp_end.proofs.pipes.streams.StreamsPipe.write.Goals as goal

pub returns-else-count-eq0-clause-writer : goal.returns-else-count-eq0-clause-writer
returns-else-count-eq0-clause-writer g c = search rules

pub returns-then-not-is_empty-clause-story : goal.returns-then-not-is_empty-clause-story
returns-then-not-is_empty-clause-story g c = grind (arith, common_steps)

pub returns-in-Err : goal.returns-in-Err
returns-in-Err c = grind (arith, common_steps)
