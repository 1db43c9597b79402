use Rattle.std.proofs.lemmas.Grind.{common_steps}
use Rattle.std.proofs.Common.{arith}
use Rattle.jdwp_engine.proofs.Known.{early_push}
use Rattle.jdwp_engine.proofs.pipes.streams.LiveStreamsLivePipe.read.Goals as goal

pub returns-in-Ok-Bytes-clause-story : goal.returns-in-Ok-Bytes-clause-story
returns-in-Ok-Bytes-clause-story g c = grind (arith, common_steps, early_push)

pub returns-in-Ok-Nothing-clause-story : goal.returns-in-Ok-Nothing-clause-story
returns-in-Ok-Nothing-clause-story g c = grind (arith, common_steps, early_push)

pub returns-in-Ok-End-clause-story : goal.returns-in-Ok-End-clause-story
returns-in-Ok-End-clause-story g c = grind (arith, common_steps, early_push)

pub returns-in-Err-clause-story : goal.returns-in-Err-clause-story
returns-in-Err-clause-story g c = grind (arith, common_steps, early_push)
