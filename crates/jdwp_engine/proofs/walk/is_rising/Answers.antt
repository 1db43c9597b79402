use Rattle.std.proofs.Common.{arith}
use Rattle.std.proofs.lemmas.Grind.{common_steps}
use Rattle.jdwp_engine.specs.Rounds.{id_in}
use Rattle.jdwp_engine.proofs.Ahead.{rising-from}
use Rattle.jdwp_engine.proofs.walk.is_rising.Goals as goal

pub loop-thread-preserved : goal.loop-thread-preserved
loop-thread-preserved c = λ rising.
    c.loop-thread.invariant
    (rising-from c.args.threads.now c.loop-thread.thread-index (id_in c.loop-thread.before) c.loop-thread-test.true (grind (arith, common_steps, c.is_above.ensures, c.if-not-is_above.false)) rising)
