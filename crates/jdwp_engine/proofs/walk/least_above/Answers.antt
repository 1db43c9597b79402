use Rattle.std.proofs.Common.{ℕ, List, take, sym, subst}
use Rattle.jdwp_machine.specs.Meanings.{numbers}
use Rattle.jdwp_engine.specs.Rounds.{IsNext, id_in}
use Rattle.jdwp_engine.proofs.Onward.{numbers-next}
use Rattle.jdwp_engine.proofs.walk.least_above.Goals as goal

pub loop-thread-preserved : goal.loop-thread-preserved
loop-thread-preserved c =
    subst (λ (ids : List ℕ). IsNext ids (id_in c.args.last) (id_in c.nearer-found.result)) (sym (numbers-next c.args.threads.now c.loop-thread.thread-index _ c.loop-thread-test.true))
    (c.nearer-found.ensures (numbers (take c.loop-thread.thread-index c.args.threads.now)) c.loop-thread.invariant)
