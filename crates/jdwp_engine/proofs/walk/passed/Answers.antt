use Rattle.std.proofs.Common.{ℕ, List, arith, sym, subst, take}
use Rattle.std.proofs.lemmas.Grind.{common_steps}
use Rattle.jdwp_machine.specs.Meanings.{numbers}
use Rattle.jdwp_engine.specs.Rounds.{AreBelow, id_in}
use Rattle.jdwp_engine.proofs.Ahead.{below-end, thread_at}
use Rattle.jdwp_engine.proofs.Onward.{numbers-next}
use Rattle.jdwp_engine.proofs.walk.passed.Goals as goal

pub loop-place-preserved : goal.loop-place-preserved
loop-place-preserved c =
    subst (λ (ids : List ℕ). AreBelow (id_in c.args.last) ids) (sym (numbers-next c.args.threads.now c.loop-place.place (record { 0 = 0 }) c.loop-place-test.true))
    (below-end (id_in c.args.last) (numbers (take c.loop-place.place c.args.threads.now)) (thread_at c.args.threads.now c.loop-place.place).0 c.loop-place.invariant (grind (arith, common_steps, c.is_above.ensures, c.if-is_above.false)))
