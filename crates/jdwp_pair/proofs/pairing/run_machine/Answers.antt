use Rattle.std.proofs.Common.{Bool, true, false, subst, refl}
use Rattle.jdwp_pair.specs.Rounds.{TurnsTarget, Until}
use Rattle.jdwp_pair.proofs.Leading.{if-err, if-ok, quietly-ends, target-moves}
use Rattle.jdwp_pair.proofs.pairing.run_machine.Goals as goal

pub returns-in-Ok-true-clause-runs : goal.returns-in-Ok-true-clause-runs
returns-in-Ok-true-clause-runs g c = (true, c.run_target.new.link, (subst (λ (b : Bool). Until (TurnsTarget g.M.Machine.meaning) c.args.link.now b c.run_target.new.link) c.in-Ok-true.field-0-test c.in-Ok-true.ensures.runs), (refl, refl))

pub returns-in-Ok-false-clause-runs : goal.returns-in-Ok-false-clause-runs
returns-in-Ok-false-clause-runs g c = if-ok c.release_or_step.result (λ did r. (false, c.run_target.new.link, (subst (λ (b : Bool). Until (TurnsTarget g.M.Machine.meaning) c.args.link.now b c.run_target.new.link) c.in-Ok-false.field-0-test c.in-Ok-false.ensures.runs), r)) c.release_or_step.ensures.moves

pub returns-in-Ok-false-clause-ends : goal.returns-in-Ok-false-clause-ends
returns-in-Ok-false-clause-ends g c =
    let m = g.M.Machine.meaning in
    if-err c.release_or_step.result
    (λ how e. quietly-ends m how c.args.link.now c.run_target.new.link c.release_or_step.new.link (target-moves m c.args.link.now c.run_target.new.link false (subst (λ (b : Bool). Until (TurnsTarget g.M.Machine.meaning) c.args.link.now b c.run_target.new.link) c.in-Ok-false.field-0-test c.in-Ok-false.ensures.runs)) e)
    c.release_or_step.ensures.ends
