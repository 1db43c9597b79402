use Rattle.std.proofs.Common.{Bool, subst, refl, rules, arith}
use Rattle.jdwp_pair.specs.Rounds.{NotYet, OneMore, TurnsTarget}
use Rattle.jdwp_pair.proofs.Leading.{once-more, quietly-ends, repeats-move, turns-target-moves, until-stops, until-used}
use Rattle.jdwp_pair.proofs.parts.run_target.Goals as goal

pub loop-done-init : goal.loop-done-init
loop-done-init g c = record { repeats = NotYet; handled = refl; works = c.requires }

pub loop-done-preserved : goal.loop-done-preserved
loop-done-preserved g c = record {
  repeats = OneMore c.loop-done._done c.loop-done.link c.turn_target.new.link c.loop-done.invariant.repeats
      (subst (λ (b : Bool). TurnsTarget g.M.Machine.meaning c.loop-done.link b c.turn_target.new.link) c.in-Ok-true.field-0-test c.in-Ok-true.ensures.turns);
  handled = once-more c.loop-done._done;
  works = search rules;
}

pub returns-in-Ok-false-clause-runs : goal.returns-in-Ok-false-clause-runs
returns-in-Ok-false-clause-runs g c =
    until-stops (TurnsTarget g.M.Machine.meaning) c.args.link.now c.loop-done.link c.turn_target.new.link c.loop-done._done c.loop-done.handled c.loop-done.invariant.repeats
    (subst (λ (b : Bool). TurnsTarget g.M.Machine.meaning c.loop-done.link b c.turn_target.new.link) c.in-Ok-false.field-0-test c.in-Ok-false.ensures.turns) c.loop-done.invariant.handled

pub returns-in-Err-clause-ends : goal.returns-in-Err-clause-ends
returns-in-Err-clause-ends g c =
    let m = g.M.Machine.meaning in
    quietly-ends m c.in-Err.ended c.args.link.now c.loop-done.link c.turn_target.new.link
    (repeats-move m (TurnsTarget m) (λ a b did d. turns-target-moves m a b did d) c.args.link.now c.loop-done._done c.loop-done.link c.loop-done.invariant.repeats) c.in-Err.ensures.ends

pub returns-clause-runs : goal.returns-clause-runs
returns-clause-runs g c =
    until-used (TurnsTarget g.M.Machine.meaning) c.args.link.now c.loop-done.link c.loop-done._done c.loop-done.handled c.loop-done.invariant.repeats (omega (arith, c.loop-done-test.false)) c.loop-done.invariant.handled
