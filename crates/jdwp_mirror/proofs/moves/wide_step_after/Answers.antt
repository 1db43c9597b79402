use Rattle.jdwp_mirror.proofs.Drifting.{wide-joined}
use Rattle.jdwp_mirror.proofs.moves.wide_step_after.Goals as goal

pub returns-clause-joined : goal.returns-clause-joined
returns-clause-joined c =
    let last = c.in_ok-last.ensures in
    let before = c.in_ok-before.ensures in
    wide-joined c.args.steps.now c.args.one c.in_ok-then.field-0 c.in_ok-all.all c.in_ok-last.last c.in_ok-before.before c.requires last.positive last.value before.positive before.inside before.value c.in_ok-then.ensures c.in_ok-all.ensures
