use Rattle.jdwp_watch.proofs.Moving.{wide-joined}
use Rattle.jdwp_watch.proofs.moves.wide_step_after.Goals as goal

pub returns-clause-joined : goal.returns-clause-joined
returns-clause-joined c =
    let last = c.in_ok-last.ensures in
    let before = c.in_ok-before.ensures in
    wide-joined c.args.steps.now c.args.one c.in_ok-last.last c.in_ok-before.before c.then-both.result c.of.result c.then-all.result c.requires last.positive last.value before.positive before.inside before.value c.then-both.ensures c.of.ensures c.then-all.ensures
