use Rattle.jdwp_watch.proofs.Moving.{one-joined}
use Rattle.jdwp_watch.proofs.moves.step_after.Goals as goal

pub returns-in-None-clause-joined : goal.returns-in-None-clause-joined
returns-in-None-clause-joined c = one-joined c.args.steps.now c.args.one c.of.result c.of.ensures
