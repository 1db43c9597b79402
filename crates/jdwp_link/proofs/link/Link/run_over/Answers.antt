use Rattle.jdwp_link.proofs.Carrying.{over-on, stays-on, unfailed}
use Rattle.jdwp_link.proofs.Running.{ran-on, stops-at}
use Rattle.jdwp_link.proofs.link.Link.run_over.Goals as goal

pub returns-in-Err-clause-memory : goal.returns-in-Err-clause-memory
returns-in-Err-clause-memory g c =
    (stops-at g.M.Machine.meaning c.args.events.now c.loop-place.place _ c.args.self.now c.loop-place.self c.happen.new.self c.loop-place.outcomes.items c.happen.new.outcomes.items c.loop-place-test.true c.index-events-place.is c.loop-place.invariant.0 c.in-Err.ensures.err).1

pub loop-place-preserved : goal.loop-place-preserved
loop-place-preserved g c =
    let before = c.loop-place.invariant in (
      ran-on g.M.Machine.meaning c.args.events.now c.loop-place.place _ c.args.self.now c.loop-place.self c.happen.new.self c.loop-place.outcomes.items c.happen.new.outcomes.items c.loop-place-test.true c.index-events-place.is before.0 c.in_default.ensures.ok,
      (λ free. over-on g.M.Machine.meaning c.args.events.now c.loop-place.place _ c.args.self.now c.loop-place.self c.happen.new.self _ _ _ _ _ c.loop-place-test.true c.index-events-place.is (before.1 (unfailed g.W.Way.has_failed c.loop-place.way c.happen.new.way c.in_default.ensures.failed free)) c.in_default.ensures.ok c.in_default.ensures.delivers (c.in_default.ensures.carried free)),
      stays-on g.W.Way.has_failed c.args.way.now c.loop-place.way c.happen.new.way before.2 c.in_default.ensures.failed,
    )
