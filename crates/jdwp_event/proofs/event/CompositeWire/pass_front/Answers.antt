use Rattle.std.proofs.Common.{sym, subst}
use Rattle.jdwp_wire.specs.Reading.{Gives}
use Rattle.jdwp_event.proofs.CompositeKept.{composite_passes}
use Rattle.jdwp_event.proofs.event.CompositeWire.pass_front.Goals as goal

pub returns-clause-value : goal.returns-clause-value
returns-clause-value c =
    let is = composite_passes c.args.sizes.now c.args.whole c.args.rest.now c.in_ok-_policy._policy c.in_ok-_policy.rest.now c.in_ok-count.count c.in_ok-count.rest.now c.in_ok-_policy.ensures.value c.in_ok-count.ensures.value in
    subst (λ d. Gives (λ after. after.now) c.pass_entries.result d) (sym is) c.pass_entries.ensures.value
