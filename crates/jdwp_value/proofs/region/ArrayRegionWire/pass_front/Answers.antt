use Rattle.std.proofs.Common.{sym, subst}
use Rattle.jdwp_wire.specs.Reading.{Gives}
use Rattle.jdwp_value.proofs.Kept.{region_passes}
use Rattle.jdwp_value.proofs.region.ArrayRegionWire.pass_front.Goals as goal

pub returns-clause-value : goal.returns-clause-value
returns-clause-value c =
    let tag = c.in_ok-tag.ensures.ok in
    let is = region_passes c.args.sizes.now c.args.whole c.args.rest.now c.in_ok-tag.tag c.in_ok-tag.rest.now c.in_ok-count.count c.in_ok-count.rest.now tag.0 tag.1 c.in_ok-count.ensures.value in
    subst (λ d. Gives (λ after. after.now) c.pass_elements.result d) (sym is) c.pass_elements.ensures.value
