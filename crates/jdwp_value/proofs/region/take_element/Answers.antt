use Rattle.std.proofs.Common.{sym, ◌∙◌}
use Rattle.std.proofs.Math.Facts.{Fits-lt-pow}
use Rattle.jdwp_value.proofs.Elements.{read_may_stand}
use Rattle.jdwp_value.proofs.region.take_element.Goals as goal

pub returns-else-is_object-clause-fits : goal.returns-else-is_object-clause-fits
returns-else-is_object-clause-fits c =
    let plain = sym c.is_object.ensures ∙ c.if-is_object.false in
    read_may_stand (λ s. s.now) c.args.sizes.now c.args.whole c.args.tag c.args.rest.now c.take_untagged.result (λ i. Fits-lt-pow (c.type_inv.rest i)) plain c.take_untagged.ensures.value
