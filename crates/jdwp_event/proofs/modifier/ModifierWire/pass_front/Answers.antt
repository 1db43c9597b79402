use Rattle.std.proofs.Common.{sym, subst}
use Rattle.std.proofs.Math.Facts.{Fits-lt-pow}
use Rattle.jdwp_wire.specs.Reading.{Gives}
use Rattle.jdwp_event.proofs.ModifierPassed.{modifier_passes}
use Rattle.jdwp_event.proofs.modifier.ModifierWire.pass_front.Goals as goal

pub returns-clause-value : goal.returns-clause-value
returns-clause-value c =
    let is = modifier_passes c.args.sizes.now c.args.whole c.args.rest.now (λ i. Fits-lt-pow (c.type_inv.rest i)) in
    subst (λ d. Gives (λ after. after.now) c.pass_entry.result d) (sym is) c.pass_entry.ensures.value
