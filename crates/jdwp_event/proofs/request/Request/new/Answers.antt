use Rattle.std.proofs.Common.{◌≡◌, length, arith}
use Rattle.jdwp_event.specs.RequestParts.{origin_meaning, modifiers_meaning}
use Rattle.jdwp_event.proofs.Limits.{new_is, nothing_left}
use Rattle.jdwp_event.proofs.request.Request.new.Goals as goal

pub returns-clause-value : goal.returns-clause-value
returns-clause-value c =
    let a = c.loop-modifier.modifier-iterator.rest.ok in
    let d = c.in-None.ensures.steps in
    let n : length c.loop-modifier.modifier-iterator.rest.items ≡ 0 = omega arith in
    new_is c.args.id c.args.kind c.args.policy c.loop-modifier.limits.items c.loop-modifier.modifier-iterator.rest.items (modifiers_meaning c.args.modifiers) (origin_meaning c.args.origin) (nothing_left c.loop-modifier.modifier-iterator.rest.items n) c.loop-modifier.invariant
