use Rattle.std.proofs.Common.{sym, subst}
use Rattle.jdwp_wire.specs.Reading.{Gives}
use Rattle.jdwp_value.specs.Values.{value_at, tagged_id_at}
use Rattle.jdwp_layout.specs.Meanings.{Valued, Tagged}
use Rattle.jdwp_wire.proofs.Passed.{passed_mapped}
use Rattle.jdwp_layout.proofs.validation.skip_field.Goals as goal

pub returns-in-Value-clause-value : goal.returns-in-Value-clause-value
returns-in-Value-clause-value c =
    rw (c.in-Value.is) (subst (λ d. Gives (λ after. after.now) c.pass_front-in-Value.result d) (sym (passed_mapped (λ v. Valued v) (value_at c.args.sizes.now c.args.whole c.args.rest.now))) c.pass_front-in-Value.ensures.value)

pub returns-in-TaggedId-clause-value : goal.returns-in-TaggedId-clause-value
returns-in-TaggedId-clause-value c =
    rw (c.in-TaggedId.is) (subst (λ d. Gives (λ after. after.now) c.pass_front-in-TaggedId.result d) (sym (passed_mapped (λ t. Tagged t) (tagged_id_at c.args.sizes.now c.args.whole c.args.rest.now))) c.pass_front-in-TaggedId.ensures.value)
