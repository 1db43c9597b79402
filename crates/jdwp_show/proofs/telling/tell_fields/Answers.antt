use Rattle.std.proofs.Common.{◌≡◌, length, arith}
use Rattle.std.proofs.lemmas.Result.{IfOk-weaker}
use Rattle.jdwp_layout.specs.declared.item.Field.TheVariants as field
use Rattle.jdwp_layout.specs.Reads.{field_at}
use Rattle.jdwp_show.proofs.TellingLemmas.{one_told, many_told}
use Rattle.jdwp_show.proofs.telling.tell_fields.Goals as goal

pub returns-then-fields-eq1 : goal.returns-then-fields-eq1
returns-then-fields-eq1 c =
    let one : length c.args.fields.now ≡ 1 = omega arith in
    IfOk-weaker c.tell_field.result _ _ (λ after told. one_told (field_at c.args.sizes.now c.args.whole) c.args.fields.now field.Byte c.args.text.now _ c.args.rest.now after.now one told) c.tell_field.ensures

pub returns : goal.returns
returns c =
    let many : length c.args.fields.now ≡ 1 → ⊥ = λ one. omega (arith, one) in
    many_told (field_at c.args.sizes.now c.args.whole) c.args.fields.now c.args.text.now _ _ _ c.args.rest.now c.in_ok-rest.rest.now many c.push_str.ensures.grows c.in_ok-rest.ensures c.push_str-2.ensures.grows
