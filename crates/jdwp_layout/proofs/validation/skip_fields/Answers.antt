use Rattle.std.proofs.Common.{get_or}
use Rattle.std.proofs.lemmas.Result.{err_from_is_err_and}
use Rattle.jdwp_layout.specs.declared.item.Field.TheVariants as field
use Rattle.jdwp_layout.specs.Reads.{field_at, fields_at}
use Rattle.jdwp_wire.specs.Reading.{passed}
use Rattle.jdwp_wire.proofs.Passed.{each_go_on, each_end, each_at_place}
use Rattle.jdwp_layout.proofs.validation.skip_fields.Goals as goal

pub returns-in_err-after-clause-value : goal.returns-in_err-after-clause-value
returns-in_err-after-clause-value c =
    let w = c.args.sizes.now in
    let ks = c.args.fields.now in
    let i = c.loop-field.field-index in
    let k = get_or ks i field.Byte in
    let r = err_from_is_err_and c.from_residual.result c.from_residual.ensures.1 in
    rw (r.1, r.2) (each_end (field_at w c.args.whole) c.in_err-after.field-0.0 ks i k c.loop-field.rest.now (passed (fields_at w c.args.whole ks c.args.bytes.now))
    c.loop-field-test.true (each_at_place ks i field.Byte c.loop-field-test.true) c.in_err-after.ensures.value c.loop-field.invariant)

pub loop-field-preserved : goal.loop-field-preserved
loop-field-preserved c =
    let w = c.args.sizes.now in
    let ks = c.args.fields.now in
    let i = c.loop-field.field-index in
    let k = get_or ks i field.Byte in
    each_go_on (field_at w c.args.whole) ks i k c.loop-field.rest.now c.in_ok-after.after.now (passed (fields_at w c.args.whole ks c.args.bytes.now))
    c.loop-field-test.true (each_at_place ks i field.Byte c.loop-field-test.true) c.in_ok-after.ensures.value c.loop-field.invariant
