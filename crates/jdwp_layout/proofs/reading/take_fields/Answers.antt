use Rattle.std.proofs.lemmas.Grind.{common_steps}
use Rattle.std.proofs.Common.{◌≡◌, ◌++◌, ◌∷◌, [], get_or, arith, inr}
use Rattle.std.proofs.lemmas.List.{map_push}
use Rattle.std.proofs.Math.Facts.{Fits-lt-pow}
use Rattle.jdwp_wire.specs.Each.{with_front}
use Rattle.jdwp_wire.proofs.Loop.{each_go_on}
use Rattle.jdwp_wire.proofs.Passed.{each_at_place}
use Rattle.jdwp_wire.proofs.Keeps.{begins, first_kept}
use Rattle.jdwp_layout.specs.declared.item.Field.TheVariants as field
use Rattle.jdwp_layout.specs.Meanings.{scalar_meaning, scalar_meanings}
use Rattle.jdwp_layout.specs.Grammar.{EncodesField}
use Rattle.jdwp_layout.specs.Keeping.{FieldIsKept}
use Rattle.jdwp_layout.specs.Reads.{field_at, fields_at}
use Rattle.jdwp_layout.specs.EntryLaws.{field_codes}
use Rattle.jdwp_layout.proofs.reading.take_fields.Goals as goal

pub returns-in_err-push-clause-memory : goal.returns-in_err-push-clause-memory
returns-in_err-push-clause-memory c = λ failed.
    let w = c.args.sizes.now in
    let i = c.loop-field.field-index in
    let k = get_or c.args.fields.now i field.Byte in
    let lt = c.loop-field-test.true in
    let law = (field_codes w c.args.whole k).found in
    first_kept FieldIsKept (EncodesField w) c.args.fields.now i k c.args.bytes.now c.loop-field.rest.now lt (each_at_place c.args.fields.now i field.Byte lt)
    (λ same. inr (begins law c.args.bytes.now c.loop-field.rest.now (scalar_meaning c.in_ok-scalar.scalar) c.in_ok-scalar.after.now (λ j. Fits-lt-pow (c.type_inv.bytes j)) c.in_ok-scalar.ensures.value same)) c.loop-field.invariant.first

pub loop-field-preserved : goal.loop-field-preserved
loop-field-preserved c =
    let w = c.args.sizes.now in
    let i = c.loop-field.field-index in
    let k = get_or c.args.fields.now i field.Byte in
    let lt = c.loop-field-test.true in
    let at = each_at_place c.args.fields.now i field.Byte lt in
    let law = (field_codes w c.args.whole k).found in
    let e : scalar_meanings c.push.new.self.items ≡ scalar_meanings c.loop-field.scalars.items ++ scalar_meaning c.in_ok-scalar.scalar ∷ [] = rw c.in_ok-push.ensures.items (map_push _ c.loop-field.scalars.items c.in_ok-scalar.scalar) in
    record {
      so_far = rw e (each_go_on (field_at w c.args.whole) (scalar_meanings c.loop-field.scalars.items) c.args.fields.now i k c.loop-field.rest.now (scalar_meaning c.in_ok-scalar.scalar) c.in_ok-scalar.after.now
          (with_front (scalar_meanings c.args.scalars.now.items) (fields_at w c.args.whole c.args.fields.now c.args.bytes.now)) lt at c.in_ok-scalar.ensures.value c.loop-field.invariant.so_far);
      first = inr (first_kept FieldIsKept (EncodesField w) c.args.fields.now i k c.args.bytes.now c.loop-field.rest.now lt at
          (λ same. inr (begins law c.args.bytes.now c.loop-field.rest.now (scalar_meaning c.in_ok-scalar.scalar) c.in_ok-scalar.after.now (λ j. Fits-lt-pow (c.type_inv.bytes j)) c.in_ok-scalar.ensures.value same)) c.loop-field.invariant.first);
    }

pub returns-in_err-scalar-clause-value : goal.returns-in_err-scalar-clause-value
returns-in_err-scalar-clause-value c = grind (arith, common_steps)

pub returns-clause-value : goal.returns-clause-value
returns-clause-value c = grind (arith, common_steps)
