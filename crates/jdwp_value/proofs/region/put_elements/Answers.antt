use Rattle.std.proofs.lemmas.Grind.{common_steps}
use Rattle.std.proofs.Common.{ℕ, ◌+◌, ◌≤◌, length, get_or, sym, subst, ◌∙◌, arith, vec_capacity}
use Rattle.std.specs.List.{flat_map}
use Rattle.std.proofs.lemmas.Result.{err_from_is_err_and}
use Rattle.jdwp_wire.proofs.Puts.{written_more, room_more}
use Rattle.std.proofs.lemmas.List.{get_or_default}
use Rattle.jdwp_value.specs.declared.value.Value.{Value}
use Rattle.jdwp_value.specs.declared.value.Value.TheVariants as value
use Rattle.jdwp_value.specs.Values.{value_refusal}
use Rattle.jdwp_value.specs.Regions.{EncodesElement, element_canonical}
use Rattle.jdwp_value.specs.RegionLaws.{element_unrefused}
use Rattle.jdwp_value.proofs.Elements.{encoded_next, refusal_next}
use Rattle.jdwp_value.proofs.region.put_elements.Goals as goal

pub loop-value-preserved : goal.loop-value-preserved
loop-value-preserved c =
    let w = c.args.sizes.now in
    let t = c.args.tag in
    let canonical = element_canonical w t in
    let vs = c.args.values.now in
    let i = c.loop-value.value-index in
    let v = get_or c.args.values.now c.loop-value.value-index (value.Byte 0) in
    let v-is = get_or_default c.args.values.now c.loop-value.value-index (value.Byte 0) v c.loop-value-test.true in
    let lt = c.loop-value-test.true in
    let one = c.in_ok-put_element.ensures.ok in
    let before = c.loop-value.invariant in
    record {
      written = written_more (λ (x : Value). x) canonical c.args.output.now.items c.loop-value.output.items c.put_element.new.output.items vs i v lt v-is before.written one.1;
      capacity = (let a = before.capacity in let b = c.in_ok-put_element.ensures.capacity in omega (arith, a, b));
      encoded = encoded_next (EncodesElement w t) canonical vs i v lt v-is before.encoded one.0;
      refusal = sym (refusal_next (value_refusal w) vs i v lt v-is (element_unrefused w t (canonical v) v one.0)) ∙ before.refusal;
    }

pub returns-in_err-put_element-clause-room : goal.returns-in_err-put_element-clause-room
returns-in_err-put_element-clause-room c = λ room failed.
    let canonical = element_canonical c.args.sizes.now c.args.tag in
    let before = c.loop-value.invariant in
    let p = err_from_is_err_and c.from_residual.result c.from_residual.ensures.1 in
    let v = get_or c.args.values.now c.loop-value.value-index (value.Byte 0) in
    let v-is = get_or_default c.args.values.now c.loop-value.value-index (value.Byte 0) v c.loop-value-test.true in
    let all = flat_map canonical c.args.values.now in
    let room_for_all = subst (λ (n : ℕ). n + length all ≤ vec_capacity c.args.output.now) c.args.output.now.ok.0 room in
    let next = room_more canonical c.args.output.now.items c.loop-value.output.items c.args.values.now c.loop-value.value-index v (vec_capacity c.args.output.now) (vec_capacity c.loop-value.output) c.loop-value-test.true v-is before.written before.capacity room_for_all in
    c.in_err-put_element.ensures.room (subst (λ (n : ℕ). n + length (canonical v) ≤ vec_capacity c.loop-value.output) (sym c.loop-value.output.ok.0) next) (rw (p.1, p.2) at failed)

pub put_element-requires : goal.put_element-requires
put_element-requires c = grind (arith, common_steps)

pub returns : goal.returns
returns c = grind (arith, common_steps)
