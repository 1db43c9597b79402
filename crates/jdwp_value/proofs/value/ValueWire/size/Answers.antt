use Rattle.std.proofs.Common.{suc, ◌<◌, ◌+◌, ◌^◌, ◌≡◌, ◌∙◌, length, sym, ap, refl, arith}
use Rattle.std.proofs.lemmas.Bool.{lt-ltb}
use Rattle.jdwp_wire.specs.Reading.{in_usize}
use Rattle.jdwp_value.specs.Values.{width_of, untagged_canonical}
use Rattle.jdwp_value.specs.ValueLaws.{length-untagged}
use Rattle.jdwp_value.proofs.value.ValueWire.size.Goals as goal

pub returns : goal.returns
returns c =
    let w = c.args.sizes.now in
    let v = c.args.self.now in
    let n = c.untagged_size.result in
    let is : length (untagged_canonical w v) ≡ n = length-untagged w v ∙ ap (width_of w) (sym c.tag.ensures) ∙ sym c.untagged_size.ensures.size in
    let len : suc (length (untagged_canonical w v)) ≡ 1 + n = omega (arith, is) in
    let lt : 1 + n < 2 ^ 64 = (let small = c.untagged_size.ensures.small in omega (arith, small)) in
    sym (ap in_usize len ∙ rw (lt-ltb (1 + n) (2 ^ 64) lt) refl)
