use Rattle.std.proofs.Common.{◌<◌, ◌+◌, ◌^◌, ◌∙◌, sym, ap, refl, arith}
use Rattle.std.proofs.lemmas.Bool.{lt-ltb}
use Rattle.jdwp_wire.specs.Reading.{in_usize}
use Rattle.jdwp_value.specs.LocationLaws.{length-location}
use Rattle.jdwp_value.proofs.location.LocationWire.size.Goals as goal

pub returns : goal.returns
returns c =
    let w = c.args.sizes.now in
    let n = 9 + w.reference + w.method in
    let lt : n < 2 ^ 64 = (let r = c.reference.ensures in let m = c.method.ensures in omega (arith, r.value, r.within.1, m.value, m.within.1)) in
    let whole = ap in_usize (length-location w c.args.self.now) ∙ rw (lt-ltb n (2 ^ 64) lt) refl in
    rw (c.reference.ensures.value, c.method.ensures.value) (sym whole)
