use Rattle.std.proofs.Common.{◌≡◌, ◌∙◌, sym, subst, length}
use Rattle.jdwp_wire.specs.Reading.{in_usize}
use Rattle.jdwp_value.specs.Regions.{Region, region_canonical}
use Rattle.jdwp_value.proofs.Elements.{size_past, size_within}
use Rattle.jdwp_value.proofs.region.ArrayRegionWire.size.Goals as goal

pub returns-in_err-checked_mul : goal.returns-in_err-checked_mul
returns-in_err-checked_mul c =
    let w = c.args.sizes.now in
    let r = c.self.inside in
    let n-is = c.len-count.ensures ∙ r.elements.ok.0 in
    let past = size_past w r.tag r.elements.items c.len-count.result c.element_size-each.result c.self.invariant n-is c.element_size-each.ensures.size c.in_err-checked_mul.ensures in
    subst (λ (x : Region). c.from_residual.result ≡ in_usize (length (region_canonical w x))) c.self.view_is (c.from_residual.ensures ∙ sym past)

pub returns : goal.returns
returns c =
    let w = c.args.sizes.now in
    let r = c.self.inside in
    let n-is = c.len-count.ensures ∙ r.elements.ok.0 in
    let is = size_within w r.tag r.elements.items c.len-count.result c.element_size-each.result c.self.invariant n-is c.element_size-each.ensures.size c.in_ok-checked_mul.field-0 c.checked_add.result c.in_ok-checked_mul.ensures.1 c.checked_add.ensures in
    subst (λ (x : Region). c.checked_add.result ≡ in_usize (length (region_canonical w x))) c.self.view_is is
