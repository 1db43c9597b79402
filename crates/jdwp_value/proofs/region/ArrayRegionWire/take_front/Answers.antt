use Rattle.std.proofs.lemmas.Result.{err_from_is_err_and}
use Rattle.std.proofs.Math.Facts.{Fits-lt-pow}
use Rattle.jdwp_wire.specs.declared.data_fault.DataFault.TheVariants.{NoMemory}
use Rattle.jdwp_wire.specs.Codes.{failed_too}
use Rattle.jdwp_value.proofs.Kept.{region_is_kept}
use Rattle.jdwp_value.proofs.region.ArrayRegionWire.take_front.Goals as goal

pub returns-in_err-elements-clause-memory : goal.returns-in_err-elements-clause-memory
returns-in_err-elements-clause-memory c = λ failed.
    let p = err_from_is_err_and c.from_residual-in_err-elements.result c.from_residual-in_err-elements.ensures.1 in
    let kept = c.in_err-elements.ensures.memory (failed_too _ _ c.in_err-elements.field-0.0 NoMemory (rw (p.1, p.2) at failed)) in
    region_is_kept c.args.sizes.now c.args.whole c.args.rest.now c.in_ok-tag.tag c.in_ok-tag.rest.now c.in_ok-count.count c.in_ok-count.rest.now (λ i. Fits-lt-pow (c.type_inv.rest i)) c.in_ok-tag.ensures.ok.0
    c.in_ok-tag.ensures.ok.1 c.in_ok-count.ensures.value kept
