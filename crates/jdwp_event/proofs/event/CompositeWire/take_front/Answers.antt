use Rattle.std.proofs.Common.{rules}
use Rattle.std.proofs.lemmas.Result.{err_from_is_err_and}
use Rattle.std.proofs.Math.Facts.{Fits-lt-pow}
use Rattle.jdwp_wire.specs.declared.data_fault.DataFault.TheVariants.{NoMemory}
use Rattle.jdwp_wire.specs.Codes.{failed_too}
use Rattle.jdwp_event.proofs.CompositeKept.{composite_is_kept}
use Rattle.jdwp_event.proofs.event.CompositeWire.take_front.Goals as goal

pub returns-in_err-events-clause-memory : goal.returns-in_err-events-clause-memory
returns-in_err-events-clause-memory c = λ failed.
    let p = err_from_is_err_and c.from_residual-in_err-events.result c.from_residual-in_err-events.ensures.1 in
    let kept = c.in_err-events.ensures.memory (failed_too _ _ c.in_err-events.field-0.0 NoMemory (rw (p.1, p.2) at failed)) in
    composite_is_kept c.args.sizes.now c.args.whole c.args.rest.now c.in_ok-policy.policy c.in_ok-policy.rest.now c.in_ok-count.count c.in_ok-count.rest.now (λ i. Fits-lt-pow (c.type_inv.rest i)) c.in_ok-policy.ensures.value
    c.in_ok-count.ensures.value kept

pub returns-clause-value : goal.returns-clause-value
returns-clause-value c = search rules
