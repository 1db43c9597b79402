use Rattle.std.proofs.Math.Facts.{Fits-lt-pow}
use Rattle.std.proofs.lemmas.Result.{err_from_is_err_and}
use Rattle.jdwp_wire.specs.declared.data_fault.DataFault.TheVariants.{NoMemory}
use Rattle.jdwp_wire.specs.Codes.{failed_too}
use Rattle.jdwp_layout.specs.Shapes.{entry_shape}
use Rattle.jdwp_layout.proofs.Keeps.{list_is_kept}
use Rattle.jdwp_layout.proofs.reading.take_item.Goals as goal

pub returns-in_err-entries-in-Many-clause-memory : goal.returns-in_err-entries-in-Many-clause-memory
returns-in_err-entries-in-Many-clause-memory c = λ failed.
    let p = err_from_is_err_and c.from_residual-in_err-entries-in-Many.result c.from_residual-in_err-entries-in-Many.ensures.1 in
    let kept = c.in_err-entries-in-Many.ensures.memory (failed_too _ _ c.in_err-entries-in-Many.field-0.0 NoMemory (rw (p.1, p.2) at failed)) in
    let count = c.in_ok-count-in-Many in
    rw c.in-Many.is (list_is_kept c.args.sizes.now c.args.whole (entry_shape c.in-Many.entry) c.args.rest.now count.count count.rest.now (λ i. Fits-lt-pow (c.type_inv.rest i)) count.ensures.value kept)
