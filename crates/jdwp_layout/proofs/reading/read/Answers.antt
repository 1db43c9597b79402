use Rattle.std.proofs.Common.{Ok, subst}
use Rattle.jdwp_wire.specs.Reading.{Fails, Gives}
use Rattle.jdwp_layout.specs.Shapes.{shape}
use Rattle.jdwp_layout.specs.Meanings.{meanings}
use Rattle.std.proofs.lemmas.Result.{err_from_is_err_and}
use Rattle.std.proofs.Math.Facts.{Fits-lt-pow}
use Rattle.jdwp_layout.specs.Reads.{data_at}
use Rattle.jdwp_layout.proofs.GrammarLaws.{is_found, is_blamed_by, fails_as, data_again}
use Rattle.jdwp_layout.proofs.reading.read.Goals as goal

pub returns-in-Ok-clause-found : goal.returns-in-Ok-clause-found
returns-in-Ok-clause-found c = is_found c.args.sizes.now (shape c.args.layout.now) c.args.bytes.now (Ok c.in-Ok.items) (λ i. Fits-lt-pow (c.type_inv.bytes i)) c.in-Ok.ensures.value

pub returns-in-Ok-clause-only : goal.returns-in-Ok-clause-only
returns-in-Ok-clause-only c = λ xs s. subst (λ f. Gives (λ v. meanings v.items) (Ok c.in-Ok.items) f) (data_again c.args.sizes.now (shape c.args.layout.now) c.args.bytes.now xs s) c.in-Ok.ensures.value

pub returns-in_err-validate-in-Err-NoMemory-clause-value : goal.returns-in_err-validate-in-Err-NoMemory-clause-value
returns-in_err-validate-in-Err-NoMemory-clause-value c =
    let p = err_from_is_err_and c.from_residual.result c.from_residual.ensures.1 in
    let fault = c.in_err-validate-in-Err-NoMemory.field-0.0 in
    rw (p.1, p.2) (fails_as fault (data_at c.args.sizes.now (shape c.args.layout.now) c.args.bytes.now) c.in_err-validate-in-Err-NoMemory.ensures.value)

pub returns-in_err-validate-in-Err-NoMemory-clause-fault : goal.returns-in_err-validate-in-Err-NoMemory-clause-fault
returns-in_err-validate-in-Err-NoMemory-clause-fault c =
    let p = err_from_is_err_and c.from_residual.result c.from_residual.ensures.1 in
    let w = c.args.sizes.now in
    let items = shape c.args.layout.now in
    let bytes = c.args.bytes.now in
    let fault = c.in_err-validate-in-Err-NoMemory.field-0.0 in
    rw (p.1, p.2) (is_blamed_by w items bytes fault (λ i. Fits-lt-pow (c.type_inv.bytes i)) (fails_as fault (data_at w items bytes) c.in_err-validate-in-Err-NoMemory.ensures.value))

pub returns-in-Err-clause-only : goal.returns-in-Err-clause-only
returns-in-Err-clause-only c = λ xs s. subst (λ f. Fails c.in-Err.fault f) (data_again c.args.sizes.now (shape c.args.layout.now) c.args.bytes.now xs s) c.in-Err.ensures.value

pub returns-in-Err-clause-fault : goal.returns-in-Err-clause-fault
returns-in-Err-clause-fault c = is_blamed_by c.args.sizes.now (shape c.args.layout.now) c.args.bytes.now c.in-Err.fault (λ i. Fits-lt-pow (c.type_inv.bytes i)) c.in-Err.ensures.value
