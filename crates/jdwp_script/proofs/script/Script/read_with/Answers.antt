use Rattle.std.proofs.Common.{rules}
use Rattle.std.proofs.lemmas.Result.{err_from_is_err_and}
use Rattle.jdwp_script.specs.Meanings.{script_part}
use Rattle.jdwp_script.specs.Reading.{Fails}
use Rattle.jdwp_script.specs.Faults.{first_fault, unless}
use Rattle.jdwp_script.proofs.Faults.{fails_described}
use Rattle.jdwp_script.proofs.script.Script.read_with.Goals as goal

pub returns-in_err-check-clause-value : goal.returns-in_err-check-clause-value
returns-in_err-check-clause-value c =
    let live = c.args.limits.now.live in
    let s = script_part c.in_ok-script.script in
    let p = err_from_is_err_and c.from_residual-in_err-check.result c.from_residual-in_err-check.ensures.1 in
    let fails : Fails c.in_err-check.field-0.0 (unless (first_fault live s) s) = search rules in
    rw (p.1, p.2) (fails_described live c.args.text.now s c.in_err-check.field-0.0 c.in_ok-script.ensures fails)
