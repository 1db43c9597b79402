use Rattle.std.proofs.Common.{length}
use Rattle.std.proofs.lemmas.Result.{err_from_is_err_and}
use Rattle.std.proofs.Math.Facts.{Fits-lt-pow}
use Rattle.jdwp_wire.proofs.Takes.{front_found, front_only, front_not_failed}
use Rattle.jdwp_wire.proofs.wire.Wire.take.Goals as goal

pub returns-in_err-value-clause-only : goal.returns-in_err-value-clause-only
returns-in_err-value-clause-only g c = λ x n le s.
    let w = c.args.sizes.now in
    let whole = length c.args.bytes.now in
    let p = err_from_is_err_and c.from_residual.result c.from_residual.ensures.1 in
    rw (p.1, p.2) (front_not_failed (g.Self.Wire.decoded w whole) (g.Self.Wire.encodes w) g.Self.Wire.meaning (g.met.Self.Wire.again w whole) c.in_err-value.field-0.0 c.args.bytes.now x n c.in_err-value.ensures.value s)

pub returns-clause-found : goal.returns-clause-found
returns-clause-found g c =
    let w = c.args.sizes.now in
    let whole = length c.args.bytes.now in
    front_found (g.Self.Wire.decoded w whole) (g.Self.Wire.encodes w) (g.met.Self.Wire.found w whole) c.args.bytes.now (g.Self.Wire.meaning c.in_ok-value.value) c.in_ok-value.rest.now (λ i. Fits-lt-pow (c.type_inv.bytes i)) c.in_ok-value.ensures.value

pub returns-clause-only : goal.returns-clause-only
returns-clause-only g c = λ x n le s.
    let w = c.args.sizes.now in
    let whole = length c.args.bytes.now in
    front_only (g.Self.Wire.decoded w whole) (g.Self.Wire.encodes w) (g.met.Self.Wire.again w whole) c.args.bytes.now (g.Self.Wire.meaning c.in_ok-value.value) x c.in_ok-value.rest.now n c.in_ok-value.ensures.value le s
