use Rattle.std.proofs.Common.{◌≡◌, Ok, refl, sym, ap, ◌∙◌}
use Rattle.std.proofs.lemmas.Result.{err_from_is_err_and}
use Rattle.jdwp_wire.specs.Reading.{◌>>=◌}
use Rattle.jdwp_wire.proofs.Loop.{fails_along}
use Rattle.jdwp_layout.specs.Meanings.{scalar_meaning}
use Rattle.jdwp_layout.specs.Reads.{field_at}
use Rattle.jdwp_layout.proofs.reading.take_scalar.Goals as goal

pub returns-in_err-value-clause-value : goal.returns-in_err-value-clause-value
returns-in_err-value-clause-value g c =
    let w = c.args.sizes.now in
    let bytes = c.args.rest.now in
    let read = g.met.T.Held.reads in
    let p = err_from_is_err_and c.from_residual.result c.from_residual.ensures.1 in
    rw (p.1, p.2) (fails_along c.in_err-value.field-0.0 (g.T.Wire.decoded w c.args.whole bytes) (field_at w c.args.whole g.T.Held.of_field bytes)
    (λ f is. sym (read.2 w c.args.whole bytes) ∙ ap (λ d. d >>= λ x. Ok (read.0 x.0, x.1)) is) c.in_err-value.ensures.value)

pub returns-clause-value : goal.returns-clause-value
returns-clause-value g c =
    let read = g.met.T.Held.reads in
    let value = c.in_ok-value.value in
    let is : read.0 (g.T.Wire.meaning value) ≡ scalar_meaning c.into_scalar.result = read.1 value ∙ sym c.into_scalar.ensures in
    sym (read.2 c.args.sizes.now c.args.whole c.args.rest.now) ∙ rw (c.in_ok-value.ensures.value, is) refl
