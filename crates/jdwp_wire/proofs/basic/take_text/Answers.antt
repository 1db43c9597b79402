use Rattle.std.proofs.Common.{arith, sym, subst}
use Rattle.std.specs.Str.{IsUtf8}
use Rattle.jdwp_wire.proofs.Texts.{text_reads, text_refuses}
use Rattle.jdwp_wire.proofs.basic.take_text.Goals as goal

pub returns-in-Ok-clause-value : goal.returns-in-Ok-clause-value
returns-in-Ok-clause-value c =
    let h = c.in-Ok.ensures.cases in
    let f = c.split_at.ensures.front in
    let b = c.split_at.ensures.back in
    let utf8 = subst (λ t. IsUtf8 t) f h.1 in
    rw (h.0, f, b) (text_reads c.args.whole c.in_ok-length.length c.args.rest.now c.in_ok-length.rest.now c.in_ok-length.ensures.value (omega arith) utf8)

pub returns-in-Err-clause-value : goal.returns-in-Err-clause-value
returns-in-Err-clause-value c =
    let h = c.in-Err.ensures.cases in
    let f = c.split_at.ensures.front in
    text_refuses c.args.whole c.in_ok-length.length c.args.rest.now c.in_ok-length.rest.now c.in_ok-length.ensures.value (omega arith) (λ u. h.0 (subst (λ t. IsUtf8 t) (sym f) u))
