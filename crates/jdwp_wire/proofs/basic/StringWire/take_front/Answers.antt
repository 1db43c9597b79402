use Rattle.std.proofs.Common.{◌∙◌, sym}
use Rattle.std.proofs.Math.Facts.{Fits-lt-pow}
use Rattle.jdwp_wire.proofs.Texts.{text_is_kept}
use Rattle.jdwp_wire.proofs.basic.StringWire.take_front.Goals as goal

pub returns-in_err-from_str-clause-memory : goal.returns-in_err-from_str-clause-memory
returns-in_err-from_str-clause-memory c = λ failed.
    text_is_kept c.args.whole c.args.rest.now c.in_ok-text.text.now c.in_ok-text.after.now (λ i. Fits-lt-pow (c.type_inv.rest i)) c.in_ok-text.ensures.value (sym c.is_empty.ensures ∙ c.if-is_empty.false)
