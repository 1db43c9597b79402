use Rattle.std.proofs.Common.{◌∙◌, [], sym}
use Rattle.jdwp_program.proofs.StreamLaws.{not_failed}
use Rattle.jdwp_program.proofs.streaming.check_stream.Goals as goal

pub returns : goal.returns
returns g c =
    let more = not_failed c.hear.result (sym c.is_err.ensures.value ∙ c.if-is_err.false) (c.hear.ensures c.args.table [] c.under-judge.ensures) in
    c.check_onward.ensures c.args.table c.args.begun.now more.heard
