use Rattle.std.proofs.Common.{◌∙◌, ap, sym}
use Rattle.jdwp_mirror.specs.declared.command.CommandKind.{CommandKind}
use Rattle.jdwp_mirror.specs.FaultParts.{is_bad_of_kind, is_sizes_kind}
use Rattle.jdwp_mirror.proofs.JudgingLemmas.{bad-answer, bad_by_kind}
use Rattle.jdwp_mirror.proofs.judging.is_bad_answer.Goals as goal

pub returns-in-Data : goal.returns-in-Data
returns-in-Data c =
    let command = c.args.command.now in
    c.is_bad_for.ensures ∙ ap (λ (a : CommandKind). is_bad_of_kind a c.in-Data.reply) c.kind-kind.ensures ∙ ap (bad_by_kind command) (sym c.in-Data.is) ∙ bad-answer command c.args.answer.now

pub returns-in-Error : goal.returns-in-Error
returns-in-Error c =
    let command = c.args.command.now in
    c.is_of_sizes.ensures ∙ ap is_sizes_kind c.kind-kind.ensures ∙ ap (bad_by_kind command) (sym c.in-Error.is) ∙ bad-answer command c.args.answer.now
