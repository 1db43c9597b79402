use Rattle.std.proofs.Common.{◌∙◌, sym}
use Rattle.std.proofs.lemmas.Result.{IfOk-weaker}
use Rattle.jdwp_show.proofs.SessionLaws.{begins_from_yes, yes_from_begins, fault_from_no, no_from_fault}
use Rattle.jdwp_judge.proofs.capture.check_under.Goals as goal

pub returns-clause-yes : goal.returns-clause-yes
returns-clause-yes c = IfOk-weaker c.answer.result _ _ (λ answer is. (λ h. begins_from_yes c.args.table c.args.text.now (sym is ∙ h), λ h. is ∙ yes_from_begins c.args.table c.args.text.now h)) c.answer.ensures

pub returns-clause-no : goal.returns-clause-no
returns-clause-no c =
    IfOk-weaker c.answer.result _ _ (λ answer is line fault. (λ h. fault_from_no c.args.table c.args.text.now line fault (sym is ∙ h), λ h. is ∙ no_from_fault c.args.table c.args.text.now line fault h)) c.answer.ensures
