use Rattle.std.proofs.Common.{ℕ, Option, sym, ap, ◌∙◌}
use Rattle.std.proofs.lemmas.Result.{IfOk-weaker}
use Rattle.jdwp_show.specs.declared.capture_fault.CaptureFault.{CaptureFault}
use Rattle.jdwp_show.specs.Sessions.{first_fault_under, verdict_by}
use Rattle.jdwp_show.proofs.SessionLaws.{yes_none, no_some, begins_from_yes, yes_from_begins, fault_from_no, no_from_fault}
use Rattle.jdwp_judge.proofs.capture.show_under.Goals as goal

pub returns-clause-begins : goal.returns-clause-begins
returns-clause-begins c =
    let text = c.args.text.now in
    IfOk-weaker c.tell.result _ _ (λ shown is. (
      λ h. begins_from_yes c.args.table text (ap (λ (o : Option (ℕ × CaptureFault)). verdict_by o) (sym is ∙ h)),
      λ h. is ∙ yes_none (first_fault_under c.args.table text) (yes_from_begins c.args.table text h),
    )) c.tell.ensures.fault

pub returns-clause-fault : goal.returns-clause-fault
returns-clause-fault c =
    let text = c.args.text.now in
    IfOk-weaker c.tell.result _ _ (λ shown is line fault. (
      λ h. fault_from_no c.args.table text line fault (ap (λ (o : Option (ℕ × CaptureFault)). verdict_by o) (sym is ∙ h)),
      λ h. is ∙ no_some (first_fault_under c.args.table text) line fault (no_from_fault c.args.table text line fault h),
    )) c.tell.ensures.fault
