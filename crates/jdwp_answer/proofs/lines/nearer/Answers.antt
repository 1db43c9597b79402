use Rattle.std.proofs.Common.{refl}
use Rattle.jdwp_answer.proofs.LineLaws.{not_true, not_below, nearest_skip, nearest_first, nearest_keep, nearest_better}
use Rattle.jdwp_answer.proofs.lines.nearer.Goals as goal

pub returns-then-not-begins_by : goal.returns-then-not-begins_by
returns-then-not-begins_by c = λ xs r h. nearest_skip c.args.index c.args.best c.args.entry xs r (λ below. not_true (c.if-not-begins_by.ensures.1 below)) h

pub returns-in-Some : goal.returns-in-Some
returns-in-Some c = rw c.in-Some.is (λ xs r h. nearest_keep c.args.index c.in-Some.other c.args.entry xs r (c.if-begins_below.ensures.0 refl) h)

pub returns-in_default : goal.returns-in_default
returns-in_default c =
    rw c.in-Some.is (λ xs r h. nearest_better c.args.index c.in-Some.other c.args.entry xs r (c.if-not-begins_by.ensures.0 refl)
    (not_below c.args.entry.code_index c.in-Some.other.code_index (λ below. not_true (c.if-begins_below.ensures.1 below))) h)

pub returns-in_default-2 : goal.returns-in_default-2
returns-in_default-2 c = rw c.in_default.is (λ xs r h. nearest_first c.args.index c.args.entry xs r (c.if-not-begins_by.ensures.0 refl) h)
