use Rattle.std.proofs.Common.{refl, sym, ◌∙◌}
use Rattle.std.proofs.Math.Facts.{to_z-of_z}
use Rattle.jdwp_answer.proofs.LineLaws.{not_true, least_skip, least_first, least_keep, least_better, pos_not_below}
use Rattle.jdwp_answer.proofs.lines.sooner.Goals as goal

pub returns-then-not-is_of : goal.returns-then-not-is_of
returns-then-not-is_of c = λ xs r h. least_skip c.args.line c.args.least c.args.entry xs r
    (λ n here. not_true (c.if-not-is_of.ensures.1 (here.0 ∙ sym (to_z-of_z c.ranges.line)))) h

pub returns-in_default : goal.returns-in_default
returns-in_default c = λ xs r h. least_skip c.args.line c.args.least c.args.entry xs r (λ n here. pos_not_below c.args.entry.code_index n c.in_default.ensures here.1) h

pub returns-in-Some-least : goal.returns-in-Some-least
returns-in-Some-least c =
    rw c.in-Some-least.is (λ xs r h. least_keep c.args.line c.in-Some-least.index c.in-Some.start c.args.entry xs r c.in-Some.ensures c.if-index-start.true h)

pub returns-in_default-least : goal.returns-in_default-least
returns-in_default-least c =
    rw c.in-Some-least.is (λ xs r h. least_better c.args.line c.in-Some-least.index c.in-Some.start c.args.entry xs r
    (c.if-not-is_of.ensures.0 refl ∙ to_z-of_z c.ranges.line) c.in-Some.ensures c.if-index-start.false h)

pub returns-in_default-least-2 : goal.returns-in_default-least-2
returns-in_default-least-2 c =
    rw c.in_default-least.is (λ xs r h. least_first c.args.line c.in-Some.start c.args.entry xs r
    (c.if-not-is_of.ensures.0 refl ∙ to_z-of_z c.ranges.line) c.in-Some.ensures h)
