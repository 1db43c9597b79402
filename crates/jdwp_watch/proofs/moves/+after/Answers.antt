use Rattle.std.proofs.Common.{ap, ◌∙◌, ◌-◌, arith}
use Rattle.std.specs.List.{fold}
use Rattle.jdwp_watch.specs.declared.standing.Standing.{Standing}
use Rattle.jdwp_watch.specs.Standings.{changed}
use Rattle.jdwp_watch.specs.Drifts.{ones_of}
use Rattle.jdwp_watch.specs.Tables.{changed_by}
use Rattle.jdwp_watch.proofs.Moving.{descended, gone, jumped, stepped}
use Rattle.jdwp_watch.proofs.moves.+after.Goals as goal

pub returns-then-step-from : goal.returns-then-step-from
returns-then-step-from t c =
    let later = c.if-at-from.false in
    let step = c.last_of-step.result in
    c.changed.ensures ∙ (ap (changed step.one) c.after.ensures ∙ stepped c.args.steps.now c.args.at c.args.from step c.args.standing (omega arith) c.requires.inside c.last_of-step.ensures)

pub returns-in-Some : goal.returns-in-Some
returns-in-Some t c =
    let later = c.if-at-from.false in
    let enough = c.if-step-from.false in
    let step = c.last_of-step.result in
    jumped c.args.steps.now c.args.at c.args.from step c.args.standing c.in-Some.now c.requires.joined (omega arith) c.requires.inside c.last_of-step.ensures (omega arith)
    (λ moves follows. c.in-Some.ensures moves follows ∙ ap (λ (s : Standing). fold changed_by s moves) c.after-before.ensures)

pub returns-in-None : goal.returns-in-None
returns-in-None t c =
    let later = c.if-at-from.false in
    let enough = c.if-step-from.false in
    let step = c.last_of-step.result in
    c.changed-in-None.ensures ∙ (ap (changed step.one) (c.after-in-None.ensures ∙ ap (λ (s : Standing). gone step.back (c.args.at - 1) (ones_of c.args.steps.now) s) c.after-before.ensures)
    ∙ descended c.args.steps.now c.args.at c.args.from step c.args.standing c.requires.joined (omega arith) c.requires.inside c.last_of-step.ensures (omega arith))
