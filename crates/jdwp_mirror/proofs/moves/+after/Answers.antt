use Rattle.std.proofs.Common.{ap, ◌∙◌, arith}
use Rattle.jdwp_mirror.specs.Drifts.{drifted}
use Rattle.jdwp_mirror.proofs.Drifting.{jumped}
use Rattle.jdwp_mirror.proofs.moves.+after.Goals as goal

pub returns-then-step-from : goal.returns-then-step-from
returns-then-step-from t c =
    let later = c.if-at-from.false in
    let step = c.last_of-step.result in
    c.apply.ensures ∙ (ap (drifted step.all) c.after.ensures ∙ jumped c.args.steps.now c.args.at c.args.from step c.args.standing c.requires.joined (omega arith) c.requires.inside c.last_of-step.ensures c.if-step-from.true)
