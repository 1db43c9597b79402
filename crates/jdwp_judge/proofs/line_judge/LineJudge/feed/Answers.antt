use Rattle.std.proofs.lemmas.Result.{IfOk-weaker}
use Rattle.jdwp_judge.proofs.LineJudgeLaws.{line_lines}
use Rattle.jdwp_judge.proofs.line_judge.LineJudge.feed.Goals as goal

pub returns-clause-heard : goal.returns-clause-heard
returns-clause-heard c = λ table lines heard. IfOk-weaker c.into_string.result _ _ (λ told whole. (c.in_ok-hear.ensures table lines heard).heard) c.into_string.ensures

pub returns-clause-told : goal.returns-clause-told
returns-clause-told c = λ table lines heard. IfOk-weaker c.into_string.result _ _ (λ told whole. line_lines table _ lines c.args.line.now _ _ _ (c.in_ok-hear.ensures table lines heard) c.new-lines.ensures whole) c.into_string.ensures
