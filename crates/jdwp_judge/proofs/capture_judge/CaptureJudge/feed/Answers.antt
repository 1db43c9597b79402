use Rattle.std.proofs.lemmas.Result.{IfOk-weaker}
use Rattle.jdwp_judge.proofs.CaptureJudgeLaws.{more_lines}
use Rattle.jdwp_judge.proofs.capture_judge.CaptureJudge.feed.Goals as goal

pub returns-clause-heard : goal.returns-clause-heard
returns-clause-heard c = λ table text heard. IfOk-weaker c.into_string.result _ _ (λ told whole. (c.in_ok-hear.ensures table text heard).heard) c.into_string.ensures

pub returns-clause-told : goal.returns-clause-told
returns-clause-told c = λ table text heard. IfOk-weaker c.into_string.result _ _ (λ told whole. more_lines table _ text c.args.bytes.now _ _ _ (c.in_ok-hear.ensures table text heard) c.new-lines.ensures whole) c.into_string.ensures
