use Rattle.std.proofs.Common.{◌∙◌}
use Rattle.jdwp_judge.proofs.capture_judge.CaptureJudge.finish.Goals as goal

pub returns : goal.returns
returns c = λ table text heard. c.hear_last.ensures table text heard.lines (c.deref.ensures.value ∙ heard.unfinished_is)
