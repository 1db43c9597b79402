use Rattle.std.proofs.Common.{◌∙◌}
use Rattle.jdwp_judge.proofs.judge.Judge.fault.Goals as goal

pub returns : goal.returns
returns c = λ table pieces heard. c.fault.ensures ∙ heard.follows.fault
