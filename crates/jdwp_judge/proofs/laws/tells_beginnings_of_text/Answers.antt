use Rattle.jdwp_judge.proofs.CaptureJudgeLaws.{told_goes_on, told_ends}
use Rattle.jdwp_judge.proofs.laws.tells_beginnings_of_text.Goals as goal

pub returns : goal.returns
returns c = record { goes_on = told_goes_on; ends = told_ends }
