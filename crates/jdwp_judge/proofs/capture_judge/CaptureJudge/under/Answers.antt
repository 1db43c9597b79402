use Rattle.jdwp_judge.proofs.CaptureJudgeLaws.{text_begins}
use Rattle.jdwp_judge.proofs.capture_judge.CaptureJudge.under.Goals as goal

pub returns : goal.returns
returns c = text_begins c.args.table _ c.under.ensures c.new.ensures.items
