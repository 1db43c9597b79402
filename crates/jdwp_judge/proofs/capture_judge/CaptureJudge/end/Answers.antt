use Rattle.jdwp_judge.proofs.CaptureJudgeLaws.{last_lines_told}
use Rattle.jdwp_judge.proofs.capture_judge.CaptureJudge.end.Goals as goal

pub returns-clause-lines : goal.returns-clause-lines
returns-clause-lines c = λ table text heard. last_lines_told table text _ _ _ _ (c.in_ok-fault.ensures table text heard) c.new-lines.ensures c.in_ok-lines.ensures

pub returns-clause-fault : goal.returns-clause-fault
returns-clause-fault c = λ table text heard. (c.in_ok-fault.ensures table text heard).fault_is
