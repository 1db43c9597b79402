use Rattle.jdwp_judge.proofs.SessionLaws.{ended_lines}
use Rattle.jdwp_judge.proofs.judge.Judge.end.Goals as goal

pub returns-clause-lines : goal.returns-clause-lines
returns-clause-lines c = λ table pieces heard. ended_lines table pieces _ _ _ _ (c.finish-fault.ensures table pieces heard) c.new-lines.ensures c.in_ok-lines.ensures
