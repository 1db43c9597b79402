use Rattle.jdwp_judge.proofs.CaptureJudgeLaws.{no_newline, before_newline, at_first_newline}
use Rattle.jdwp_judge.proofs.capture_judge.split_line.Goals as goal

pub returns-in-Some : goal.returns-in-Some
returns-in-Some c =
    let at = c.in-Some.ensures in
    (before_newline c.args.bytes.now c.in-Some.end at.0, at_first_newline c.args.bytes.now c.in-Some.end at.0.high at.1)

pub returns-in-None : goal.returns-in-None
returns-in-None c = no_newline c.args.bytes.now c.in-None.ensures
