use Rattle.std.proofs.Common.{◌∙◌, sym}
use Rattle.jdwp_judge.specs.CaptureJudges.{finished}
use Rattle.jdwp_judge.proofs.CaptureJudgeLaws.{ends_finished, ends_unfinished}
use Rattle.jdwp_judge.proofs.capture_judge.hear_last.Goals as goal

pub returns-then-is_empty : goal.returns-then-is_empty
returns-then-is_empty c = λ table text heard is. ends_finished table text c.args.line.now _ _ _ is (sym c.is_empty.ensures ∙ c.if-is_empty.true) (c.finish.ensures table (finished text) heard)

pub returns : goal.returns
returns c = λ table text heard is. ends_unfinished table c.hear.new.self text c.args.line.now _ _ _ _ is (sym c.is_empty.ensures ∙ c.if-is_empty.false) (c.in_ok-hear.ensures table (finished text) heard) (λ all more. c.finish-2.ensures table all more)
