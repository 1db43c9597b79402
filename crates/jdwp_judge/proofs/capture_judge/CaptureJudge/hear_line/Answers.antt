use Rattle.std.proofs.Common.{◌∙◌, List, ℕ, ap}
use Rattle.std.specs.Str.Lines.{strip_carriage_return}
use Rattle.jdwp_judge.specs.CaptureJudges.{finished}
use Rattle.jdwp_judge.proofs.CaptureJudgeLaws.{line_ended}
use Rattle.jdwp_judge.proofs.capture_judge.CaptureJudge.hear_line.Goals as goal

pub returns : goal.returns
returns c = λ table text heard none.
    line_ended table c.args.self.now _ text c.args.bytes.now c.without_return-line.result.now _ _ heard none
    (c.without_return-line.ensures ∙ ap (λ (l : List ℕ). strip_carriage_return l) (c.deref.ensures.value ∙ c.in_ok-extend_from_slice.ensures.items)) (c.in_ok-hear.ensures table (finished text) heard.lines) c.clear.ensures.items
