use Rattle.std.proofs.Common.{ℕ, ◌++◌, Option, sym, ap}
use Rattle.jdwp_show.specs.declared.capture_line.Sender.TheVariants.{Debugger, Target}
use Rattle.jdwp_show.specs.CaptureLines.{message_lines_under, last_lines}
use Rattle.jdwp_show.specs.Lines.{capture_of, sent_by}
use Rattle.jdwp_show.specs.Sessions.{items_in, bad_or_broken, broken_in}
use Rattle.jdwp_judge.proofs.laws.says_what_show_says.Goals as goal

pub returns : goal.returns
returns c = record {
  lines = λ table text good. ap (λ (b : Option ℕ). message_lines_under table text ++ last_lines (bad_or_broken b (broken_in table (items_in text))) (sent_by Debugger (capture_of text)) (sent_by Target (capture_of text)) (items_in text)) (sym good);
  fault = λ table text good. ap (λ (b : Option ℕ). bad_or_broken b (broken_in table (items_in text))) (sym good);
}
