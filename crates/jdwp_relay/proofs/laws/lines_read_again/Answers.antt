use Rattle.jdwp_relay.proofs.ReadingBack.{bad_line-lines_text, capture_of-lines_text}
use Rattle.jdwp_relay.proofs.laws.lines_read_again.Goals as goal

pub returns : goal.returns
returns c = record { lines = capture_of-lines_text; none_bad = bad_line-lines_text }
