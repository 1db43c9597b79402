use Rattle.jdwp_layout.specs.Meanings.{meanings}
use Rattle.jdwp_text.proofs.reading.read_data.Goals as goal

pub returns : goal.returns
returns c = (meanings c.in_ok-read.read.0.items, c.in_ok-read.ensures)
