use Rattle.jdwp_text.proofs.reading.read_items.Goals as goal

pub returns : goal.returns
returns c = (c.in_ok-read.read.1.items, c.in_ok-read.ensures)
