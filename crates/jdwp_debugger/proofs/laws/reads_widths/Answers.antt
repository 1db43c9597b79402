use Rattle.jdwp_debugger.proofs.SizesReads.{reads-widths, widths-told}
use Rattle.jdwp_debugger.proofs.laws.reads_widths.Goals as goal

pub returns : goal.returns
returns c = record { read = reads-widths c.reads_what_is_encoded.ensures; widths = widths-told }
