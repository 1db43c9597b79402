use Rattle.jdwp_debugger.proofs.SizesReads.{reads-sizes}
use Rattle.jdwp_debugger.proofs.laws.reads_id_sizes_at_any_widths.Goals as goal

pub returns : goal.returns
returns c = reads-sizes c.reads_what_is_encoded.ensures
