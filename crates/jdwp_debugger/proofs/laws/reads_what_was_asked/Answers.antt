use Rattle.jdwp_debugger.proofs.AskedReads.{reads-as-asked}
use Rattle.jdwp_debugger.proofs.laws.reads_what_was_asked.Goals as goal

pub returns : goal.returns
returns c = λ w asked h. reads-as-asked c.reads_what_is_encoded.ensures w asked h
