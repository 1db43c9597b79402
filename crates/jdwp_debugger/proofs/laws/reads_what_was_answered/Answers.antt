use Rattle.jdwp_debugger.proofs.AnsweredReads.{reads-as-answered}
use Rattle.jdwp_debugger.proofs.laws.reads_what_was_answered.Goals as goal

pub returns : goal.returns
returns c = λ w asked answer h. reads-as-answered c.reads_what_is_encoded.ensures w asked answer h
