use Rattle.jdwp_debugger.proofs.Telling.{tells-heads}
use Rattle.jdwp_debugger.proofs.laws.tells_what_it_read.Goals as goal

pub returns : goal.returns
returns c = λ next old new read turned. tells-heads next old new read turned
