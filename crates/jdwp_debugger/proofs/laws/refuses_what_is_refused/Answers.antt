use Rattle.jdwp_debugger.proofs.Judged.{judges}
use Rattle.jdwp_debugger.proofs.laws.refuses_what_is_refused.Goals as goal

pub returns : goal.returns
returns c = judges c.reads_what_is_encoded.ensures
