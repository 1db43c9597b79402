use Rattle.jdwp_frames.proofs.Filters.{keeps-what-each-keeps}
use Rattle.jdwp_frames.proofs.laws.keeps_what_each_call_keeps.Goals as goal

pub returns : goal.returns
returns c = keeps-what-each-keeps
