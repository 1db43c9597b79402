use Rattle.jdwp_answer.proofs.Truths.{listed-all}
use Rattle.jdwp_answer.proofs.capabilities.new_of.Goals as goal

pub returns : goal.returns
returns c = listed-all c.args.truths 32 c.requires
