use Rattle.jdwp_judge.proofs.HeldLaws.{is_held}
use Rattle.jdwp_judge.proofs.judge.Judge.held.Goals as goal

pub returns : goal.returns
returns c = λ table pieces heard none. is_held table c.args.self.now pieces _ heard none c.left_over.ensures c.left_over-2.ensures c.messages.ensures c.commands.ensures
