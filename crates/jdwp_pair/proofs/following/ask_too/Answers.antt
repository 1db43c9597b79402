use Rattle.jdwp_pair.proofs.Keeping.{some-asked}
use Rattle.jdwp_pair.proofs.Leading.{on-ok}
use Rattle.jdwp_pair.proofs.following.ask_too.Goals as goal

pub returns-in-Some : goal.returns-in-Some
returns-in-Some c = on-ok c.ask_copy.result (λ a. some-asked c.args.command.now _ _ _ c.in-Some.is a) c.ask_copy.ensures
