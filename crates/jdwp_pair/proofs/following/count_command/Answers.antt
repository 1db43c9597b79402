use Rattle.jdwp_pair.proofs.following.count_command.Goals as goal

pub returns-in-Ok : goal.returns-in-Ok
returns-in-Ok c = c.in-Ok.ensures.is
