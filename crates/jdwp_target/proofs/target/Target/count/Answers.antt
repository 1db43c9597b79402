use Rattle.jdwp_target.proofs.target.Target.count.Goals as goal

pub returns-clause-value : goal.returns-clause-value
returns-clause-value g c = cc
