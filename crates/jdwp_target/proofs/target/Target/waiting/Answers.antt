use Rattle.jdwp_target.proofs.target.Target.waiting.Goals as goal

pub returns-clause-count : goal.returns-clause-count
returns-clause-count g c = cc
