use Rattle.jdwp_target.proofs.Encoded.{start-encoded, death-encoded}
use Rattle.jdwp_target.proofs.laws.encodes_start_and_death.Goals as goal

pub returns-clause-start : goal.returns-clause-start
returns-clause-start c = λ w policy thread small h. start-encoded w policy thread small h

pub returns-clause-death : goal.returns-clause-death
returns-clause-death c = λ w. death-encoded w
