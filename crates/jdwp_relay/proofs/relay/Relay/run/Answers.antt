use Rattle.jdwp_relay.proofs.Recording.{covered_behind}
use Rattle.jdwp_relay.proofs.relay.Relay.run.Goals as goal

pub loop-init : goal.loop-init
loop-init g c = record { relaying = λ r. r; recorded = λ start r d. d }

pub returns-clause-covered : goal.returns-clause-covered
returns-clause-covered g c = λ start r d. covered_behind start _ _ (c.loop.invariant.relaying r) (c.loop.invariant.recorded start r d)
