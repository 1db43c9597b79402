use Rattle.jdwp_pair.proofs.Keeping.{some-turned}
use Rattle.jdwp_pair.proofs.Leading.{on-ok}
use Rattle.jdwp_pair.proofs.following.turn_too.Goals as goal

pub returns-in-Some : goal.returns-in-Some
returns-in-Some c = on-ok c.turn_follower.result (λ t. some-turned _ _ _ c.in-Some.is t) c.turn_follower.ensures
