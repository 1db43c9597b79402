use Rattle.jdwp_pair.specs.Events.{piece}
use Rattle.jdwp_pair.proofs.Keeping.{some-fed}
use Rattle.jdwp_pair.proofs.Leading.{on-ok}
use Rattle.jdwp_pair.proofs.following.feed_too.Goals as goal

pub returns-in-Some : goal.returns-in-Some
returns-in-Some g c = on-ok c.feed_follower.result (λ e. some-fed piece c.args.link.now _ _ _ c.in-Some.is e) c.feed_follower.ensures
