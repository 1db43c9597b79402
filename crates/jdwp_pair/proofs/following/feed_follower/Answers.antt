use Rattle.std.proofs.Common.{◌∙◌}
use Rattle.jdwp_pair.specs.Events.{piece}
use Rattle.jdwp_pair.proofs.Keeping.{feeds-too}
use Rattle.jdwp_pair.proofs.following.feed_follower.Goals as goal

pub returns : goal.returns
returns g c =
    feeds-too piece c.args.link.now c.args.follower.now c.feed.new.self c.deref.result.now c.feed.result (c.deref.ensures.value ∙ c.in_ok-bytes.ensures) c.feed.ensures.count c.feed.ensures.fed
