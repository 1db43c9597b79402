use Rattle.std.proofs.Common.{arith}
use Rattle.jdwp_client.proofs.Rising.{rises-more}
use Rattle.jdwp_client.proofs.answers.rising_from.Goals as goal

pub loop-rising-preserved : goal.loop-rising-preserved
loop-rising-preserved c =
    rises-more c.loop-rising.rising c.args.items.now.items c.loop-rising.invariant (omega arith) (c.rises_at.ensures c.if-not-rises_at.false)
