use Rattle.std.proofs.Common.{◌+◌, ◌-◌, ◌/◌, arith}
use Rattle.jdwp_client.proofs.Rising.{below-up}
use Rattle.jdwp_client.proofs.answers.place_among.Goals as goal

pub loop-low-init : goal.loop-low-init
loop-low-init c = record {
  ordered = omega arith;
  bound = omega arith;
  before = λ i d less. absurd (omega arith);
  behind = λ i d more less. absurd (omega arith);
}

pub loop-low-preserved-then-is_below : goal.loop-low-preserved-then-is_below
loop-low-preserved-then-is_below c = record {
  ordered = omega arith;
  bound = c.loop-low.invariant.bound;
  before = below-up c.args.rising c.args.items.now.items (c.loop-low.low + (c.loop-low.high - c.loop-low.low) / 2) c.args.ticket.0 c.requires (omega arith)
      (c.is_below.ensures.below c.if-is_below.true);
  behind = c.loop-low.invariant.behind;
}
