use Rattle.std.proofs.Common.{◌≡◌, length, arith, rules}
use Rattle.jdwp_debugger.proofs.Ids.{next_is_free}
use Rattle.jdwp_debugger.proofs.pending.Pending.next_free.Goals as goal

pub returns : goal.returns
returns c =
    let past = c.loop-test.false in
    let end = c.loop.auto.counter-end in
    let whole : c.loop.counter ≡ length c.args.self.now = omega (arith, past, end, c.len-end.ensures) in
    let others = c.loop.invariant.others in
    record {
      passed = c.loop.counter;
      is = c.loop.invariant.at;
      free = (rw (c.loop.invariant.at, whole) (next_is_free c.args.self.now c.args.from c.ranges.from.fits c.requires (rw (← whole) others)));
      others = others;
    }

pub returns-then-not-has_outstanding : goal.returns-then-not-has_outstanding
returns-then-not-has_outstanding c =
    search rules

pub loop-preserved : goal.loop-preserved
loop-preserved c =
    search rules
