use Rattle.std.proofs.Common.{ℕ, ◌+◌, ap}
use Rattle.jdwp_draw.specs.Sessions.{after}
use Rattle.jdwp_draw.proofs.Follows.{rows_end, rows_on}
use Rattle.jdwp_draw.proofs.reading.rows_of.Goals as goal

pub loop-place-preserved : goal.loop-place-preserved
loop-place-preserved c =
    let so_far = c.loop-place.invariant in
    let m = c.index-messages-place.result in
    let is = c.in_ok-row.ensures.row so_far.session so_far.count so_far.at in
    record {
      session = after c.args.sizes.now so_far.session m;
      count = ap (λ (n : ℕ). n + 1) so_far.count;
      at = c.in_ok-row.ensures.after so_far.session so_far.count so_far.at;
      goes_on = rows_on c.args.sizes.now so_far.session c.args.messages.now c.loop-place.place m c.in_ok-row.row _ _ c.loop-place-test.true c.index-messages-place.is is c.in_ok-push.ensures.items so_far.goes_on;
    }

pub returns : goal.returns
returns c = rows_end c.args.sizes.now c.loop-place.invariant.session c.args.messages.now c.loop-place.place _ c.loop-place-test.false c.loop-place.invariant.goes_on
