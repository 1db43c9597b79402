use Rattle.std.proofs.Common.{arith}
use Rattle.jdwp_debugger.specs.PendingKept.{asked_of}
use Rattle.jdwp_debugger.proofs.Followed.{lowered_more}
use Rattle.jdwp_debugger.proofs.pending.Pending.lowered.Goals as goal

pub overflow_add-lowered : goal.overflow_add-lowered
overflow_add-lowered c =
    let most = c.loop-place.invariant.1 in
    let small = c.lowered_by-lowered.ensures.small in
    omega (arith, most, small)

pub loop-place-preserved : goal.loop-place-preserved
loop-place-preserved c =
    let ps = c.args.self.now in
    let i = c.loop-place.place in
    let p = asked_of (c.at.result.0, c.at.result.1.now) in
    let t = c.args.thread.0 in
    let w = c.args.sizes.now in
    let next = lowered_more ps i p c.at.ensures w t in
    let one = c.lowered_by-lowered.ensures.value in
    let small = c.lowered_by-lowered.ensures.small in
    let so_far = c.loop-place.invariant.0 in
    let most = c.loop-place.invariant.1 in
    (omega (arith, next, one, so_far), omega (arith, most, small))
