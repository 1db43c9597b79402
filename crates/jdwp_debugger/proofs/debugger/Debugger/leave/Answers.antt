use Rattle.std.proofs.Common.{◌≤◌, ℕ, List, length, min, ap, subst, arith}
use Rattle.std.proofs.lemmas.List.{take_min}
use Rattle.jdwp_end.specs.Ends.{End, with_taken}
use Rattle.jdwp_debugger.specs.FollowingKept.{following_of}
use Rattle.jdwp_debugger.specs.DebuggersKept.{view_of}
use Rattle.jdwp_debugger.specs.DebuggerTurns.{reading_of}
use Rattle.jdwp_debugger.specs.Runs.{HasRun}
use Rattle.jdwp_debugger.proofs.DebuggerRuns.{ran-taken}
use Rattle.jdwp_debugger.proofs.debugger.Debugger.leave.Goals as goal

pub invariant_of-self : goal.invariant_of-self
invariant_of-self c =
    let s = c.self.inside in
    let kept = c.self.invariant in
    let out : List ℕ = s.end.outgoing in
    let count = min c.args.count (length out) in
    let within : count ≤ length out = omega arith in
    rw c.leave.ensures
    (record {
      limits = kept.limits;
      few = kept.few;
      few_parked = kept.few_parked;
      distinct = kept.distinct;
      own = kept.own;
      begins = kept.begins;
      alone = kept.alone;
      unlearned = kept.unlearned;
      unparked = kept.unparked;
      unfollowed = kept.unfollowed;
      counted = kept.counted;
      at_first = kept.at_first;
      ran = subst (λ (e : End). HasRun s.order e s.tickets (reading_of (view_of s)) s.mirror (following_of s.ledger s.sizes s.pending)) (ap (λ (bytes : List ℕ). with_taken bytes s.end) (take_min c.args.count out))
          (ran-taken s.end s.tickets (reading_of (view_of s)) s.mirror count within kept.ran);
    })
