use Rattle.std.proofs.Common.{take}
use Rattle.jdwp_debugger.specs.DebuggersKept.{view_of}
use Rattle.jdwp_debugger.specs.DebuggerTurns.{reading_of}
use Rattle.jdwp_debugger.proofs.DebuggerRuns.{ran-fed}
use Rattle.jdwp_debugger.proofs.Keeping.{none-fed}
use Rattle.jdwp_debugger.proofs.debugger.Debugger.feed.Goals as goal

pub invariant_of-self : goal.invariant_of-self
invariant_of-self c =
    let s = c.self.inside in
    let kept = c.self.invariant in
    let bytes = c.args.bytes.now in
    rw c.feed.ensures.fed
    (record {
      limits = kept.limits;
      few = kept.few;
      few_parked = kept.few_parked;
      distinct = kept.distinct;
      own = kept.own;
      begins = kept.begins;
      alone = kept.alone;
      unlearned = kept.unlearned;
      unparked = kept.unparked;
      unfollowed = kept.unfollowed;
      counted = kept.counted;
      at_first = kept.at_first;
      ran = ran-fed s.end s.tickets (reading_of (view_of s)) s.mirror (take c.feed.result bytes) (none-fed s.end bytes c.feed.result c.feed.ensures.count) kept.ran;
    })
