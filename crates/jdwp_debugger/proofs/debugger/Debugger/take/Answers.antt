use Rattle.std.proofs.Common.{◌≤◌, arith, drop, length}
use Rattle.jdwp_debugger.specs.DebuggersKept.{view_of}
use Rattle.jdwp_debugger.specs.DebuggerTurns.{reading_of}
use Rattle.jdwp_debugger.proofs.DebuggerRuns.{ran-taken}
use Rattle.jdwp_debugger.proofs.TakenFirst.{taken-first}
use Rattle.jdwp_debugger.proofs.debugger.Debugger.take.Goals as goal

pub invariant_of-self : goal.invariant_of-self
invariant_of-self c =
    let s = c.self.inside in
    let kept = c.self.invariant in
    let le : c.take.result ≤ length s.end.outgoing = omega (arith, c.take.ensures.count) in
    rw c.take.ensures.taken
    (record {
      limits = kept.limits;
      few = kept.few;
      few_parked = kept.few_parked;
      distinct = kept.distinct;
      own = kept.own;
      begins = kept.begins;
      alone = kept.alone;
      unlearned = kept.unlearned;
      unparked = kept.unparked;
      unfollowed = kept.unfollowed;
      counted = kept.counted;
      at_first = kept.at_first;
      ran = ran-taken s.end s.tickets (reading_of (view_of s)) s.mirror c.take.result le kept.ran;
    })

pub returns-clause-first : goal.returns-clause-first
returns-clause-first c =
    let out = c.self.inside.end.outgoing in
    let within : c.take.result ≤ length out = omega (arith, c.take.ensures.count) in
    rw (← c.self.view_is, c.take.ensures.bytes, c.take.ensures.taken) (taken-first c.take.result out (drop c.take.result c.args.out.now) within)
