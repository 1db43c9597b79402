use Rattle.jdwp_debugger.specs.FollowingKept.{following_of}
use Rattle.std.proofs.Common.{◌≤◌, refl, rules, arith, length, true≢false, sym, List, subst}
use Rattle.jdwp_mirror.specs.Faults.{PARKED_MOST}
use Rattle.jdwp_debugger.specs.Debuggers.{Parked}
use Rattle.jdwp_debugger.specs.DebuggersKept.{view_of}
use Rattle.jdwp_debugger.specs.DebuggerTurns.{reading_of}
use Rattle.jdwp_debugger.proofs.DebuggerRuns.{ran-closed}
use Rattle.jdwp_debugger.proofs.Still.{closed, some-not}
use Rattle.jdwp_debugger.proofs.debugger.Debugger.close.Goals as goal

pub invariant_of-self : goal.invariant_of-self
invariant_of-self c =
    let s = c.self.inside in
    let kept = c.self.invariant in
    let few_parked : length c.clear-2.new.self.items ≤ PARKED_MOST = subst (λ (ps : List Parked). length ps ≤ PARKED_MOST) (sym c.clear-2.ensures.items) (omega arith) in
    rw c.close.ensures
    (record {
      limits = kept.limits;
      few = kept.few;
      few_parked = few_parked;
      distinct = kept.distinct;
      own = kept.own;
      begins = λ e. absurd (closed e);
      alone = λ opened none. absurd (true≢false (sym opened));
      unlearned = λ none. c.clear.ensures;
      unparked = λ w known. absurd (some-not w (sym known));
      unfollowed = λ one. refl;
      counted = tt;
      at_first = λ opened none. absurd (true≢false (sym opened));
      ran = ran-closed s.end s.tickets (reading_of (view_of s)) _ s.mirror c.clear.new.self (following_of s.ledger s.sizes s.pending) c.clear.ensures kept.ran;
    })

pub returns : goal.returns
returns c = search rules
