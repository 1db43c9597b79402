use Rattle.std.proofs.Common.{◌≡◌, refl, subst, sym, rules, arith, true≢false}
use Rattle.jdwp_end.specs.Ends.{new_end}
use Rattle.jdwp_debugger.specs.Debuggers.{AreDistinct, AreOwn}
use Rattle.jdwp_debugger.proofs.DebuggerRuns.{ran-new}
use Rattle.jdwp_debugger.proofs.Keeping.{distinct-none}
use Rattle.jdwp_debugger.proofs.Still.{closed, some-not}
use Rattle.jdwp_debugger.proofs.debugger.Debugger.with_order.Goals as goal

pub invariant_of-result : goal.invariant_of-result
invariant_of-result c =
    let made : c.in_ok-new.field-0 ≡ new_end c.args.limits = search rules in
    let none = sym c.new-4.ensures in
    rw made
    (record {
      limits = c.are_limits.ensures;
      few = search (rules, arith);
      few_parked = search (rules, arith);
      distinct = subst AreDistinct none distinct-none;
      own = subst AreOwn none tt;
      begins = λ e. absurd (closed e);
      alone = λ opened none. absurd (true≢false (sym opened));
      unlearned = λ none. search rules;
      unparked = λ w known. absurd (some-not w (sym known));
      unfollowed = λ one. refl;
      counted = tt;
      at_first = λ opened none. absurd (true≢false (sym opened));
      ran = ran-new c.args.limits 0 _ _ (search rules);
    })
