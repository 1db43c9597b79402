use Rattle.std.proofs.Common.{◌≡◌, ◌∙◌, ◌≤◌, List, Option, None, rules, refl, arith, length, ap, subst, sym}
use Rattle.jdwp_apart.specs.Following.{Following}
use Rattle.jdwp_watch.specs.Ledgers.{Account}
use Rattle.jdwp_debugger.specs.FollowingKept.{IsAtFirst, IsCounted, following_of}
use Rattle.jdwp_debugger.specs.Runs.{HasRun}
use Rattle.jdwp_debugger.proofs.Followed.{first-counted, first-follows}
use Rattle.jdwp_wire.specs.Handshake.{handshake_bytes}
use Rattle.jdwp_end.specs.Ends.{opened_end, with_enqueued}
use Rattle.jdwp_mirror.specs.Faults.{PARKED_MOST}
use Rattle.jdwp_debugger.specs.Debuggers.{AreDistinct, AreOwn, Asked, IsSizesAlone, Parked, begun_in, first_in}
use Rattle.jdwp_debugger.specs.Histories.{nothing}
use Rattle.jdwp_debugger.specs.News.{EIGHT, Reading}
use Rattle.jdwp_debugger.proofs.DebuggerRuns.{ran-attached}
use Rattle.jdwp_debugger.proofs.Keeping.{distinct-none}
use Rattle.jdwp_debugger.proofs.Still.{some-not}
use Rattle.jdwp_debugger.proofs.debugger.Debugger.begin_session.Goals as goal

pub invariant_of-self : goal.invariant_of-self
invariant_of-self c =
    let s = c.self.inside in
    let begun = with_enqueued handshake_bytes (opened_end s.end) in
    let attached : c.enqueue.new.self ≡ begun = search rules in
    let none = sym c.clear-3.ensures in
    let now : Reading = record { order = s.order; sizes = None; parked = c.clear-2.new.self.items; pending = c.clear-3.new.self } in
    let unread : now ≡ (nothing s.order s.tickets).reading = (λ j. record { order = s.order; sizes = None; parked = c.clear-2.ensures.items j; pending = c.clear-3.ensures j }) in
    let follows : following_of c.begin.result None c.clear-3.new.self ≡ begun_in s.order = (λ j. following_of (c.begin.ensures j) None (c.clear-3.ensures j)) ∙ first-follows s.order EIGHT in
    let few : length c.clear-3.new.self ≤ s.end.limits.pending = subst (λ (ps : List Asked). length ps ≤ s.end.limits.pending) none (omega arith) in
    let few_parked : length c.clear-2.new.self.items ≤ PARKED_MOST = subst (λ (ps : List Parked). length ps ≤ PARKED_MOST) (sym c.clear-2.ensures.items) (omega arith) in
    rw attached
    (record {
      limits = c.self.invariant.limits;
      few = few;
      few_parked = few_parked;
      distinct = subst AreDistinct none distinct-none;
      own = subst AreOwn none tt;
      begins = λ e. (c.clear-3.ensures, c.clear-2.ensures.items, refl);
      alone = λ opened unknown. subst IsSizesAlone none tt;
      unlearned = λ unknown. c.clear.ensures;
      unparked = λ w known. absurd (some-not w (sym known));
      unfollowed = λ one. c.begin.ensures ∙ ap first_in one;
      counted = subst (λ (l : Option Account). IsCounted l EIGHT c.clear-3.new.self) (sym c.begin.ensures) (subst (λ (ps : List Asked). IsCounted (first_in s.order) EIGHT ps) none (first-counted s.order EIGHT));
      at_first = λ opened unknown. subst (λ (l : Option Account). IsAtFirst s.order l EIGHT c.clear-3.new.self) (sym c.begin.ensures) (subst (λ (ps : List Asked). IsAtFirst s.order (first_in s.order) EIGHT ps) none (first-follows s.order EIGHT));
      ran = subst (λ (f : Option Following). HasRun s.order begun s.tickets now c.clear.new.self f) (sym follows) (ran-attached s.end s.tickets now c.clear.new.self unread c.clear.ensures);
    })

pub enqueue-requires : goal.enqueue-requires
enqueue-requires c =
    let least = c.self.invariant.limits.packet_least in
    search (rules, arith, least)
