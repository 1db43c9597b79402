use Rattle.jdwp_debugger.specs.FollowingKept.{following_of}
use Rattle.std.proofs.Common.{◌≡◌, ◌≤◌, refl, List, ap, rules, arith, length, subst, sym, true≢false}
use Rattle.jdwp_mirror.specs.Faults.{PARKED_MOST}
use Rattle.jdwp_debugger.specs.declared.pending.Ticket.{Ticket}
use Rattle.jdwp_debugger.specs.Debuggers.{AreDistinct, AreOwn, Asked, Debugger, Parked, tickets_of}
use Rattle.jdwp_debugger.specs.DebuggersKept.{view_of}
use Rattle.jdwp_debugger.specs.DebuggerTurns.{reading_of}
use Rattle.jdwp_debugger.proofs.DebuggerRuns.{ran-lost}
use Rattle.jdwp_debugger.proofs.Keeping.{distinct-none, few-tickets}
use Rattle.jdwp_debugger.specs.Protocol.{LosesEach}
use Rattle.jdwp_debugger.proofs.ProtocolSessions.{loses-each}
use Rattle.jdwp_debugger.proofs.Still.{closed, some-not}
use Rattle.jdwp_debugger.proofs.debugger.Debugger.lose.Goals as goal

pub invariant_of-self : goal.invariant_of-self
invariant_of-self c =
    let s = c.self.inside in
    let kept = c.self.invariant in
    let few : length c.clear-3.new.self ≤ s.end.limits.pending = subst (λ (ps : List Asked). length ps ≤ s.end.limits.pending) (sym c.clear-3.ensures) (omega arith) in
    let few_parked : length c.clear-2.new.self.items ≤ PARKED_MOST = subst (λ (ps : List Parked). length ps ≤ PARKED_MOST) (sym c.clear-2.ensures.items) (omega arith) in
    rw c.lose.ensures
    (record {
      limits = kept.limits;
      few = few;
      few_parked = few_parked;
      distinct = subst AreDistinct (sym c.clear-3.ensures) distinct-none;
      own = subst AreOwn (sym c.clear-3.ensures) tt;
      begins = λ e. absurd (closed e);
      alone = λ opened none. absurd (true≢false (sym opened));
      unlearned = λ none. c.clear.ensures;
      unparked = λ w known. absurd (some-not w (sym known));
      unfollowed = λ one. refl;
      counted = tt;
      at_first = λ opened none. absurd (true≢false (sym opened));
      ran = ran-lost s.end s.tickets (reading_of (view_of s)) _ s.mirror c.clear.new.self (following_of s.ledger s.sizes s.pending) c.clear.ensures kept.ran;
    })

pub returns-clause-tickets : goal.returns-clause-tickets
returns-clause-tickets c = search rules

pub returns-clause-few : goal.returns-clause-few
returns-clause-few c =
    let s = c.self.inside in
    let ps = s.pending in
    let all : length c.of-lost.result ≡ length (tickets_of ps) = ap (λ (ks : List Ticket). length ks) c.of-lost.ensures in
    let most = ap (λ (d : Debugger). d.end.limits.pending) c.self.view_is in
    omega (arith, all, most, few-tickets ps, c.self.invariant.few)

pub returns-clause-each : goal.returns-clause-each
returns-clause-each c =
    let ps = c.self.inside.pending in
    subst (λ (d : Debugger). LosesEach d.pending c.of-lost.result) c.self.view_is (subst (λ (ks : List Ticket). LosesEach ps ks) (sym c.of-lost.ensures) (loses-each ps))
