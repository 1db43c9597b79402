use Rattle.std.proofs.Common.{◌≡◌, ◌∙◌, ◌≤◌, ◌++◌, List, [], ◌∷◌, refl, ap, subst, sym, rules, arith, length}
use Rattle.jdwp_wire.specs.Bytes.{IsBytes}
use Rattle.jdwp_wire.specs.Streams.{Packet}
use Rattle.jdwp_end.specs.Ends.{End, front_of, with_handled}
use Rattle.jdwp_mirror.specs.Faults.{PARKED_MOST}
use Rattle.jdwp_debugger.specs.Debuggers.{Debugger, Parked}
use Rattle.jdwp_debugger.specs.DebuggersKept.{view_of}
use Rattle.jdwp_debugger.specs.DebuggerTurns.{IsSaid}
use Rattle.jdwp_debugger.specs.FollowingKept.{following_of}
use Rattle.jdwp_debugger.specs.News.{Waits}
use Rattle.jdwp_debugger.specs.Runs.{HasRun}
use Rattle.jdwp_debugger.proofs.SaidPackets.{may-park, parks-unknown, said-open, said-ran}
use Rattle.jdwp_debugger.proofs.Still.{established, some-not}
use Rattle.jdwp_debugger.proofs.debugger.Debugger.park.Goals as goal

pub take_off-requires : goal.take_off-requires
take_off-requires c = (Packet c.args.header c.requires.said.body, ap (λ (d : Debugger). front_of d.end) c.self.view_is ∙ c.requires.said.front)

pub invariant_of-self-2 : goal.invariant_of-self-2
invariant_of-self-2 c =
    let s = c.self.inside in
    let kept = c.self.invariant in
    let header = c.args.header in
    let used = c.args.used in
    let news = Waits c.args.body.items in
    let said : IsSaid (view_of s) header used news = subst (λ (d : Debugger). IsSaid d header used news) (sym c.self.view_is) c.requires.said in
    let bytes : IsBytes s.end.incoming = subst (λ (d : Debugger). IsBytes d.end.incoming) (sym c.self.view_is) c.requires.bytes in
    let end : End = with_handled (Packet header said.body) used s.end in
    let read : c.take_off.new.self ≡ end = c.take_off.ensures (Packet header said.body) said.front in
    let pushed : c.push.new.self.items ≡ s.parked.items ++ record { header = header; body = c.args.body.items } ∷ [] = search rules in
    let less = may-park (view_of s) header used c.args.body.items said kept.few_parked in
    let few : length c.push.new.self.items ≤ PARKED_MOST = search (rules, arith, less) in
    rw read
    (record {
      limits = kept.limits;
      few = kept.few;
      few_parked = few;
      distinct = kept.distinct;
      own = kept.own;
      begins = λ e. absurd (established e);
      alone = λ opened none. kept.alone (said-open (view_of s) header used news bytes said) none;
      unlearned = kept.unlearned;
      unfollowed = kept.unfollowed;
      counted = kept.counted;
      at_first = λ opened none. kept.at_first (said-open (view_of s) header used news bytes said) none;
      unparked = λ w known. absurd (some-not w (sym known ∙ parks-unknown (view_of s) header used c.args.body.items said));
      ran = subst (λ (ps : List Parked). HasRun s.order end s.tickets (record { order = s.order; sizes = s.sizes; parked = ps; pending = s.pending }) s.mirror (following_of s.ledger s.sizes s.pending)) (sym pushed)
          (said-ran (view_of s) header used news s.mirror bytes said refl refl kept.ran);
    })
