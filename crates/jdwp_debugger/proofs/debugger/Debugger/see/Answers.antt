use Rattle.std.proofs.Common.{◌≡◌, ◌∙◌, ap, sym, subst, refl, rules, Option, Bool, false, List, [], ◌∷◌, ◌++◌}
use Rattle.jdwp_wire.specs.Bytes.{IsBytes}
use Rattle.jdwp_wire.specs.Streams.{Packet}
use Rattle.jdwp_end.specs.Ends.{End, front_of, with_handled}
use Rattle.jdwp_debugger.specs.declared.heads.Head.{Head}
use Rattle.jdwp_debugger.specs.declared.heads.Head.TheVariants as head
use Rattle.jdwp_debugger.specs.Debuggers.{Debugger}
use Rattle.jdwp_debugger.specs.DebuggersKept.{view_of}
use Rattle.jdwp_debugger.specs.DebuggerTurns.{GoesOnBy, IsSaid, bad_where, closed_where, reading_of, with_read}
use Rattle.jdwp_apart.specs.Following.{Following}
use Rattle.jdwp_debugger.specs.News.{Happens, widths_by}
use Rattle.jdwp_debugger.specs.Orders.{LearnedIn, is_bad_in}
use Rattle.jdwp_mirror.specs.KnownThreads.{count_in}
use Rattle.jdwp_mirror.specs.Messages.{Report}
use Rattle.jdwp_mirror.specs.Mirror.{ends}
use Rattle.jdwp_debugger.specs.Runs.{HasRun, heard_by}
use Rattle.jdwp_debugger.proofs.Followed.{report-follows, report-none}
use Rattle.jdwp_debugger.proofs.Ordering.{may-learn}
use Rattle.jdwp_debugger.proofs.SaidPackets.{knows, said-ran}
use Rattle.jdwp_debugger.proofs.Still.{established}
use Rattle.jdwp_debugger.proofs.debugger.Debugger.see.Goals as goal

pub take_off-requires : goal.take_off-requires
take_off-requires c = (Packet c.args.header c.requires.said.body, ap (λ (d : Debugger). front_of d.end) c.self.view_is ∙ c.requires.said.front)

pub is_bad-requires : goal.is_bad-requires
is_bad-requires c = (let ran = c.self.invariant.ran in may-learn c.self.inside.order (heard_by ran) c.self.inside.mirror ran.learned)

pub learn_composite-requires : goal.learn_composite-requires
learn_composite-requires c = (let ran = c.self.invariant.ran in may-learn c.self.inside.order (heard_by ran) c.self.inside.mirror ran.learned)

pub invariant_of-self-2 : goal.invariant_of-self-2
invariant_of-self-2 c =
    let s = c.self.inside in
    let kept = c.self.invariant in
    let header = c.args.header in
    let used = c.args.used in
    let composite = c.args.composite in
    let news = Happens composite in
    let said : IsSaid (view_of s) header used news = subst (λ (d : Debugger). IsSaid d header used news) (sym c.self.view_is) c.requires.said in
    let bytes : IsBytes s.end.incoming = subst (λ (d : Debugger). IsBytes d.end.incoming) (sym c.self.view_is) c.requires.bytes in
    let end : End = with_handled (Packet header said.body) used s.end in
    let good : is_bad_in s.order (count_in s.mirror.threads) composite ≡ false = sym c.is_bad.ensures ∙ c.if-is_bad.false in
    let read : c.take_off.new.self ≡ end = c.take_off.ensures (Packet header said.body) said.front in
    let follows = report-follows (widths_by s.sizes) s.pending composite s.ledger c.note_composite.new.ledger kept.counted c.in_ok-note_composite.ensures.ok in
    rw read
    (record {
      limits = kept.limits;
      few = kept.few;
      few_parked = kept.few_parked;
      distinct = kept.distinct;
      own = kept.own;
      begins = λ e. absurd (established e);
      alone = λ opened none. absurd (knows (view_of s) header used composite said none);
      unlearned = λ none. absurd (knows (view_of s) header used composite said none);
      unparked = kept.unparked;
      unfollowed = λ one. report-none composite s.ledger c.note_composite.new.ledger (kept.unfollowed one) c.in_ok-note_composite.ensures.ok;
      counted = follows.1;
      at_first = λ opened none. absurd (knows (view_of s) header used composite said none);
      ran = subst (λ (f : Option Following). HasRun s.order end s.tickets (reading_of (view_of s)) c.learn_composite.new.mirror f) (sym follows.0)
          (said-ran (view_of s) header used news c.learn_composite.new.mirror bytes said (ap bad_where good) (c.learn_composite.new.mirror, c.in_ok-learn_composite.ensures.ok, refl) kept.ran);
    })

pub returns : goal.returns
returns c = λ content front.
    let composite = c.args.composite in
    let m = c.learn_composite.new.mirror in
    let good : is_bad_in c.args.self.now.order (count_in c.args.self.now.mirror.threads) composite ≡ false =
    sym (c.is_bad.ensures ∙ ap (λ (d : Debugger). is_bad_in d.order (count_in d.mirror.threads) composite) c.self.view_is) ∙ c.if-is_bad.false in
    let learned = subst (λ (d : Debugger). LearnedIn d.order d.mirror (Report composite) m) c.self.view_is c.in_ok-learn_composite.ensures.ok in
    let death : c.has_event_of-closes.result ≡ ends (Report composite) = search rules in
    let s = c.self.inside in
    let header = c.args.header in
    let here = ap (λ (d : Debugger). front_of d.end) c.self.view_is ∙ front in
    let end = with_handled (Packet header content) c.args.used s.end in
    let last : c.push.new.self ≡ head.Composite header ∷ [] = c.push.ensures ∙ ap (λ (hs : List Head). hs ++ head.Composite header ∷ []) c.clear.ensures in
    let ledger = c.note_composite.new.ledger in
    let follows = report-follows (widths_by s.sizes) s.pending composite s.ledger ledger c.self.invariant.counted c.in_ok-note_composite.ensures.ok in
    let goes = subst (λ (d : Debugger). GoesOnBy (Happens composite) d ledger) c.self.view_is follows.0 in
    let left =
    ap (λ (e : End). record (view_of s) { end = e; mirror = m; last = c.push.new.self; ledger = ledger }) (c.take_off.ensures (Packet header content) here)
    ∙ ap (λ (hs : List Head). record (view_of s) { end = end; mirror = m; last = hs; ledger = ledger }) last
    ∙ ap (λ (d : Debugger). record (with_read (Packet header content) c.args.used (head.Composite header ∷ []) d) { mirror = m; ledger = ledger }) c.self.view_is in (
      ap bad_where good,
      (
        refl,
        (
          m,
          learned,
          ledger,
          goes,
          c.close_where.ensures ∙ ap (λ (b : Bool). closed_where b (record (view_of s) { end = c.take_off.new.self; mirror = m; last = c.push.new.self; ledger = ledger })) death ∙ ap (closed_where (ends (Report composite))) left,
        ),
      ),
    )
