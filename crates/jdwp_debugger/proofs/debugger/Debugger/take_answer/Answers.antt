use Rattle.std.proofs.Common.{◌≡◌, ◌∙◌, ◌<◌, ◌≤◌, List, ap, sym, subst, refl, Bool, [], ◌∷◌, ◌++◌, length, Option, Some, arith}
use Rattle.std.specs.Prelude.{remove}
use Rattle.jdwp_wire.specs.Bytes.{IsBytes}
use Rattle.jdwp_wire.specs.Streams.{Packet}
use Rattle.jdwp_end.specs.Ends.{End, front_of, with_handled}
use Rattle.jdwp_action.specs.Actions.{Command}
use Rattle.jdwp_debugger.specs.declared.heads.Head.{Head}
use Rattle.jdwp_debugger.specs.Debuggers.{AreDistinct, AreOwn, Asked, Debugger}
use Rattle.jdwp_debugger.specs.DebuggersKept.{view_of}
use Rattle.jdwp_debugger.specs.DebuggerTurns.{GoesOnBy, IsSaid, closed_where, command_at, command_of, followed, is_next, reading_of, reply_head, with_read}
use Rattle.jdwp_apart.specs.Following.{Following, answered_to}
use Rattle.jdwp_apart.specs.Messages.{is_invocation}
use Rattle.jdwp_debugger.specs.FollowingKept.{IsAnswered, IsCounted, IsDue, following_of}
use Rattle.jdwp_debugger.specs.Histories.{reading_after}
use Rattle.jdwp_debugger.specs.PendingKept.{asked_of}
use Rattle.jdwp_debugger.proofs.Followed.{answer-due, answer-follows, answer-none}
use Rattle.jdwp_debugger.specs.News.{Answers, widths_by}
use Rattle.jdwp_debugger.specs.Orders.{LearnedIn}
use Rattle.jdwp_debugger.specs.Runs.{HasRun, heard_by}
use Rattle.jdwp_mirror.specs.Messages.{Reply}
use Rattle.jdwp_mirror.specs.Mirror.{ends}
use Rattle.jdwp_mirror.specs.Mirrors.{Mirror}
use Rattle.jdwp_debugger.proofs.Keeping.{distinct-left, few-left, own-left}
use Rattle.jdwp_debugger.proofs.Ordering.{may-learn}
use Rattle.jdwp_debugger.proofs.SaidPackets.{answers-within, known-before, said-open, said-ran}
use Rattle.jdwp_debugger.proofs.Still.{established, still}
use Rattle.jdwp_debugger.proofs.debugger.Debugger.take_answer.Goals as goal

pub at-requires : goal.at-requires
at-requires c =
    let s = c.self.inside in
    let said = subst (λ (d : Debugger). IsSaid d c.args.packet.0 c.args.packet.1 (Answers c.args.place c.args.ticket.0 c.args.answer)) (sym c.self.view_is) c.requires.said in
    let within : c.args.place < length s.pending = answers-within (view_of s) c.args.packet.0 c.args.packet.1 c.args.place c.args.ticket.0 c.args.answer said in
    omega (arith, within)

pub learn_reply-requires : goal.learn_reply-requires
learn_reply-requires c = (let ran = c.self.invariant.ran in may-learn c.self.inside.order (heard_by ran) c.self.inside.mirror ran.learned)

pub is_next-requires : goal.is_next-requires
is_next-requires c =
    let s = c.self.inside in
    let said = subst (λ (d : Debugger). IsSaid d c.args.packet.0 c.args.packet.1 (Answers c.args.place c.args.ticket.0 c.args.answer)) (sym c.self.view_is) c.requires.said in
    let within : c.args.place < length s.pending = answers-within (view_of s) c.args.packet.0 c.args.packet.1 c.args.place c.args.ticket.0 c.args.answer said in
    omega (arith, within)

pub note_answer-requires : goal.note_answer-requires
note_answer-requires c =
    let s = c.self.inside in
    let due = answer-due (widths_by s.sizes) s.pending c.args.place (asked_of (c.at.result.0, c.at.result.1.now)) s.ledger c.at.ensures c.self.invariant.counted in
    subst (λ (b : Bool). IsDue (is_invocation c.at.result.1.now.command) b s.ledger) (sym c.is_next.ensures) due

pub remove-requires : goal.remove-requires
remove-requires c =
    let s = c.self.inside in
    let said = subst (λ (d : Debugger). IsSaid d c.args.packet.0 c.args.packet.1 (Answers c.args.place c.args.ticket.0 c.args.answer)) (sym c.self.view_is) c.requires.said in
    let within : c.args.place < length s.pending = answers-within (view_of s) c.args.packet.0 c.args.packet.1 c.args.place c.args.ticket.0 c.args.answer said in
    omega (arith, within)

pub take_off-requires : goal.take_off-requires
take_off-requires c = (Packet c.args.packet.0 c.requires.said.body, ap (λ (d : Debugger). front_of d.end) c.self.view_is ∙ c.requires.said.front)

pub invariant_of-self-2 : goal.invariant_of-self-2
invariant_of-self-2 c =
    let s = c.self.inside in
    let kept = c.self.invariant in
    let header = c.args.packet.0 in
    let used = c.args.packet.1 in
    let place = c.args.place in
    let ticket = c.args.ticket.0 in
    let answer = c.args.answer in
    let ps = s.pending in
    let news = Answers place ticket answer in
    let said : IsSaid (view_of s) header used news = subst (λ (d : Debugger). IsSaid d header used news) (sym c.self.view_is) c.requires.said in
    let bytes : IsBytes s.end.incoming = subst (λ (d : Debugger). IsBytes d.end.incoming) (sym c.self.view_is) c.requires.bytes in
    let end : End = with_handled (Packet header said.body) used s.end in
    let read : c.take_off.new.self ≡ end = c.take_off.ensures (Packet header said.body) said.front in
    let left : c.remove.new.self ≡ remove ps place = c.remove.ensures in
    let within : place < length ps = answers-within (view_of s) header used place ticket answer said in
    let m = c.learn_reply.new.mirror in
    let seen : c.at.result.1.now.command ≡ command_at place ps = sym (ap command_of c.at.ensures) in
    let learned = subst (λ (q : Command). LearnedIn s.order s.mirror (Reply (Some ticket) q answer) m) seen (c.in_ok-learn_reply.ensures.ok (Some ticket)) in
    let opened = said-open (view_of s) header used news bytes said in
    let w = widths_by s.sizes in
    let next : c.is_next.result ≡ is_next place ps = c.is_next.ensures in
    let answered = subst (λ (b : Bool). IsAnswered (is_invocation c.at.result.1.now.command) b c.at.result.1.now.command answer s.ledger c.note_answer.new.ledger) next c.in_ok-note_answer.ensures.ok in
    let follows = answer-follows w ps place (asked_of (c.at.result.0, c.at.result.1.now)) answer s.ledger c.note_answer.new.ledger c.at.ensures kept.counted answered in
    let now : following_of c.note_answer.new.ledger s.sizes (remove ps place) ≡ answered_to w (is_next place ps) (command_at place ps) answer (following_of s.ledger s.sizes ps) =
    follows.0 ∙ ap (λ (q : Command). answered_to w (is_next place ps) q answer (following_of s.ledger s.sizes ps)) seen in
    rw read
    (record {
      limits = kept.limits;
      few = subst (λ (qs : List Asked). length qs ≤ s.end.limits.pending) (sym left) (few-left ps place s.end.limits.pending within kept.few);
      few_parked = kept.few_parked;
      distinct = subst AreDistinct (sym left) (distinct-left ps place within kept.distinct);
      own = subst AreOwn (sym left) (own-left ps place kept.own);
      begins = λ e. absurd (established e);
      alone = λ opens none. absurd (known-before (view_of s) header used place ticket answer said (kept.alone opened none));
      unlearned = λ none. absurd (known-before (view_of s) header used place ticket answer said (kept.alone opened none));
      unparked = kept.unparked;
      unfollowed = λ one. answer-none (is_invocation c.at.result.1.now.command) (is_next place ps) c.at.result.1.now.command answer s.ledger c.note_answer.new.ledger (kept.unfollowed one) answered;
      counted = subst (IsCounted c.note_answer.new.ledger w) (sym left) follows.1;
      at_first = λ opens none. absurd (known-before (view_of s) header used place ticket answer said (kept.alone opened none));
      ran = subst (λ (qs : List Asked). HasRun s.order end s.tickets (record { order = s.order; sizes = s.sizes; parked = s.parked.items; pending = qs }) m (following_of c.note_answer.new.ledger s.sizes qs)) (sym left)
          (subst (λ (f : Option Following). HasRun s.order end s.tickets (reading_after header news (reading_of (view_of s))) m f) (sym now)
          (said-ran (view_of s) header used news m bytes said refl (m, learned, refl) kept.ran));
    })

pub returns : goal.returns
returns c = λ content front.
    let k = Some c.args.ticket.0 in
    let m = c.learn_reply.new.mirror in
    let command = c.at.result.1.now.command in
    let ps = c.args.self.now.pending in
    let place = c.args.place in
    let seen : command ≡ command_at place ps = sym (ap command_of c.at.ensures) ∙ ap (λ (d : Debugger). command_at place d.pending) c.self.view_is in
    let learned =
    subst (λ (q : Command). LearnedIn c.args.self.now.order c.args.self.now.mirror (Reply k q c.args.answer) m) seen
    (subst (λ (d : Debugger). LearnedIn d.order d.mirror (Reply k command c.args.answer) m) c.self.view_is (c.in_ok-learn_reply.ensures.ok k)) in
    let ending = ends (Reply k (command_at place ps) c.args.answer) in
    let closes : c.closes_session-closes.result ≡ ending = c.closes_session-closes.ensures k ∙ ap (λ (q : Command). ends (Reply k q c.args.answer)) seen in
    let s = c.self.inside in
    let header = c.args.packet.0 in
    let used = c.args.packet.1 in
    let here = ap (λ (d : Debugger). front_of d.end) c.self.view_is ∙ front in
    let end = with_handled (Packet header content) used s.end in
    let told : c.of_reply-head.result ≡ reply_head header (command_at place ps) = c.of_reply-head.ensures ∙ ap (reply_head header) seen in
    let last : c.push.new.self ≡ reply_head header (command_at place ps) ∷ [] =
    c.push.ensures ∙ ap (λ (hs : List Head). hs ++ c.of_reply-head.result ∷ []) c.clear.ensures ∙ ap (λ (h : Head). h ∷ []) told in
    let w = widths_by s.sizes in
    let is : command ≡ command_at place s.pending = sym (ap command_of c.at.ensures) in
    let answered = subst (λ (b : Bool). IsAnswered (is_invocation command) b command c.args.answer s.ledger c.note_answer.new.ledger) c.is_next.ensures c.in_ok-note_answer.ensures.ok in
    let follows = answer-follows w s.pending place (asked_of (c.at.result.0, c.at.result.1.now)) c.args.answer s.ledger c.note_answer.new.ledger c.at.ensures c.self.invariant.counted answered in
    let ledger = c.note_answer.new.ledger in
    let now : following_of ledger s.sizes (remove s.pending place) ≡ followed (reading_of (view_of s)) (Answers place c.args.ticket.0 c.args.answer) (following_of s.ledger s.sizes s.pending) =
    follows.0 ∙ ap (λ (q : Command). answered_to w (is_next place s.pending) q c.args.answer (following_of s.ledger s.sizes s.pending)) is in
    let goes = subst (λ (d : Debugger). GoesOnBy (Answers place c.args.ticket.0 c.args.answer) d ledger) c.self.view_is now in
    let left =
    ap (λ (e : End). record (view_of s) { end = e; mirror = m; pending = c.remove.new.self; last = c.push.new.self; ledger = ledger }) (c.take_off.ensures (Packet header content) here)
    ∙ ap (λ (qs : List Asked). record (view_of s) { end = end; mirror = m; pending = qs; last = c.push.new.self; ledger = ledger }) c.remove.ensures
    ∙ ap (λ (hs : List Head). record (view_of s) { end = end; mirror = m; pending = remove s.pending place; last = hs; ledger = ledger }) last
    ∙ ap (λ (d : Debugger). record (with_read (Packet header content) used (reply_head header (command_at place ps) ∷ []) d) { mirror = m; pending = remove d.pending place; ledger = ledger }) c.self.view_is in (
      refl,
      (
        refl,
        (
          m,
          learned,
          ledger,
          goes,
          c.close_where.ensures ∙ ap (λ (b : Bool). closed_where b (record (view_of s) { end = c.take_off.new.self; mirror = m; pending = c.remove.new.self; last = c.push.new.self; ledger = ledger })) closes ∙ ap (closed_where ending) left,
        ),
      ),
    )

pub invariant_of-self : goal.invariant_of-self
invariant_of-self c =
    still c.self.inside _ (ap (λ (m : Mirror). record (view_of c.self.inside) { mirror = m }) (sym c.in_err-learn_reply.ensures.err)) c.self.invariant
