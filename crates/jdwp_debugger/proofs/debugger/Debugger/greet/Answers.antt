use Rattle.std.proofs.Common.{◌≡◌, ◌∙◌, ◌≤◌, ◌++◌, List, [], ◌∷◌, Option, None, true, false, refl, ap, subst, sym, rules, length}
use Rattle.jdwp_wire.specs.Bytes.{IsBytes}
use Rattle.jdwp_wire.specs.Frames.{header_bytes}
use Rattle.jdwp_wire.specs.Streams.{Handshake, Whole}
use Rattle.jdwp_end.specs.Ends.{End, front_of, is_open, is_open_phase, with_enqueued, with_handled}
use Rattle.jdwp_mirror.specs.Messages.{id_sizes}
use Rattle.jdwp_apart.specs.Following.{Following, put_to}
use Rattle.jdwp_watch.specs.declared.put.Put.TheVariants.{Asks}
use Rattle.jdwp_watch.specs.Ledgers.{Account}
use Rattle.jdwp_debugger.specs.FollowingKept.{IsAtFirst, IsCounted, following_of, ledger_put}
use Rattle.jdwp_debugger.specs.News.{widths_by}
use Rattle.jdwp_debugger.proofs.Followed.{first-put, put-to-follows, put-counts, put-none}
use Rattle.jdwp_debugger.specs.Asking.{is_outstanding}
use Rattle.jdwp_debugger.specs.Debuggers.{AreDistinct, AreOwn, Asked, Debugger, IsSizesAlone}
use Rattle.jdwp_debugger.specs.DebuggersKept.{view_of}
use Rattle.jdwp_debugger.specs.DebuggerTurns.{reading_of, sizes_header}
use Rattle.jdwp_debugger.specs.Runs.{HasRun}
use Rattle.jdwp_debugger.proofs.DebuggerRuns.{ran-greeted, with_sizes_asked}
use Rattle.jdwp_debugger.proofs.Keeping.{distinct-more, own-more}
use Rattle.jdwp_debugger.proofs.TurningLemmas.{handshake-phase}
use Rattle.jdwp_debugger.proofs.Still.{established, still}
use Rattle.jdwp_debugger.proofs.debugger.Debugger.greet.Goals as goal

pub push-requires : goal.push-requires
push-requires c =
    let s = c.self.inside in
    let front : front_of s.end ≡ Whole Handshake 14 = ap (λ (d : Debugger). front_of d.end) c.self.view_is ∙ c.requires.front in
    let begins = c.self.invariant.begins (handshake-phase s.end 14 front) in
    ap (λ (qs : List Asked). is_outstanding qs s.next_id) begins.0

pub invariant_of-self-2 : goal.invariant_of-self-2
invariant_of-self-2 c =
    let s = c.self.inside in
    let kept = c.self.invariant in
    let ps = s.pending in
    let p : Asked = record { id = s.next_id; ticket = None; command = id_sizes } in
    let front : front_of s.end ≡ Whole Handshake 14 = ap (λ (d : Debugger). front_of d.end) c.self.view_is ∙ c.requires.front in
    let bytes : IsBytes s.end.incoming = subst (λ (d : Debugger). IsBytes d.end.incoming) (sym c.self.view_is) c.requires.bytes in
    let begins = kept.begins (handshake-phase s.end 14 front) in
    let taken : c.take_off.new.self ≡ with_handled Handshake 14 s.end = c.take_off.ensures Handshake front in
    let end : End = with_enqueued (header_bytes (sizes_header s.next_id)) (with_handled Handshake 14 s.end) in
    let asked : c.enqueue.new.self ≡ end = search rules in
    let pushed : c.push.new.self ≡ ps ++ p ∷ [] = search rules in
    let few : length c.push.new.self ≤ s.end.limits.pending =
    subst (λ (qs : List Asked). length qs ≤ s.end.limits.pending) (sym (pushed ∙ ap (λ (qs : List Asked). qs ++ p ∷ []) begins.0)) (kept.limits.pending_is.0) in
    let free : is_outstanding ps p.id ≡ false = ap (λ (qs : List Asked). is_outstanding qs p.id) begins.0 in
    let alone : IsSizesAlone c.push.new.self = subst IsSizesAlone (sym (pushed ∙ ap (λ (qs : List Asked). qs ++ p ∷ []) begins.0)) (refl, refl) in
    let follows : following_of c.note_put.new.ledger s.sizes c.push.new.self ≡ put_to (widths_by s.sizes) id_sizes (following_of s.ledger s.sizes ps) =
    put-to-follows s.ledger c.note_put.new.ledger s.sizes ps c.push.new.self p pushed c.note_put.ensures in
    let opened : is_open s.end ≡ true = ap is_open_phase (handshake-phase s.end 14 front) in
    let first : IsAtFirst s.order c.note_put.new.ledger (widths_by s.sizes) (p ∷ []) =
    first-put s.order s.ledger c.note_put.new.ledger (widths_by s.sizes) ps c.push.new.self p begins.0 pushed (kept.at_first opened begins.2) follows in
    rw asked
    (record {
      limits = kept.limits;
      few = few;
      few_parked = kept.few_parked;
      distinct = subst AreDistinct (sym pushed) (distinct-more ps p kept.distinct free);
      own = subst AreOwn (sym pushed) (own-more ps p (λ none. refl) kept.own);
      begins = λ e. absurd (established e);
      alone = λ opened none. alone;
      unlearned = kept.unlearned;
      unparked = kept.unparked;
      unfollowed = λ one. c.note_put.ensures ∙ put-none Asks s.ledger (kept.unfollowed one);
      counted = subst (λ (l : Option Account). IsCounted l (widths_by s.sizes) c.push.new.self) (sym c.note_put.ensures)
          (subst (λ (qs : List Asked). IsCounted (ledger_put Asks s.ledger) (widths_by s.sizes) qs) (sym pushed) (put-counts (widths_by s.sizes) ps p s.ledger kept.counted));
      at_first = λ opened none. subst (IsAtFirst s.order c.note_put.new.ledger (widths_by s.sizes)) (sym (pushed ∙ ap (λ (qs : List Asked). qs ++ p ∷ []) begins.0)) first;
      ran = subst (λ (qs : List Asked). HasRun s.order end s.tickets (record { order = s.order; sizes = s.sizes; parked = s.parked.items; pending = qs }) s.mirror (following_of c.note_put.new.ledger s.sizes c.push.new.self)) (sym pushed)
          (subst (λ (f : Option Following). HasRun s.order end s.tickets (with_sizes_asked s.next_id (reading_of (view_of s))) s.mirror f) (sym follows)
          (ran-greeted s.end s.tickets (reading_of (view_of s)) s.mirror (following_of s.ledger s.sizes ps) 14 s.next_id bytes front kept.ran));
    })

pub returns : goal.returns
returns c =
    let front : front_of c.self.inside.end ≡ Whole Handshake 14 = ap (λ (d : Debugger). front_of d.end) c.self.view_is ∙ c.requires.front in
    let begins = c.self.invariant.begins (handshake-phase c.self.inside.end 14 front) in
    let none : c.args.self.now.pending ≡ [] = ap (λ (d : Debugger). d.pending) (sym c.self.view_is) ∙ begins.0 in
    let taken : c.take_off.new.self ≡ with_handled Handshake 14 c.self.inside.end = c.take_off.ensures Handshake front in
    search rules

pub take_off-requires : goal.take_off-requires
take_off-requires c = (Handshake, ap (λ (d : Debugger). front_of d.end) c.self.view_is ∙ c.requires.front)

pub invariant_of-self : goal.invariant_of-self
invariant_of-self c =
    still c.self.inside _ (ap (λ (qs : List Asked). record (view_of c.self.inside) { pending = qs }) (sym c.in_err-push.ensures.err)) c.self.invariant
