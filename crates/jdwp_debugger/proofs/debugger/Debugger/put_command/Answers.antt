use Rattle.std.proofs.Common.{◌≡◌, ◌∙◌, ◌+◌, ◌≤◌, ◌++◌, ap, sym, subst, length, false, List, [], ◌∷◌, ℕ, Option, None, Some, ◌<◌, refl}
use Rattle.jdwp_apart.specs.Following.{Following, put_to}
use Rattle.jdwp_watch.specs.declared.put.Put.{Put}
use Rattle.jdwp_watch.specs.Ledgers.{Account, put_of}
use Rattle.jdwp_debugger.specs.FollowingKept.{IsCounted, following_of, ledger_put}
use Rattle.jdwp_debugger.specs.News.{widths_by}
use Rattle.jdwp_debugger.proofs.Followed.{asked-follows, put-counts, put-none}
use Rattle.jdwp_end.specs.declared.phase.Phase.TheVariants.{AwaitingHandshake, Established}
use Rattle.jdwp_end.specs.Ends.{End, with_enqueued}
use Rattle.jdwp_wire.specs.Frames.{IsPacket}
use Rattle.jdwp_action.specs.CommandPackets.{carried_bytes}
use Rattle.jdwp_debugger.specs.Asking.{IsNextFree, asked, command_bytes, command_header, id_after, is_outstanding, refusal_of_ask}
use Rattle.jdwp_debugger.specs.Debuggers.{AreDistinct, AreOwn, Asked, Begins, Debugger}
use Rattle.jdwp_debugger.specs.DebuggersKept.{view_of}
use Rattle.jdwp_debugger.specs.DebuggerTurns.{reading_of}
use Rattle.jdwp_debugger.specs.Runs.{HasRun}
use Rattle.jdwp_debugger.proofs.DebuggerRuns.{ran-asked, with_command}
use Rattle.jdwp_debugger.proofs.Admitting.{asked-established}
use Rattle.jdwp_debugger.proofs.Keeping.{distinct-more, own-more}
use Rattle.jdwp_debugger.proofs.Still.{established, few-more, some-not, still}
use Rattle.jdwp_debugger.proofs.debugger.Debugger.put_command.Goals as goal

pub invariant_of-self-2 : goal.invariant_of-self-2
invariant_of-self-2 c =
    let s = c.self.inside in
    let kept = c.self.invariant in
    let leaves = c.in_ok-write_packet.ensures.ok in
    let id = c.next_free-id.result in
    let ps = s.pending in
    let p : Asked = record { id = id; ticket = Some (record { 0 = s.tickets + 1 }); command = c.args.command } in
    let end : End = with_enqueued (command_bytes leaves.widths id c.args.command) s.end in
    let asked : c.enqueue.new.self ≡ end = c.enqueue.ensures ∙ ap (λ (b : List ℕ). with_enqueued b s.end) (c.deref.ensures.value ∙ leaves.bytes_are) in
    let known = leaves.known in
    let pushed : c.push.new.self ≡ ps ++ p ∷ [] = c.in_ok-push.ensures.ok in
    let room : length ps < s.end.limits.pending = leaves.few in
    let few : length c.push.new.self ≤ s.end.limits.pending = subst (λ (qs : List Asked). length qs ≤ s.end.limits.pending) (sym pushed) (few-more ps p s.end.limits.pending room) in
    let free : is_outstanding ps id ≡ false = c.next_free-id.ensures.free in
    let phase : s.end.phase ≡ Established = asked-established (view_of s) c.args.command leaves.widths leaves.unrefused known kept.begins in
    let noted : c.note_put.new.ledger ≡ ledger_put (put_of c.args.command) s.ledger = c.note_put.ensures ∙ c.put_where_followed-put.ensures in
    let follows : following_of c.note_put.new.ledger s.sizes c.push.new.self ≡ put_to leaves.widths c.args.command (following_of s.ledger s.sizes ps) =
    asked-follows s.ledger c.note_put.new.ledger s.sizes leaves.widths ps c.push.new.self p known pushed noted in
    rw asked
    (record {
      limits = kept.limits;
      few = few;
      few_parked = kept.few_parked;
      distinct = subst AreDistinct (sym pushed) (distinct-more ps p kept.distinct free);
      own = subst AreOwn (sym pushed) (own-more ps p (λ none. absurd (some-not _ none)) kept.own);
      begins = λ e. absurd (established (sym phase ∙ e));
      alone = λ opened none. absurd (some-not leaves.widths (sym known ∙ none));
      unlearned = λ none. absurd (some-not leaves.widths (sym known ∙ none));
      unparked = kept.unparked;
      unfollowed = λ one. noted ∙ put-none (put_of c.args.command) s.ledger (kept.unfollowed one);
      counted = subst (λ (l : Option Account). IsCounted l (widths_by s.sizes) c.push.new.self) (sym noted)
          (subst (λ (qs : List Asked). IsCounted (ledger_put (put_of c.args.command) s.ledger) (widths_by s.sizes) qs) (sym pushed) (put-counts (widths_by s.sizes) ps p s.ledger kept.counted));
      at_first = λ opened none. absurd (some-not leaves.widths (sym known ∙ none));
      ran = subst (λ (qs : List Asked). HasRun s.order end (s.tickets + 1) (record { order = s.order; sizes = s.sizes; parked = s.parked.items; pending = qs }) s.mirror (following_of c.note_put.new.ledger s.sizes c.push.new.self)) (sym pushed)
          (subst (λ (f : Option Following). HasRun s.order end (s.tickets + 1) (with_command id s.tickets c.args.command (reading_of (view_of s))) s.mirror f) (sym follows)
          (ran-asked s.end s.tickets (reading_of (view_of s)) s.mirror (following_of s.ledger s.sizes ps) leaves.widths id c.args.command phase known free leaves.encoded kept.ran));
    })

pub push-requires : goal.push-requires
push-requires c = c.next_free-id.ensures.free

pub returns-clause-ok : goal.returns-clause-ok
returns-clause-ok c =
    let s = c.self.inside in
    let leaves = c.in_ok-write_packet.ensures.ok in
    let old = c.args.self.now in
    let command = c.args.command in
    let id = c.next_free-id.result in
    let begins : old.end.phase ≡ AwaitingHandshake → Begins old = subst (λ (d : Debugger). d.end.phase ≡ AwaitingHandshake → Begins d) c.self.view_is c.self.invariant.begins in
    let unrefused : refusal_of_ask old command ≡ None = subst (λ (d : Debugger). refusal_of_ask d command ≡ None) c.self.view_is leaves.unrefused in
    let known = sym (ap (λ (d : Debugger). d.sizes) c.self.view_is) ∙ leaves.known in
    let sendable = subst (λ (d : Debugger). IsPacket d.end.limits.packet (command_header leaves.widths id command) (carried_bytes leaves.widths command.carried)) c.self.view_is leaves.sendable in
    let established = asked-established old command leaves.widths unrefused known begins in
    let p : Asked = record { id = id; ticket = Some (record { 0 = s.tickets + 1 }); command = command } in
    let end : c.enqueue.new.self ≡ with_enqueued (command_bytes leaves.widths id command) s.end = c.enqueue.ensures ∙ ap (λ (b : List ℕ). with_enqueued b s.end) (c.deref.ensures.value ∙ leaves.bytes_are) in
    let pushed : c.push.new.self ≡ s.pending ++ p ∷ [] = c.in_ok-push.ensures.ok in
    let noted : c.note_put.new.ledger ≡ ledger_put (put_of command) s.ledger = c.note_put.ensures ∙ c.put_where_followed-put.ensures in
    let next : IsNextFree old.pending old.next_id id = subst (λ (d : Debugger). IsNextFree d.pending d.next_id id) c.self.view_is c.next_free-id.ensures in
    let whole : record (view_of s) { end = c.enqueue.new.self; pending = c.push.new.self; next_id = id_after id 1; tickets = s.tickets + 1; ledger = c.note_put.new.ledger } ≡ asked leaves.widths id command (view_of s) =
    (λ j. record (view_of s) { end = end j; pending = pushed j; next_id = id_after id 1; tickets = s.tickets + 1; ledger = noted j }) in (
      unrefused,
      ap (λ (d : Debugger). d.tickets + 1) c.self.view_is,
      record {
        established = established;
        widths = leaves.widths;
        known = known;
        id = id;
        next = next;
        encoded = leaves.encoded;
        sendable = sendable;
        is = whole ∙ ap (λ (d : Debugger). asked leaves.widths id command d) c.self.view_is;
      },
    )

pub invariant_of-self-in_err-write_packet : goal.invariant_of-self-in_err-write_packet
invariant_of-self-in_err-write_packet c = still c.self.inside _ refl c.self.invariant

pub invariant_of-self-in_err-check_room : goal.invariant_of-self-in_err-check_room
invariant_of-self-in_err-check_room c = still c.self.inside _ refl c.self.invariant

pub invariant_of-self-in_err-push : goal.invariant_of-self-in_err-push
invariant_of-self-in_err-push c =
    still c.self.inside _ (ap (λ (qs : List Asked). record (view_of c.self.inside) { pending = qs }) (sym c.in_err-push.ensures.err)) c.self.invariant
