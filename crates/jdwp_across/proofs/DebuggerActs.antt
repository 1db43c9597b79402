-- what each act of the debugger leaves
use Rattle.std.proofs.Common.{◌≡◌, ℕ, ◌+◌, inl, inr, Bool, true, false, ◌||◌, ◌&&◌, not, cond, Option, Some, None, List, [], ◌∷◌, ◌++◌, length, drop, Ok, Result, refl, sym, ◌∙◌, ap, subst}
use Rattle.std.specs.Prelude.{nat_le, remove}
use Rattle.std.specs.List.{list_any}
use Rattle.std.specs.Option.{option_map}
use Rattle.std.proofs.lemmas.List.{append-nil, append_assoc, map-append}
use Rattle.jdwp_wire.specs.Streams as streams
use Rattle.jdwp_wire.specs.Streams.{More, stream, IsFront}
use Rattle.jdwp_wire.specs.Frames.{header_bytes}
use Rattle.jdwp_wire.specs.Widths.{Widths}
use Rattle.jdwp_wire.specs.declared.packet.Header.{Header}
use Rattle.jdwp_end.specs.Ends.{front_of, is_open, is_paused, next_of}
use Rattle.jdwp_machine.specs.Meanings.{Meaning}
use Rattle.jdwp_action.specs.Actions.{Command}
use Rattle.jdwp_debuggee.specs.Settings.{Settings}
use Rattle.jdwp_mirror.specs.Messages.{LAST_TICKET, Report, Reply}
use Rattle.jdwp_mirror.specs.Mirror.{ends}
use Rattle.jdwp_target.specs.Targets.{Target}
use Rattle.jdwp_debugger.specs.Asking.{HasAsked, asked, refusal_by, refusal_of_ask}
use Rattle.jdwp_debugger.specs.Debuggers as debuggers
use Rattle.jdwp_debugger.specs.Debuggers.{Debugger, has_tickets, tickets_of}
use Rattle.jdwp_debugger.specs.DebuggerTurns as turns
use Rattle.jdwp_debugger.specs.DebuggerTurns.{Enters, Told, closed_where, measured_where, read_meaning}
use Rattle.jdwp_debugger.specs.News.{Answers, Happens, Measures, News, Waits}
use Rattle.jdwp_debugger.specs.declared.asking.Refused.{Refused}
use Rattle.jdwp_debugger.specs.declared.asking.Refused.TheVariants as refused
use Rattle.jdwp_debugger.specs.declared.faults.DebuggerFault.{DebuggerFault}
use Rattle.jdwp_debugger.specs.declared.heads.Head.{Head}
use Rattle.jdwp_debugger.specs.declared.pending.Ticket.{Ticket}
use Rattle.jdwp_debugger.specs.declared.turning.Read.{Read}
use Rattle.jdwp_debugger.specs.declared.turning.Read.TheVariants as reading
use Rattle.jdwp_model.specs.Events
use Rattle.jdwp_model.specs.Events.{AskRefusal}
use Rattle.jdwp_model.specs.Measures.{measured, message_size}
use Rattle.jdwp_model.specs.Next as model
use Rattle.jdwp_model.specs.World.{World, is_closed}
use Rattle.jdwp_link.specs.declared.events.Outcome.{Outcome}
use Rattle.jdwp_link.specs.declared.events.Outcome.TheVariants as outcome
use Rattle.jdwp_link.specs.EventParts.{is_left, lost_of, outcomes_of, told_did}
use Rattle.jdwp_link.specs.Laws.{Laws}
use Rattle.jdwp_link.specs.Links.{Link}
use Rattle.jdwp_link.specs.Stands.{Parts}
use Rattle.jdwp_link.specs.Told.{outcome_told, refusal_told, told_outcomes}
use Rattle.jdwp_link.specs.Wires.{message_sent, packets_sent, without_ids}
use Rattle.jdwp_link.proofs.Asking.{ask-parts, same-refusal}
use Rattle.jdwp_link.proofs.Finding.{debugger-has}
use Rattle.jdwp_link.proofs.Losing.{loses-debugger, loses-tells, lost-told, none-lost}
use Rattle.jdwp_link.proofs.Reading.{HandlesSo, read-turn}
use Rattle.jdwp_link.proofs.Settling.{none-left}
use Rattle.jdwp_link.proofs.Taking.{IsShut, Shuts, shut-lost, shut-parts}
use Rattle.jdwp_link.proofs.Turning.{front-closed, front-paused}
use Rattle.jdwp_across.specs.Programs as act
use Rattle.jdwp_across.specs.Programs.{Act, Programs, events_of, lost_with, settled, told_by, where_did}
use Rattle.jdwp_across.specs.Merges.{Agrees}
use Rattle.jdwp_across.specs.Standing.{debugger_at, far_from_debugger, far_from_target, joined, link_at, uncounted, unmeasured}
use Rattle.jdwp_across.proofs.Cutting.{cut-again, cut-some, debugger-after, far-less}
use Rattle.jdwp_across.proofs.Reached.{goes-idle, goes-one, known-across, reached-same}
use Rattle.jdwp_across.proofs.Standing.{Standing, Stands, debugger-keeps, debugger-sized, either, sized, stands-by, unpaused, way-none-target}
use Rattle.jdwp_across.proofs.Unmeasured.{read-uncounted, same-asks, uncounted_first}

-- ---- bytes come, and leave

pub comes-to-debugger : {S : Type 0} (m : Meaning S) (settings : Settings) (w : Widths) (first : World S) (acts : List Act) (old new : Programs S) (bytes : List ℕ) → Standing m settings w first acts old → Agrees new
    → new ≡ record old { debugger = debuggers.with_fed bytes old.debugger } → Stands m settings w first (acts ++ act.ComesToDebugger bytes ∷ []) new
comes-to-debugger m settings w first acts old new bytes b then is =
    let t = old.target in
    let d = old.debugger in
    let x = b.world in
    let l = joined t d in
    let front : IsFront (d.end.session.fed ++ bytes) t.end.session.enqueued = (subst Agrees is then).to_debugger in
    let fed = debuggers.with_fed bytes d in
    stands-by m settings w first acts old new (act.ComesToDebugger bytes) [] x t fed b (goes-idle m settings w (act.ComesToDebugger bytes) x refl refl)
    (debugger-after m settings w t d l.debugger fed l.target.end.incoming [] [] false x b.stands.parts (λ come. refl)
    (λ o. append_assoc d.end.incoming bytes (far_from_debugger t fed) ∙ (ap (λ q. d.end.incoming ++ q) (sym (far-less d.end.session.fed bytes t.end.session.enqueued front)) ∙ sym (append-nil l.debugger.end.incoming)))
    (sym (append-nil d.end.session.enqueued)) refl b.agrees.to_target)
    (ap (λ v. v.target) is) (ap (λ v. v.debugger) is)

pub leaves-debugger : {S : Type 0} (m : Meaning S) (settings : Settings) (w : Widths) (first : World S) (acts : List Act) (old new : Programs S) (bytes : List ℕ) → Standing m settings w first acts old
    → new ≡ record old { debugger = debuggers.with_taken bytes old.debugger } → Stands m settings w first (acts ++ act.LeavesDebugger bytes ∷ []) new
leaves-debugger m settings w first acts old new bytes b is =
    let x = b.world in
    let l = joined old.target old.debugger in
    stands-by m settings w first acts old new (act.LeavesDebugger bytes) [] x old.target (debuggers.with_taken bytes old.debugger) b (goes-idle m settings w (act.LeavesDebugger bytes) x refl refl)
    (debugger-after m settings w old.target old.debugger l.debugger (debuggers.with_taken bytes old.debugger) l.target.end.incoming [] [] false x b.stands.parts (λ come. refl)
    (λ o. sym (append-nil l.debugger.end.incoming)) (sym (append-nil old.debugger.end.session.enqueued)) refl b.agrees.to_target)
    (ap (λ v. v.target) is) (ap (λ v. v.debugger) is)

-- ---- it loses the connection

pub loses-at-debugger : {S : Type 0} (m : Meaning S) (settings : Settings) (w : Widths) (first : World S) (acts : List Act) (old new : Programs S) (lost : List Ticket) → Laws m → Standing m settings w first acts old
    → lost ≡ tickets_of old.debugger.pending → new ≡ record old { debugger = debuggers.lost_debugger old.debugger } → Stands m settings w first (acts ++ act.DebuggerLoses lost ∷ []) new
loses-at-debugger m settings w first acts old new lost laws b told is =
    let x = b.world in
    let l = joined old.target old.debugger in
    let known = known-across m laws.worlds settings w first acts x b.onward b.stands.reached in
    let z = model.debugger_closed x in
    let os = model.lost_tickets x.pending in
    stands-by m settings w first acts old new (act.DebuggerLoses lost) (Events.DebuggerLoses ∷ []) z old.target (debuggers.lost_debugger old.debugger) b
    (goes-one m settings w (act.DebuggerLoses lost) Events.DebuggerLoses x z os refl refl (ap lost_of told ∙ loses-tells m settings w l x known b.stands.parts))
    (debugger-after m settings w old.target old.debugger (debuggers.lost_debugger (debuggers.with_taken [] l.debugger)) (debuggers.lost_debugger old.debugger) l.target.end.incoming [] [] false z (loses-debugger m settings w l x false b.stands.parts) (λ come. refl)
    (λ o. absurd (cc)) (sym (append-nil old.debugger.end.session.enqueued)) refl b.agrees.to_target)
    (ap (λ v. v.target) is) (ap (λ v. v.debugger) is)

-- ---- a command

none-of : (o : Option AskRefusal) → option_map refusal_told o ≡ None → o ≡ None
none-of None h = refl
none-of (Some r) h = absurd (cc)

busy-less : (a p q l : Bool) (rest : Option Refused) → q ≡ false → cond (a || (p || l)) (Some refused.Busy) rest ≡ None → cond (a || (q || l)) (Some refused.Busy) rest ≡ None
busy-less true p q l rest e h = absurd (cc)
busy-less false true q l rest e h = absurd (cc)
busy-less false false q l rest e h = ap (λ b. cond (b || l) (Some refused.Busy) rest) e ∙ h

asks-flowing : (come : List ℕ) (d : Debugger) (c : Command) (o : Option Widths) → nat_le d.end.limits.packet 0 ≡ false → refusal_by o d c ≡ None → refusal_by o (debugger_at come [] d) c ≡ None
asks-flowing come d c None e h = h
asks-flowing come d c (Some w) e h = busy-less (nat_le d.end.limits.pending (length d.pending)) (is_paused d.end) (nat_le d.end.limits.packet 0) (nat_le LAST_TICKET d.tickets) _ e h

asks-open : (come : List ℕ) (d : Debugger) (c : Command) (b : Bool) → nat_le d.end.limits.packet 0 ≡ false → cond b (refusal_by d.sizes d c) (Some refused.Closed) ≡ None → cond b (refusal_by d.sizes (debugger_at come [] d) c) (Some refused.Closed) ≡ None
asks-open come d c true e h = asks-flowing come d c d.sizes e h
asks-open come d c false e h = h

ticket-is : (ticket : Ticket) (n : ℕ) → ticket.0 ≡ n → ticket ≡ record { 0 = n }
ticket-is ticket n e = ap (λ k. record { 0 = k }) e

pub asks-debugger : {S : Type 0} (m : Meaning S) (settings : Settings) (w : Widths) (first : World S) (acts : List Act) (old new : Programs S) (c : Command) (ticket : Ticket) → Laws m → Standing m settings w first acts old
    → refusal_of_ask old.debugger c ≡ None → ticket.0 ≡ old.debugger.tickets + 1 → HasAsked c old.debugger new.debugger → new.target ≡ old.target → Stands m settings w first (acts ++ act.DebuggerAsks c ticket ∷ []) new
asks-debugger m settings w first acts old new c ticket laws b free-to-ask given h same_t =
    let t = old.target in
    let d = old.debugger in
    let x = b.world in
    let size = sized m settings w first acts old b in
    let l = joined t d in
    let some = debugger-sized m settings w t d x size b.stands.parts in
    let keeps = debugger-keeps l.debugger.end.incoming d b.keeps in
    let unrefused : refusal_of_ask l.debugger c ≡ None = asks-open l.debugger.end.incoming d c (is_open d.end) (unpaused d.end.limits.packet some) free-to-ask in
    let goes : model.ask_refusal settings (measured w settings.limits) x c ≡ None = none-of _ (sym (same-refusal m settings w l x c laws.finds keeps b.stands.parts) ∙ unrefused) in
    let unmeasured-goes = same-asks settings w x c size.some (way-none-target m settings w t d x laws.finds size b.stands.parts) ∙ goes in
    let u = asked h.widths h.id c l.debugger in
    let done : HasAsked c l.debugger u = record { established = h.established; widths = h.widths; known = h.known; id = h.id; next = h.next; encoded = h.encoded; sendable = h.sendable; is = refl } in
    let after = ask-parts m settings w l x c u b.stands.parts done in
    let z = model.asks x c in
    let told = ap (λ k. outcome.Asked k ∷ []) (ticket-is ticket (x.asked + 1) (given ∙ ap (λ n. n + 1) b.stands.parts.debugger.tickets)) in
    stands-by m settings w first acts old new (act.DebuggerAsks c ticket) (Events.Ask c ∷ []) z t (asked h.widths h.id c d) b
    (goes-one m settings w (act.DebuggerAsks c ticket) (Events.Ask c) x z (Events.Asked (x.asked + 1) ∷ []) refl (ap (model.ask_by (uncounted x) c) unmeasured-goes) told)
    (debugger-after m settings w t d u (asked h.widths h.id c d) l.target.end.incoming [] [] false z after (λ come. refl)
    (λ o. sym (append-nil l.debugger.end.incoming)) refl refl b.agrees.to_target)
    same_t h.is

-- ---- what says nothing of a world

-- what was read last, and which id the next packet has
abbrev pub another : List Head → ℕ → Debugger → Debugger
another last id d = record d { last = last; next_id = id }

parts-another : {S : Type 0} (m : Meaning S) (settings : Settings) (w : Widths) (t : Target S) (d : Debugger) (x : World S) (last : List Head) (id : ℕ) → Parts m settings w (joined t d) x
    → Parts m settings w (record (joined t d) { debugger = another last id (joined t d).debugger }) x
parts-another m settings w t d x last id s = record {
  target = s.target;
  debugger = record {
    order = s.debugger.order;
    limits = s.debugger.limits;
    phase = s.debugger.phase;
    tickets = s.debugger.tickets;
    mirror = s.debugger.mirror;
    opened = λ o. let q = s.debugger.opened o in record { sizes = q.sizes; parked = q.parked; pending = q.pending; ticketed = q.ticketed };
    none_waits = s.debugger.none_waits;
  };
  to = record { wires = s.to.wires; calls = s.to.calls; sent = s.to.sent; cut = record { number = s.to.cut.number; there = s.to.cut.there; left = s.to.cut.left }; kept = s.to.kept };
  deferred = s.deferred;
  from = record { wires = s.from.wires; packets = s.from.packets; sent = s.from.sent; cut = record { number = s.from.cut.number; there = s.from.cut.there; left = s.from.cut.left }; kept = s.from.kept; awaits = s.from.awaits };
}

-- an act that changes nothing else
pub stays-another : {S : Type 0} (m : Meaning S) (settings : Settings) (w : Widths) (first : World S) (acts : List Act) (old new : Programs S) (a : Act) (last : List Head) (id : ℕ) → Standing m settings w first acts old
    → events_of a ≡ [] → told_by a ≡ [] → new.target ≡ old.target → new.debugger ≡ another last id old.debugger → Stands m settings w first (acts ++ a ∷ []) new
stays-another m settings w first acts old new a last id b none told same_t is =
    let t = old.target in
    let d = old.debugger in
    let x = b.world in
    let l = joined t d in
    stands-by m settings w first acts old new a [] x t (another last id d) b (goes-idle m settings w a x none told)
    (debugger-after m settings w t d (another last id l.debugger) (another last id d) l.target.end.incoming [] [] false x (parts-another m settings w t d x last id b.stands.parts) (λ come. refl)
    (λ o. sym (append-nil l.debugger.end.incoming)) (sym (append-nil d.end.session.enqueued)) refl b.agrees.to_target)
    same_t is

pub numbers-debugger : {S : Type 0} (m : Meaning S) (settings : Settings) (w : Widths) (first : World S) (acts : List Act) (old new : Programs S) (id : ℕ) → Standing m settings w first acts old
    → new ≡ record old { debugger = record old.debugger { next_id = id } } → Stands m settings w first (acts ++ act.DebuggerNumbers id ∷ []) new
numbers-debugger m settings w first acts old new id b is =
    stays-another m settings w first acts old new (act.DebuggerNumbers id) old.debugger.last id b refl refl (ap (λ v. v.target) is) (ap (λ v. v.debugger) is)

-- ---- a turn

-- only what was fed has come to the debugger
pub fed-parts : {S : Type 0} (m : Meaning S) (settings : Settings) (w : Widths) (t : Target S) (d : Debugger) (x : World S) → is_closed x.debugger ≡ false → Parts m settings w (joined t d) x
    → Parts m settings w (link_at t d (t.end.incoming ++ far_from_target t d) (far_from_debugger t d) d.end.incoming []) (record x { at_debugger = length d.end.incoming })
fed-parts m settings w t d x o s =
    cut-again m settings w (joined t d) x x.at_target (length d.end.incoming) (t.end.incoming ++ far_from_target t d) (far_from_debugger t d) t.end.session d.end.incoming [] d.end.session s refl
    (record { number = s.to.cut.number; there = s.to.cut.there; left = s.to.cut.left })
    (cut-some x.at_debugger (stream (packets_sent w s.from.wires)) d.end.incoming (far_from_debugger t d) (joined t d).debugger.end _ (is_closed x.debugger) o refl refl s.from.cut)

-- a debugger at which nothing waits to leave does the same, and then what it puts waits
pub record Twin (d : Debugger) (after : Debugger) : Type 0 where
  pub more : List ℕ
  pub put : after.end.session.enqueued ≡ d.end.session.enqueued ++ more
  pub fed : after.end.session.fed ≡ d.end.session.fed

pub record DoesSo (message : streams.Message) (used : ℕ) (d : Debugger) (t : Told) (after : Debugger) : Type 0 where
  pub twin : Twin d after
  pub so : HandlesSo message used (debugger_at d.end.incoming [] d) t (debugger_at after.end.incoming twin.more after)
  pub did : told_did t ≡ true

-- as it closes or not, its buffers apart
closed-at : (i o : List ℕ) (b : Bool) (d : Debugger) → debugger_at i o (closed_where b d) ≡ closed_where b (debugger_at i o d)
closed-at i o true d = refl
closed-at i o false d = refl

measured-at : (i o : List ℕ) (b : Bool) (w : Widths) (d : Debugger) → debugger_at i o (measured_where b w d) ≡ measured_where b w (debugger_at i o d)
measured-at i o true w d = refl
measured-at i o false w d = refl

-- closing leaves the buffers and the session
pub record Leaves (d e : Debugger) : Type 0 where
  pub came : e.end.incoming ≡ d.end.incoming
  pub put : e.end.session.enqueued ≡ d.end.session.enqueued
  pub fed : e.end.session.fed ≡ d.end.session.fed

closed-leaves : (b : Bool) (d : Debugger) → Leaves d (closed_where b d)
closed-leaves true d = record { came = refl; put = refl; fed = refl }
closed-leaves false d = record { came = refl; put = refl; fed = refl }

measured-leaves : (b : Bool) (w : Widths) (d : Debugger) → Leaves d (measured_where b w d)
measured-leaves true w d = record { came = refl; put = refl; fed = refl }
measured-leaves false w d = record { came = refl; put = refl; fed = refl }

twin-of : (d base after : Debugger) → Leaves base after → base.end.session.enqueued ≡ d.end.session.enqueued → base.end.session.fed ≡ d.end.session.fed → Twin d after
twin-of d base after l a b = record { more = []; put = l.put ∙ (a ∙ sym (append-nil d.end.session.enqueued)); fed = l.fed ∙ b }

-- a packet calls for nothing to be put
so-packet : (header : Header) (body : List ℕ) (used : ℕ) (d : Debugger) (t : Told) (after : Debugger) (news : News) → Enters (streams.Packet header body) used header news d t after
    → (twin : Twin d after) × (twin.more ≡ []) × Enters (streams.Packet header body) used header news (debugger_at d.end.incoming [] d) t (debugger_at after.end.incoming [] after) × (told_did t ≡ true)
unfolding twin-of
so-packet header body used d t after (Waits bytes) (told, is) = (
  record { more = []; put = ap (λ v. v.end.session.enqueued) is ∙ sym (append-nil d.end.session.enqueued); fed = ap (λ v. v.end.session.fed) is },
  refl,
  (told, ap (λ v. debugger_at v.end.incoming [] v) is),
  ap told_did told,
)
so-packet header body used d t after (Happens c) (told, (mirror, learned, ledger, follows, is)) =
    let base = record (turns.with_read (streams.Packet header body) used _ d) { mirror = mirror; ledger = ledger } in
    let leaves = subst (Leaves base) (sym is) (closed-leaves (ends (Report c)) base) in (
      twin-of d base after leaves refl refl,
      refl,
      (told, (mirror, learned, ledger, follows, ap (λ v. debugger_at v.end.incoming [] v) is ∙ (ap (λ i. debugger_at i [] (closed_where (ends (Report c)) base)) (closed-leaves (ends (Report c)) base).came ∙ closed-at base.end.incoming [] (ends (Report c)) base))),
      ap told_did told,
    )
so-packet header body used d t after (Answers place ticket answer) (told, (mirror, learned, ledger, follows, is)) =
    let message = Reply (Some ticket) (turns.command_at place d.pending) answer in
    let base = record (turns.with_read (streams.Packet header body) used _ d) { mirror = mirror; pending = remove d.pending place; ledger = ledger } in
    let leaves = subst (Leaves base) (sym is) (closed-leaves (ends message) base) in (
      twin-of d base after leaves refl refl,
      refl,
      (told, (mirror, learned, ledger, follows, ap (λ v. debugger_at v.end.incoming [] v) is ∙ (ap (λ i. debugger_at i [] (closed_where (ends message) base)) (closed-leaves (ends message) base).came ∙ closed-at base.end.incoming [] (ends message) base))),
      ap told_did told,
    )
so-packet header body used d t after (Measures place answer v cs) (told, (mirror, learned, ledger, follows, is)) =
    let base = turns.with_ledger ledger (turns.with_sizes (streams.Packet header body) used header place mirror v d) in
    let b = list_any ends (turns.reports cs) in
    let leaves = subst (Leaves base) (sym is) (measured-leaves b v base) in (
      twin-of d base after leaves refl refl,
      refl,
      (told, (mirror, learned, ledger, follows, ap (λ q. debugger_at q.end.incoming [] q) is ∙ (ap (λ i. debugger_at i [] (measured_where b v base)) (measured-leaves b v base).came ∙ measured-at base.end.incoming [] b v base))),
      ap told_did told,
    )

-- a handshake calls for IDSizes
does-so : (message : streams.Message) (used : ℕ) (d : Debugger) (t : Told) (after : Debugger) → HandlesSo message used d t after → DoesSo message used d t after
does-so streams.Handshake used d t after (told, none, is) = record {
  twin = record { more = header_bytes (turns.sizes_header d.next_id); put = ap (λ v. v.end.session.enqueued) is; fed = ap (λ v. v.end.session.fed) is };
  so = (told, none, ap (λ v. debugger_at v.end.incoming (header_bytes (turns.sizes_header d.next_id)) v) is);
  did = ap told_did told;
}
does-so (streams.Packet header body) used d t after h =
    let (twin, none, entered, did) = so-packet header body used d t after h.news h.entered in
    record {
      twin = twin;
      so = record { news = h.news; said = h.said; unrefused = h.unrefused; entered = subst (λ o. Enters (streams.Packet header body) used header h.news (debugger_at d.end.incoming [] d) t (debugger_at after.end.incoming o after)) (sym none) entered };
      did = did;
    }

-- a turn that answers, of a message
reads-so : (message : streams.Message) (used : ℕ) (old : Debugger) (r : Read) (after : Debugger) → turns.HandlesAt message used old (Ok r) after → HandlesSo message used old (read_meaning r) after
reads-so streams.Handshake used old r after h = h
reads-so (streams.Packet header body) used old r after h = h

-- ---- nothing is read

abbrev answers : Read → Result Read DebuggerFault
answers r = Ok r

pub none-read : (r : Read) → answers r ≡ answers reading.Nothing → r ≡ reading.Nothing
none-read r h = cc

read-none : {S : Type 0} (m : Meaning S) (settings : Settings) (w : Widths) (first : World S) (acts : List Act) (old new : Programs S) (r : Read) (lost : List Ticket) (after : Debugger) → Standing m settings w first acts old → front_of old.debugger.end ≡ More
    → turns.TurnsAt (front_of old.debugger.end) old.debugger (Ok r) after → lost ≡ lost_with (is_left after) after → new ≡ record old { debugger = settled (is_left after) after } → Stands m settings w first (acts ++ act.DebuggerTurns r lost ∷ []) new
read-none m settings w first acts old new r lost after b front so gone is =
    let t = old.target in
    let d = old.debugger in
    let x = b.world in
    let (told, same) = subst (λ f. turns.TurnsAt f d (Ok r) after) front so in
    let nothing = none-read r told in
    let kept : is_left after ≡ false = ap is_left same ∙ none-left m settings w (joined t d) x (is_closed x.debugger) b.stands.parts refl in
    let left : settled (is_left after) after ≡ another [] d.next_id d = ap (λ q. settled q after) kept ∙ same in
    let none : lost ≡ [] = gone ∙ ap (λ q. lost_with q after) kept in
    stays-another m settings w first acts old new (act.DebuggerTurns r lost) [] d.next_id b
    (ap (λ q. where_did (told_did (read_meaning q)) Events.DebuggerTurn) nothing)
    (ap (λ q. told_outcomes (outcomes_of (read_meaning q)) ++ lost_of lost) nothing ∙ ap lost_of none)
    (ap (λ v. v.target) is) (ap (λ v. v.debugger) is ∙ left)

-- ---- a message is read

-- What is known where a message is read: what the turn leaves of the model, as far as the debugger's end is open, and what it tells.
pub record ReadsSo {S : Type 0} (m : Meaning S) (settings : Settings) (w : Widths) (first : World S) (acts : List Act) (old : Programs S) (r : Read) (after : Debugger) (z : World S) (closes : Bool) : Type 0 where
  pub standing : Standing m settings w first acts old
  pub twin : Twin old.debugger after
  pub did : told_did (read_meaning r) ≡ true
  pub opened : is_closed z.debugger ≡ false
  pub goes : model.next m settings (unmeasured w settings.limits) (uncounted standing.world) Events.DebuggerTurn ≡ uncounted_first (model.closes_by z (outcomes_of (read_meaning r)) closes)

-- the link in which what was fed alone has come to the debugger, with another debugger
abbrev reading_link : {S : Type 0} → Programs S → Debugger → Link S
reading_link old d = record (link_at old.target old.debugger (old.target.end.incoming ++ far_from_target old.target old.debugger) (far_from_debugger old.target old.debugger) old.debugger.end.incoming []) { debugger = d; did = true }

told-with : (os : List Events.Outcome) (more : List Events.Outcome) (lost : List Outcome) → lost ≡ told_outcomes more → told_outcomes os ++ lost ≡ told_outcomes (os ++ more)
told-with os more lost e = ap (λ q. told_outcomes os ++ q) e ∙ sym (map-append outcome_told os more)

-- its end stays open
read-open : {S : Type 0} (m : Meaning S) (settings : Settings) (w : Widths) (first : World S) (acts : List Act) (old new : Programs S) (r : Read) (lost : List Ticket) (after : Debugger) (z : World S) → (h : ReadsSo m settings w first acts old r after z false)
    → Parts m settings w (reading_link old (debugger_at after.end.incoming h.twin.more after)) z
    → lost ≡ lost_with (is_left after) after → new ≡ record old { debugger = settled (is_left after) after } → Stands m settings w first (acts ++ act.DebuggerTurns r lost ∷ []) new
read-open m settings w first acts old new r lost after z h parts gone is =
    let t = old.target in
    let d = old.debugger in
    let b = h.standing in
    let twin = h.twin in
    let v = debugger_at after.end.incoming twin.more after in
    let none : is_left after ≡ false = none-left m settings w (reading_link old v) z false parts h.opened in
    let left : settled (is_left after) after ≡ after = ap (λ q. settled q after) none in
    let os = outcomes_of (read_meaning r) in
    let told : told_by (act.DebuggerTurns r lost) ≡ told_outcomes os = ap (λ k. told_outcomes os ++ lost_of k) (gone ∙ ap (λ q. lost_with q after) none) ∙ append-nil (told_outcomes os) in
    stands-by m settings w first acts old new (act.DebuggerTurns r lost) (Events.DebuggerTurn ∷ []) z t after b
    (goes-one m settings w (act.DebuggerTurns r lost) Events.DebuggerTurn b.world z os (ap (λ q. where_did q Events.DebuggerTurn) h.did) h.goes told)
    (debugger-after m settings w t d v after (t.end.incoming ++ far_from_target t d) (far_from_debugger t d) [] true z parts (λ come. refl)
    (λ q. ap (λ k. after.end.incoming ++ drop (length k) t.end.session.enqueued) twin.fed) twin.put refl b.agrees.to_target)
    (ap (λ q. q.target) is) (ap (λ q. q.debugger) is ∙ left)

-- it closes, and tickets that wait are lost
read-shut : {S : Type 0} (m : Meaning S) (settings : Settings) (w : Widths) (first : World S) (acts : List Act) (old new : Programs S) (r : Read) (lost : List Ticket) (after unshut : Debugger) (z : World S) (waits : Bool) → (h : ReadsSo m settings w first acts old r after z true)
    → has_tickets after.pending ≡ waits → IsShut unshut (debugger_at after.end.incoming h.twin.more after) → Parts m settings w (reading_link old unshut) z
    → lost ≡ lost_with (is_left after) after → new ≡ record old { debugger = settled (is_left after) after } → Stands m settings w first (acts ++ act.DebuggerTurns r lost ∷ []) new
read-shut m settings w first acts old new r lost after unshut z true h waits shut parts gone is =
    let t = old.target in
    let d = old.debugger in
    let b = h.standing in
    let twin = h.twin in
    let v = debugger_at after.end.incoming twin.more after in
    let t_in = t.end.incoming ++ far_from_target t d in
    let far = far_from_debugger t d in
    let l = link_at t d t_in far d.end.incoming [] in
    let closed : is_open after.end ≡ false = ap is_open shut.end in
    let all : is_left after ≡ true = ap (λ q. not q && has_tickets after.pending) closed ∙ waits in
    let left : settled (is_left after) after ≡ debuggers.lost_debugger after = ap (λ q. settled q after) all in
    let os = outcomes_of (read_meaning r) in
    let more : lost_of lost ≡ told_outcomes (model.lost_tickets z.pending) =
    ap lost_of (gone ∙ ap (λ q. lost_with q after) all) ∙ (ap (λ ps. lost_of (tickets_of ps)) shut.pending ∙ (lost-told unshut.pending ∙ ap (λ ps. told_outcomes (model.lost_tickets ps)) (parts.debugger.opened h.opened).pending)) in
    stands-by m settings w first acts old new (act.DebuggerTurns r lost) (Events.DebuggerTurn ∷ []) (model.debugger_closed z) t (debuggers.lost_debugger after) b
    (goes-one m settings w (act.DebuggerTurns r lost) Events.DebuggerTurn b.world (model.debugger_closed z) (os ++ model.lost_tickets z.pending) (ap (λ q. where_did q Events.DebuggerTurn) h.did) h.goes (told-with os (model.lost_tickets z.pending) (lost_of lost) more))
    (debugger-after m settings w t d (debuggers.lost_debugger (debuggers.with_taken v.end.outgoing v)) (debuggers.lost_debugger after) t_in far twin.more true (model.debugger_closed z) (shut-lost m settings w l z unshut v true shut parts) (λ come. refl)
    (λ o. absurd (cc)) (twin.put ∙ ap (λ k. d.end.session.enqueued ++ k) (sym (append-nil twin.more))) refl b.agrees.to_target)
    (ap (λ q. q.target) is) (ap (λ q. q.debugger) is ∙ left)
read-shut m settings w first acts old new r lost after unshut z false h waits shut parts gone is =
    let t = old.target in
    let d = old.debugger in
    let b = h.standing in
    let twin = h.twin in
    let v = debugger_at after.end.incoming twin.more after in
    let t_in = t.end.incoming ++ far_from_target t d in
    let far = far_from_debugger t d in
    let l = link_at t d t_in far d.end.incoming [] in
    let closed : is_open after.end ≡ false = ap is_open shut.end in
    let kept : is_left after ≡ false = ap (λ q. not q && has_tickets after.pending) closed ∙ waits in
    let left : settled (is_left after) after ≡ after = ap (λ q. settled q after) kept in
    let os = outcomes_of (read_meaning r) in
    let none : lost_of lost ≡ [] = ap lost_of (gone ∙ ap (λ q. lost_with q after) kept) in
    let more : lost_of lost ≡ told_outcomes (model.lost_tickets z.pending) =
    none ∙ (sym (ap lost_of (none-lost after.pending waits)) ∙ (ap (λ ps. lost_of (tickets_of ps)) shut.pending ∙ (lost-told unshut.pending ∙ ap (λ ps. told_outcomes (model.lost_tickets ps)) (parts.debugger.opened h.opened).pending))) in
    stands-by m settings w first acts old new (act.DebuggerTurns r lost) (Events.DebuggerTurn ∷ []) (model.debugger_closed z) t after b
    (goes-one m settings w (act.DebuggerTurns r lost) Events.DebuggerTurn b.world (model.debugger_closed z) (os ++ model.lost_tickets z.pending) (ap (λ q. where_did q Events.DebuggerTurn) h.did) h.goes (told-with os (model.lost_tickets z.pending) (lost_of lost) more))
    (debugger-after m settings w t d v after t_in far [] true (model.debugger_closed z) (shut-parts m settings w l z unshut v true shut (ap has_tickets (sym shut.pending) ∙ waits) parts) (λ come. refl)
    (λ o. absurd (cc)) twin.put refl b.agrees.to_target)
    (ap (λ q. q.target) is) (ap (λ q. q.debugger) is ∙ left)

-- by whether it closes
read-by : {S : Type 0} (m : Meaning S) (settings : Settings) (w : Widths) (first : World S) (acts : List Act) (old new : Programs S) (r : Read) (lost : List Ticket) (after unshut : Debugger) (z : World S) (closes : Bool) → (h : ReadsSo m settings w first acts old r after z closes)
    → Shuts closes unshut (debugger_at after.end.incoming h.twin.more after) → Parts m settings w (reading_link old unshut) z
    → lost ≡ lost_with (is_left after) after → new ≡ record old { debugger = settled (is_left after) after } → Stands m settings w first (acts ++ act.DebuggerTurns r lost ∷ []) new
read-by m settings w first acts old new r lost after unshut z false h shuts parts gone is =
    read-open m settings w first acts old new r lost after z h (subst (λ q. Parts m settings w (reading_link old q) z) (sym shuts) parts) gone is
read-by m settings w first acts old new r lost after unshut z true h shuts parts gone is =
    read-shut m settings w first acts old new r lost after unshut z (has_tickets after.pending) h refl shuts parts gone is

goes-by : {S : Type 0} (freely turn left : World S × List Events.Outcome) → freely ≡ uncounted_first turn → turn ≡ left → freely ≡ uncounted_first left
goes-by freely turn left a b = a ∙ ap uncounted_first b

reads-open : {S : Type 0} (m : Meaning S) (settings : Settings) (w : Widths) (first : World S) (acts : List Act) (old new : Programs S) (r : Read) (lost : List Ticket) (after : Debugger) → Laws m → (b : Standing m settings w first acts old)
    → is_closed b.world.debugger ≡ false → is_paused old.debugger.end ≡ false
    → turns.TurnsAt (front_of old.debugger.end) old.debugger (Ok r) after → lost ≡ lost_with (is_left after) after → new ≡ record old { debugger = settled (is_left after) after } → Stands m settings w first (acts ++ act.DebuggerTurns r lost ∷ []) new
reads-open m settings w first acts old new r lost after laws b o p so gone is =
    let t = old.target in
    let d = old.debugger in
    let x = b.world in
    let size = sized m settings w first acts old b in
    let l = link_at t d (t.end.incoming ++ far_from_target t d) (far_from_debugger t d) d.end.incoming [] in
    let y = record x { at_debugger = length d.end.incoming } in
    let parts = fed-parts m settings w t d x o b.stands.parts in
    let known = known-across m laws.worlds settings w first acts y b.onward (reached-same m settings w first acts x y refl b.stands.reached) in
    let some = debugger-sized m settings w t d x size b.stands.parts in
    let keeps = debugger-keeps d.end.incoming d b.keeps in
    let front : front_of l.debugger.end ≡ front_of d.end = ap (λ q. cond q More (next_of d.end)) (unpaused d.end.limits.packet some ∙ sym p) in
    elim (debugger-has m settings w l y laws.finds size.small known parts) [
      | inl h ↦ read-none m settings w first acts old new r lost after b (sym front ∙ h.front) so gone is
      | inr h ↦
          let message = message_sent w h.id h.packet.0 in
          let used = message_size w h.packet.0 in
          let handles = reads-so message used d r after (subst (λ f. turns.TurnsAt f d (Ok r) after) (sym front ∙ h.front) so) in
          let does = does-so message used d (read_meaning r) after handles in
          let u = debugger_at after.end.incoming does.twin.more after in
          let turned = read-turn m settings w l y (read_meaning r) u laws known keeps parts h does.so in
          let goes = read-uncounted settings (measured w settings.limits) w y h.packet (without_ids h.rest) size.some o (sym parts.from.packets ∙ ap without_ids h.first) h.some h.fair in
          let freely = model.debugger_turn settings (unmeasured w settings.limits) (uncounted x) in
          let turn = model.debugger_turn settings (measured w settings.limits) y in
          let left = model.closes_by turned.world (outcomes_of (read_meaning r)) turned.closes in
          read-by m settings w first acts old new r lost after turned.unshut turned.world turned.closes
          (record { standing = b; twin = does.twin; did = does.did; opened = turned.opened; goes = goes-by freely turn left goes turned.is })
          turned.shuts (turned.parts true) gone is
    ]

pub turns-debugger : {S : Type 0} (m : Meaning S) (settings : Settings) (w : Widths) (first : World S) (acts : List Act) (old new : Programs S) (r : Read) (lost : List Ticket) (after : Debugger) → Laws m → Standing m settings w first acts old
    → turns.TurnsAt (front_of old.debugger.end) old.debugger (Ok r) after → lost ≡ lost_with (is_left after) after → new ≡ record old { debugger = settled (is_left after) after } → Stands m settings w first (acts ++ act.DebuggerTurns r lost ∷ []) new
turns-debugger m settings w first acts old new r lost after laws b so gone is =
    either (is_closed b.world.debugger) (Stands m settings w first (acts ++ act.DebuggerTurns r lost ∷ []) new)
    (λ c. read-none m settings w first acts old new r lost after b (front-closed old.debugger.end b.world.debugger b.stands.parts.debugger.phase c) so gone is)
    (λ o. either (is_paused old.debugger.end) (Stands m settings w first (acts ++ act.DebuggerTurns r lost ∷ []) new)
    (λ q. read-none m settings w first acts old new r lost after b (front-paused old.debugger.end q) so gone is)
    (λ p. reads-open m settings w first acts old new r lost after laws b o p so gone is))
