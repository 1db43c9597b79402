-- a turn of the debugger at a message
use Rattle.std.proofs.Common.{◌≡◌, ◌≤◌, ◌<◌, ◌^◌, ℕ, ◌+◌, inl, inr, Bool, true, false, ◌||◌, not, Option, Some, None, is_some, List, [], ◌∷◌, ◌++◌, length, Ok, refl, sym, ◌∙◌, ap, subst, arith}
use Rattle.std.specs.Prelude.{nat_lt, remove}
use Rattle.std.specs.List.{list_any}
use Rattle.std.proofs.lemmas.Bool.{ltb-true}
use Rattle.std.proofs.lemmas.List.{append-nil}
use Rattle.jdwp_wire.specs.Frames.{IsPacket, header_bytes, packet_bytes}
use Rattle.jdwp_wire.specs.Streams as streams
use Rattle.jdwp_wire.specs.Streams.{stream}
use Rattle.jdwp_wire.specs.Widths.{AreWidths, Widths}
use Rattle.jdwp_wire.specs.declared.packet.Header.{Header}
use Rattle.jdwp_end.specs.declared.phase.Phase.{Phase}
use Rattle.jdwp_end.specs.declared.phase.Phase.TheVariants.{AwaitingHandshake, Established}
use Rattle.jdwp_end.specs.Ends.{End, is_established_phase, is_open, is_open_phase}
use Rattle.jdwp_event.specs.Composites.{CompositeMeaning}
use Rattle.jdwp_layout.specs.declared.answer.Answer.{Answer}
use Rattle.jdwp_layout.specs.declared.answer.Answer.TheVariants.{Data, Error}
use Rattle.jdwp_machine.specs.Meanings.{Meaning}
use Rattle.jdwp_action.specs.Actions.{Command}
use Rattle.jdwp_action.specs.AnswerPackets.{EncodesAnswer, answer_bytes, error_of}
use Rattle.jdwp_debuggee.specs.Settings.{Settings}
use Rattle.jdwp_debuggee.specs.State.{Moment}
use Rattle.jdwp_action.specs.CommandPackets.{carried_bytes}
use Rattle.jdwp_mirror.specs.Faults.{PARKED_MOST, fault_of, is_bad_event, is_bad_reply, is_waited_for, or_else, when, has_bad_event}
use Rattle.jdwp_mirror.specs.Faults as faults
use Rattle.jdwp_mirror.specs.Messages.{Ticket, Asks, Message, Handshake, Reply, Report, id_sizes}
use Rattle.jdwp_mirror.specs.Mirror.{ends}
use Rattle.jdwp_mirror.specs.Mirrors.{Mirror, Learned, empty_mirror}
use Rattle.jdwp_mirror.specs.Widths.{widths_in}
use Rattle.jdwp_debugger.specs.Asking.{command_header}
use Rattle.jdwp_debugger.specs.Debuggers.{AreOwn, Asked, Debugger, IsSizesAlone}
use Rattle.jdwp_debugger.specs.DebuggerTurns as turns
use Rattle.jdwp_debugger.specs.declared.order.Order.{Order}
use Rattle.jdwp_debugger.specs.declared.order.Order.TheVariants.{One}
use Rattle.jdwp_debugger.specs.Orders.{LearnedIn}
use Rattle.jdwp_debugger.specs.DebuggerTurns.{Enters, LearnedAll, ReadsAt, Told, closed_where, command_at, command_of, greeted, measured_where, reading_of, reports, sizes_header, with_ledger, with_read, with_sizes}
use Rattle.jdwp_debugger.specs.News.{News, answer_in, says, widths_by}
use Rattle.jdwp_debugger.specs.declared.pending.Ticket as code
use Rattle.jdwp_model.specs.Events
use Rattle.jdwp_model.specs.Next.{closes_by, composites_of, debugger_handles, debugger_takes, debugger_turn, debugger_turn_at, entered, has_end, messages_of, reader, reads, reads_composite, reads_handshake, reads_reply, without_ticket}
use Rattle.jdwp_model.specs.Places.{commands, one_of, replies, tally}
use Rattle.jdwp_model.specs.Seen.{mirror_count}
use Rattle.jdwp_model.specs.World.{is_closed, Packet, World}
use Rattle.jdwp_model.specs.Measures.{measured, message_size}
use Rattle.jdwp_link.specs.EventParts.{outcomes_of}
use Rattle.jdwp_link.specs.Insides.{DebuggerKeeps}
use Rattle.jdwp_link.specs.Laws.{Laws, PutsMessages}
use Rattle.jdwp_link.specs.Links.{Link}
use Rattle.jdwp_link.specs.Stands.{AreParked, IsMirror, Parts, widths_where}
use Rattle.jdwp_link.specs.Wires.{CallWire, PacketWire, Waiting, IsAmong, AreCalls, Awaits, HaveTickets, asked, calls_sent, message_sent, replied, ticket_of, waiting, without_ids, ArePackets}
use Rattle.jdwp_link.proofs.Awaiting.{IsFound, awaits-read, found, got, left-without, one-here, removed}
use Rattle.jdwp_link.proofs.Finding.{HasMessage, is_read_in, fair-place}
use Rattle.jdwp_link.proofs.Learning.{learned-all, learned-none, learned-one, mirror-empty}
use Rattle.jdwp_link.proofs.Reached.{Known}
use Rattle.jdwp_link.proofs.Saying.{parked-are, parked-length, parked-more, parked-none, says-answer, says-event, says-parked, says-sizes}
use Rattle.jdwp_link.proofs.Sizes.{without-append}
use Rattle.jdwp_link.proofs.Taking.{Shuts, Turned, takes-only, takes-parts}
use Rattle.jdwp_link.proofs.Wired.{among-back, among-either, among-front, asked-behind, awaits-same, waiting-append}

-- what a turn that handles a message tells and leaves
abbrev pub HandlesSo : streams.Message → ℕ → Debugger → Told → Debugger → Type 0
HandlesSo streams.Handshake used old t new = (t ≡ turns.Hello) × (old.pending ≡ []) × (new ≡ greeted used old)
HandlesSo (streams.Packet header body) used old t new = ReadsAt header body used old t new

-- what a packet says is what enters
said-as : (header : Header) (body : List ℕ) (used : ℕ) (old : Debugger) (t : Told) (new : Debugger) (n : News) → (r : ReadsAt header body used old t new) → says (reading_of old) header.id header.kind body ≡ Ok n
    → Enters (streams.Packet header body) used header n old t new
said-as header body used old t new n r h =
    let both : Ok r.news ≡ Ok n = sym r.said ∙ h in
    let e : r.news ≡ n = cc in
    subst (λ (q : News). Enters (streams.Packet header body) used header q old t new) e r.entered

-- of a target that sends each packet as it acts
in-one : {o : Order} {old : Mirror} {message : Message} {new : Mirror} → o ≡ One → LearnedIn o old message new → Learned old message new
in-one {old = old} {message = message} {new = new} e l = subst (λ q. LearnedIn q old message new) e l

shuts-where : (b : Bool) (unshut after : Debugger) → after ≡ closed_where b unshut → Shuts b unshut after
shuts-where true unshut after e = record { order = ap (λ d. d.order) e; end = ap (λ d. d.end) e; mirror = ap (λ d. d.mirror) e; tickets = ap (λ d. d.tickets) e; pending = ap (λ d. d.pending) e }
shuts-where false unshut after e = e

shuts-measured : (b : Bool) (w : Widths) (unshut after : Debugger) → after ≡ measured_where b w unshut → Shuts b unshut after
shuts-measured true w unshut after e = record { order = ap (λ d. d.order) e; end = ap (λ d. d.end) e; mirror = ap (λ d. d.mirror) e; tickets = ap (λ d. d.tickets) e; pending = ap (λ d. d.pending) e }
shuts-measured false w unshut after e = e

-- what the model's turn is
turn-is : {S : Type 0} (settings : Settings) (w : Widths) (x : World S) (end : End) (wires : List (PacketWire S)) (h : HasMessage settings w end x wires)
    → debugger_turn settings (measured w settings.limits) x ≡ reads (debugger_takes (measured w settings.limits) x h.packet (without_ids h.rest)) h.packet
turn-is settings w x end wires h =
    ap (debugger_turn_at (measured w settings.limits) x) h.some ∙ ap (debugger_handles (debugger_takes (measured w settings.limits) x h.packet (without_ids h.rest)) h.packet) h.fair

or-false : (b : Bool) → (b || false) ≡ b
or-false true = refl
or-false false = refl

pub no-way : (b : Bool) → (b ≡ true → ⊥) → b ≡ false
no-way true h = absurd (h refl)
no-way false h = refl

or-true : (b : Bool) → (b || true) ≡ true
or-true true = refl
or-true false = refl

-- ---- the handshake

sizes-packet : (limit id : ℕ) → 11 ≤ limit → id < 2 ^ 32 → IsPacket limit (sizes_header id) []
sizes-packet limit id le lt = record { length_counts_all = refl; within_limit = le; id_fits = lt; kind_fits = (omega arith, omega arith) }

sizes-can : {S : Type 0} (m : Meaning S) (w : Widths) (limit id : ℕ) → PutsMessages m → 11 ≤ limit → id < 2 ^ 32 → AreCalls w limit ((id, Asks None id_sizes) ∷ [])
sizes-can m w limit id puts le lt =
    let p : IsPacket limit (command_header w id id_sizes) (carried_bytes w id_sizes.carried) =
    subst (λ b. IsPacket limit (command_header w id id_sizes) b) (sym (puts.sizes_data_are w)) (subst (λ h. IsPacket limit h []) (sym (puts.sizes_header_is w id)) (sizes-packet limit id le lt)) in
    ((p, (puts.sizes_encoded w, refl)), tt)

sizes-bytes : {S : Type 0} (m : Meaning S) (w : Widths) (id : ℕ) → PutsMessages m → header_bytes (sizes_header id) ≡ stream (calls_sent w ((id, Asks None id_sizes) ∷ []))
sizes-bytes m w id puts =
    sym (append-nil (header_bytes (sizes_header id))) ∙ (ap (λ h. header_bytes h ++ []) (sym (puts.sizes_header_is w id))
    ∙ (ap (λ b. header_bytes (command_header w id id_sizes) ++ b) (sym (puts.sizes_data_are w)) ∙ sym (append-nil (packet_bytes (command_header w id id_sizes) (carried_bytes w id_sizes.carried)))))

awaits-sizes : {S : Type 0} (pending : List Asked) (id : ℕ) (wires rest : List (PacketWire S)) (deferred : List Waiting) (to : List CallWire) → replied wires ≡ replied rest → Awaits pending wires deferred to
    → Awaits (pending ++ record { id = id; ticket = None; command = id_sizes } ∷ []) rest deferred (to ++ (id, Asks None id_sizes) ∷ [])
awaits-sizes pending id wires rest deferred to same a p h =
    let whole : IsAmong p ((replied rest ++ (deferred ++ asked to)) ++ (id, (None, id_sizes)) ∷ []) = subst (IsAmong p) (asked-behind rest deferred to (id, Asks None id_sizes)) h in
    subst (IsAmong p) (sym (waiting-append pending (record { id = id; ticket = None; command = id_sizes } ∷ [])))
    (elim (among-either p (replied rest ++ (deferred ++ asked to)) ((id, (None, id_sizes)) ∷ []) whole) [
      | inl b ↦ among-front p (waiting pending) ((id, (None, id_sizes)) ∷ []) (a p (subst (λ l. IsAmong p (l ++ (deferred ++ asked to))) (sym same) b))
      | inr b ↦ among-back p (waiting pending) ((id, (None, id_sizes)) ∷ []) b
    ])

unready : (w : Widths) (ready : Bool) (sizes : Option Widths) → sizes ≡ None → sizes ≡ widths_where w ready → ready ≡ false
unready w true sizes a b = absurd (cc)
unready w false sizes a b = refl

reads-handshake : {S : Type 0} (m : Meaning S) (settings : Settings) (w : Widths) (l : Link S) (x : World S) (t : Told) (after : Debugger) (id : ℕ) (a : Moment S) (rest : List (PacketWire S)) → Laws m → DebuggerKeeps l.debugger → (s : Parts m settings w l x)
    → s.from.wires ≡ (id, (Handshake, a)) ∷ rest → message_size w Handshake ≤ x.at_debugger → is_closed x.debugger ≡ false → x.debugger ≡ AwaitingHandshake
    → debugger_turn settings (measured w settings.limits) x ≡ reads (debugger_takes (measured w settings.limits) x (Handshake, a) (without_ids rest)) (Handshake, a)
    → HandlesSo streams.Handshake (message_size w Handshake) l.debugger t after → Turned m settings w l x t after
reads-handshake m settings w l x t after id a rest laws keeps s first came o phase is (hello, none, new) =
    let d = l.debugger in
    let unshut = s.debugger.opened o in
    let begins = keeps.begins (s.debugger.phase ∙ phase) in
    let least : 11 ≤ settings.limits.packet = subst (λ n. 11 ≤ n.packet) s.debugger.limits (let n = keeps.limits.packet_least in omega arith) in
    let asks : Asked = record { id = d.next_id; ticket = None; command = id_sizes } in
    record {
      unshut = greeted (message_size w Handshake) d;
      world = reads_handshake (debugger_takes (measured w settings.limits) x (Handshake, a) (without_ids rest)) (Handshake, a);
      closes = false;
      opened = refl;
      parts = λ did. takes-parts m settings w l x did (greeted (message_size w Handshake) d) id (Handshake, a) rest ((d.next_id, Asks None id_sizes) ∷ []) x.ready x.parked ((Handshake, a) ∷ x.read) (x.pending ++ (None, id_sizes) ∷ []) laws.finds s first came o
          refl refl refl refl (ap (λ b. d.end.outgoing ++ b) (sizes-bytes m w d.next_id laws.puts)) refl (learned-none d.mirror (Handshake, a) x.read refl (keeps.unlearned begins.2) s.debugger.mirror) unshut.sizes unshut.parked
          (ap without_ids (waiting-append d.pending (asks ∷ [])) ∙ (without-append (waiting d.pending) (waiting (asks ∷ [])) ∙ ap (λ ps. ps ++ (None, id_sizes) ∷ []) unshut.pending))
          (λ h. let u : x.ready ≡ false = unready w x.ready d.sizes begins.2 unshut.sizes in absurd (cc))
          (sizes-can m w settings.limits.packet d.next_id laws.puts least keeps.id)
          (awaits-sizes d.pending d.next_id s.from.wires rest s.deferred.wires s.to.wires (ap replied first));
      shuts = new;
      is = is ∙ ap (λ u. closes_by (reads_handshake (debugger_takes (measured w settings.limits) x (Handshake, a) (without_ids rest)) (Handshake, a)) (outcomes_of u) false) (sym hello);
    }

-- ---- composites

-- a composite that is not refused
pub fair-ready : (greeted ready : Bool) (parked : List Message) (pending : List (Ticket × Command)) (counts : ℕ → Option ℕ) (c : CompositeMeaning) → greeted ≡ true → ready ≡ true
    → fault_of (record { greeted = greeted; ready = ready; parked = parked; pending = pending; counts = counts }) (Report c) ≡ None → is_bad_event counts c ≡ false
fair-ready true true parked pending counts c g r h = elim (is_bad_event counts c) as (λ b. when b faults.BadEvent ≡ None → b ≡ false) [ true ↦ λ e. absurd (cc) | false ↦ λ e. refl ] h
fair-ready true false parked pending counts c g r h = absurd (cc)
fair-ready false ready parked pending counts c g r h = absurd (cc)

pub fair-parked : (greeted ready : Bool) (parked : List Message) (pending : List (Ticket × Command)) (counts : ℕ → Option ℕ) (c : CompositeMeaning) → greeted ≡ true → ready ≡ false
    → fault_of (record { greeted = greeted; ready = ready; parked = parked; pending = pending; counts = counts }) (Report c) ≡ None → length parked < PARKED_MOST
fair-parked true false parked pending counts c g r h =
    ltb-true (length parked) PARKED_MOST (elim (nat_lt (length parked) PARKED_MOST) as (λ b. when (not b) faults.TooManyParked ≡ None → b ≡ true) [ true ↦ λ e. refl | false ↦ λ e. absurd (cc) ] h)
fair-parked true true parked pending counts c g r h = absurd (cc)
fair-parked false ready parked pending counts c g r h = absurd (cc)

-- what was known before the message came
pub known-sizes : (w : Widths) (ready : Bool) (sizes : Option Widths) → sizes ≡ widths_where w ready → ready ≡ true → sizes ≡ Some w
known-sizes w true sizes e h = e
known-sizes w false sizes e h = absurd (cc)

pub unknown-sizes : (w : Widths) (ready : Bool) (sizes : Option Widths) → sizes ≡ widths_where w ready → ready ≡ false → sizes ≡ None
unknown-sizes w true sizes e h = absurd (cc)
unknown-sizes w false sizes e h = e

reads-report : {S : Type 0} (m : Meaning S) (settings : Settings) (w : Widths) (l : Link S) (x : World S) (t : Told) (after : Debugger) (id : ℕ) (c : CompositeMeaning) (a : Moment S) (rest : List (PacketWire S)) (ready : Bool) → Laws m → (s : Parts m settings w l x)
    → s.from.wires ≡ (id, (Report c, a)) ∷ rest → message_size w (Report c) ≤ x.at_debugger → is_closed x.debugger ≡ false → x.debugger ≡ Established → x.ready ≡ ready
    → fault_of (reader x) (Report c) ≡ None
    → debugger_turn settings (measured w settings.limits) x ≡ reads (debugger_takes (measured w settings.limits) x (Report c, a) (without_ids rest)) (Report c, a)
    → HandlesSo (message_sent w id (Report c)) (message_size w (Report c)) l.debugger t after → Turned m settings w l x t after
reads-report m settings w l x t after id c a rest false laws s first came o phase ready fair is so =
    let d = l.debugger in
    let unshut = s.debugger.opened o in
    let can = (subst (ArePackets w settings.limits.packet) first s.from.sent).0.1 in
    let size = parked-length w d.parked x.parked unshut.parked in
    let few = fair-parked _ x.ready (messages_of x.parked) x.pending (mirror_count x.read) c (ap is_established_phase phase) ready fair in
    let says = says-parked (reading_of d) id _ (unknown-sizes w x.ready d.sizes unshut.sizes ready) (omega (size, few, arith)) in
    let told-by = said-as _ _ (message_size w (Report c)) d t after _ so says in
    let next = record (with_read (message_sent w id (Report c)) (message_size w (Report c)) [] d) { parked = d.parked ++ record { header = _; body = _ } ∷ [] } in
    let z = debugger_takes (measured w settings.limits) x (Report c, a) (without_ids rest) in
    record {
      unshut = next;
      world = record z { parked = z.parked ++ (Report c, a) ∷ [] };
      closes = false;
      opened = ap is_closed phase;
      parts = λ did. takes-only m settings w l x did next id (Report c, a) rest x.ready (x.parked ++ (Report c, a) ∷ []) x.read x.pending laws.finds s first came o
          refl refl refl refl refl refl s.debugger.mirror unshut.sizes (parked-more w d.parked x.parked _ c (Report c, a) refl (laws.reads.reported w c _ can) unshut.parked) unshut.pending unshut.ticketed
          (awaits-same d.pending s.from.wires rest s.deferred.wires s.to.wires (ap replied first)) phase;
      shuts = told-by.1;
      is = is ∙ (ap (λ b. reads_composite z (Report c, a) c b) ready ∙ ap (λ u. closes_by (record z { parked = z.parked ++ (Report c, a) ∷ [] }) (outcomes_of u) false) (sym told-by.0));
    }
reads-report m settings w l x t after id c a rest true laws s first came o phase ready fair is so =
    let d = l.debugger in
    let unshut = s.debugger.opened o in
    let can = (subst (ArePackets w settings.limits.packet) first s.from.sent).0.1 in
    let says = says-event (reading_of d) w id c _ (known-sizes w x.ready d.sizes unshut.sizes ready) (laws.reads.reported w c _ can) in
    let told-by = said-as _ _ (message_size w (Report c)) d t after _ so says in
    let learns = told-by.1 in
    let next = record (with_read (message_sent w id (Report c)) (message_size w (Report c)) _ d) { mirror = learns.0; ledger = learns.2 } in
    let z = debugger_takes (measured w settings.limits) x (Report c, a) (without_ids rest) in
    record {
      unshut = next;
      world = record z { read = (Report c, a) ∷ z.read };
      closes = ends (Report c);
      opened = ap is_closed phase;
      parts = λ did. takes-only m settings w l x did next id (Report c, a) rest x.ready x.parked ((Report c, a) ∷ x.read) x.pending laws.finds s first came o
          refl refl refl refl refl refl (learned-one d.mirror learns.0 (Report c, a) x.read s.debugger.mirror (in-one s.debugger.order learns.1)) unshut.sizes unshut.parked unshut.pending unshut.ticketed
          (awaits-same d.pending s.from.wires rest s.deferred.wires s.to.wires (ap replied first)) phase;
      shuts = shuts-where (ends (Report c)) next after learns.4;
      is = is ∙ (ap (λ b. reads_composite z (Report c, a) c b) ready ∙ ap (λ u. closes_by (record z { read = (Report c, a) ∷ z.read }) (outcomes_of u) (ends (Report c))) (sym told-by.0));
    }

-- ---- replies

-- what is so of the command to which a reply is read
pub record IsReplied {S : Type 0} (w : Widths) (l : Link S) (x : World S) (id : ℕ) (k : Ticket) (c : Command) (rest : List (PacketWire S)) (deferred : List Waiting) (to : List CallWire) : Type 0 where
  pub at : IsFound l.debugger.pending id k c
  pub left : without_ids (waiting (at.before ++ at.behind)) ≡ without_ticket k x.pending
  pub awaits : Awaits (at.before ++ at.behind) rest deferred to

pub is-replied : {S : Type 0} (m : Meaning S) (settings : Settings) (w : Widths) (l : Link S) (x : World S) (id : ℕ) (k : Ticket) (c : Command) (answer : Answer) (a : Moment S) (rest : List (PacketWire S)) → Known m settings x → (s : Parts m settings w l x)
    → s.from.wires ≡ (id, (Reply k c answer, a)) ∷ rest → is_closed x.debugger ≡ false → IsReplied w l x id k c rest s.deferred.wires s.to.wires
is-replied m settings w l x id k c answer a rest known s first o =
    let unshut = s.debugger.opened o in
    let from : without_ids s.from.wires ≡ (Reply k c answer, a) ∷ without_ids rest = ap without_ids first in
    let head : x.to_debugger ≡ (Reply k c answer, a) ∷ without_ids rest = sym s.from.packets ∙ from in
    let waits : IsAmong (id, (k, c)) (waiting l.debugger.pending) = s.from.awaits o (id, (k, c)) (subst (λ ws. IsAmong (id, (k, c)) (replied ws ++ (s.deferred.wires ++ asked s.to.wires))) (sym first) (inl refl)) in
    let f = found l.debugger.pending id k c waits in
    let (before, behind, split, none-before, none-behind) = known.one k c answer a (without_ids rest) o head in
    let places = known.places k o in
    let one = one-here k c in
    let replied-count : tally (one_of k) (replies x.to_debugger) ≡ one_of k (k, c) + tally (one_of k) (replies (without_ids rest)) = ap (λ ps. tally (one_of k) (replies ps)) head in
    let deferred-count : tally (one_of k) x.deferred ≡ tally (one_of k) (without_ids s.deferred.wires) = ap (tally (one_of k)) (sym s.deferred.commands) in
    let asked-count : tally (one_of k) (commands x.to_target) ≡ tally (one_of k) (commands (without_ids s.to.wires)) = ap (λ cs. tally (one_of k) (commands cs)) (sym s.to.calls) in
    record {
      at = f;
      left = left-without l.debugger.pending id k c f before behind (unshut.pending ∙ split) none-before none-behind ∙ ap (without_ticket k) unshut.pending;
      awaits = awaits-read l.debugger.pending id k c f rest s.deferred.wires s.to.wires (omega (places, one, replied-count, deferred-count, asked-count, arith))
          (λ p h. s.from.awaits o p (subst (λ ws. IsAmong p (replied ws ++ (s.deferred.wires ++ asked s.to.wires))) (sym first) (inr h)));
    }

-- a reply that is not refused
pub fair-reply : (greeted ready : Bool) (parked : List Message) (pending : List (Ticket × Command)) (counts : ℕ → Option ℕ) (k : Ticket) (c : Command) (answer : Answer) → greeted ≡ true
    → fault_of (record { greeted = greeted; ready = ready; parked = parked; pending = pending; counts = counts }) (Reply k c answer) ≡ None → is_bad_reply c answer ≡ false
fair-reply true ready parked pending counts k c answer g h =
    elim (is_waited_for k pending) as (λ b. or_else (when (not b) faults.UnknownReply) (or_else (when (is_bad_reply c answer) faults.BadReply) (when (has_bad_event counts parked) faults.BadEvent)) ≡ None → is_bad_reply c answer ≡ false) [
      | true ↦ λ e. elim (is_bad_reply c answer) as (λ b. or_else (when b faults.BadReply) (when (has_bad_event counts parked) faults.BadEvent) ≡ None → b ≡ false) [ true ↦ λ f. absurd (cc) | false ↦ λ f. refl ] e
      | false ↦ λ e. absurd (cc)
    ] h
fair-reply false ready parked pending counts k c answer g h = absurd (cc)

has-left : (before behind : List Asked) (p : Asked) → HaveTickets (before ++ p ∷ behind) → HaveTickets (before ++ behind)
has-left [] behind p h = h.1
has-left (q ∷ qs) behind p h = (h.0, has-left qs behind p h.1)

pub has-at : (before behind : List Asked) (p : Asked) → HaveTickets (before ++ p ∷ behind) → is_some p.ticket ≡ true
has-at [] behind p h = h.0
has-at (q ∷ qs) behind p h = has-at qs behind p h.1

pub own-at : (before behind : List Asked) (p : Asked) → AreOwn (before ++ p ∷ behind) → p.ticket ≡ None → p.command ≡ id_sizes
own-at [] behind p h = h.0
own-at (q ∷ qs) behind p h = own-at qs behind p h.1

alone-left : (before behind : List Asked) (p : Asked) → IsSizesAlone (before ++ p ∷ behind) → before ++ behind ≡ []
alone-left [] [] p h = refl
alone-left [] (b ∷ bs) p h = absurd h
alone-left (q ∷ []) behind p h = absurd h
alone-left (q ∷ r ∷ qs) behind p h = absurd h

pub ticket-none : (o : Option code.Ticket) → ticket_of o ≡ None → o ≡ None
ticket-none None h = refl
ticket-none (Some k) h = absurd (cc)

pub ticket-some : (o : Option code.Ticket) → ticket_of o ≡ None → is_some o ≡ true → ⊥
ticket-some None h e = absurd (cc)
ticket-some (Some k) h e = absurd (cc)

-- IDSizes alone waits until the widths of ids are known
pub ready-some : (w : Widths) (sizes : Option Widths) (ready : Bool) → sizes ≡ widths_where w ready → (sizes ≡ None → ⊥) → ready ≡ true
ready-some w sizes true e h = refl
ready-some w sizes false e h = absurd (h e)

pub alone-none : (before behind : List Asked) (p : Asked) (k : ℕ) → ticket_of p.ticket ≡ Some k → IsSizesAlone (before ++ p ∷ behind) → ⊥
alone-none [] [] p k e h = let none : ticket_of p.ticket ≡ None = ap ticket_of h.0 in absurd (cc)
alone-none [] (b ∷ bs) p k e h = h
alone-none (q ∷ []) behind p k e h = h
alone-none (q ∷ r ∷ qs) behind p k e h = h

pub widths-known : (w : Widths) (sizes : Option Widths) → sizes ≡ Some w → widths_by sizes ≡ w
widths-known w sizes e = ap widths_by e

reads-answer : {S : Type 0} (m : Meaning S) (settings : Settings) (w : Widths) (l : Link S) (x : World S) (t : Told) (after : Debugger) (id k : ℕ) (c : Command) (answer : Answer) (a : Moment S) (rest : List (PacketWire S)) → Laws m → Known m settings x → DebuggerKeeps l.debugger → (s : Parts m settings w l x)
    → s.from.wires ≡ (id, (Reply (Some k) c answer, a)) ∷ rest → message_size w (Reply (Some k) c answer) ≤ x.at_debugger → is_closed x.debugger ≡ false → x.debugger ≡ Established
    → fault_of (reader x) (Reply (Some k) c answer) ≡ None
    → debugger_turn settings (measured w settings.limits) x ≡ reads (debugger_takes (measured w settings.limits) x (Reply (Some k) c answer, a) (without_ids rest)) (Reply (Some k) c answer, a)
    → HandlesSo (message_sent w id (Reply (Some k) c answer)) (message_size w (Reply (Some k) c answer)) l.debugger t after → Turned m settings w l x t after
reads-answer {S} m settings w l x t after id k c answer a rest laws known keeps s first came o phase fair is so =
    let d = l.debugger in
    let message = Reply (Some k) c answer in
    let p : Packet _ = (message, a) in
    let unshut = s.debugger.opened o in
    let can = (subst (ArePackets w settings.limits.packet) first s.from.sent).0.1 in
    let r = is-replied m settings w l x id (Some k) c answer a rest known s first o in
    let f = r.at in
    let is-open : is_open d.end ≡ true = ap is_open_phase (s.debugger.phase ∙ phase) in
    let ready : x.ready ≡ true = ready-some w d.sizes x.ready unshut.sizes (λ none. alone-none f.before f.behind f.asked k f.has_ticket (subst IsSizesAlone f.split (keeps.alone is-open none))) in
    let sizes = known-sizes w x.ready d.sizes unshut.sizes ready in
    let bare : x.parked ≡ [] = parked-none w d.parked x.parked (keeps.unparked w sizes) unshut.parked in
    let good = fair-reply _ x.ready (messages_of x.parked) x.pending (mirror_count x.read) (Some k) c answer (ap is_established_phase phase) fair in
    let reads-it : answer_in (widths_by d.sizes) c (error_of answer) (answer_bytes w answer) ≡ Some answer = ap (λ v. answer_in v c (error_of answer) (answer_bytes w answer)) (widths-known w d.sizes sizes) ∙ laws.reads.answered w c answer can.0 in
    let says = says-answer (reading_of d) w id k c answer keeps.distinct f reads-it good in
    let told-by = said-as _ _ (message_size w message) d t after _ so says in
    let command : command_at (length f.before) d.pending ≡ c = ap command_of (got d.pending id (Some k) c f) ∙ f.is_command in
    let learns = told-by.1 in
    let next = record (with_read (message_sent w id message) (message_size w message) _ d) { mirror = learns.0; pending = remove d.pending (length f.before); ledger = learns.2 } in
    let z = debugger_takes (measured w settings.limits) x p (without_ids rest) in
    let gone : remove d.pending (length f.before) ≡ f.before ++ f.behind = removed d.pending id (Some k) c f in
    let shut : ends (Reply (Some k) (command_at (length f.before) d.pending) answer) ≡ (ends message || has_end x.parked) =
    ap (λ q. ends (Reply (Some k) q answer)) command ∙ (sym (or-false (ends message)) ∙ ap (λ ps. ends message || has_end ps) (sym bare)) in
    record {
      unshut = next;
      world = reads_reply z p (Some k);
      closes = ends message || has_end x.parked;
      opened = ap is_closed phase;
      parts = λ did. takes-only m settings w l x did next id p rest (x.ready || false) [] (p ∷ entered x.parked x.read) (without_ticket (Some k) x.pending) laws.finds s first came o
          refl refl refl refl refl refl
          (subst (λ ps. IsMirror learns.0 (p ∷ entered ps x.read)) (sym bare) (learned-one d.mirror learns.0 p x.read s.debugger.mirror (in-one s.debugger.order (subst (λ q. LearnedIn d.order d.mirror (Reply (Some k) q answer) learns.0) command learns.1))))
          (unshut.sizes ∙ ap (widths_where w) (sym (or-false x.ready))) (subst (λ ps. AreParked {S = S} w ps []) (sym (keeps.unparked w sizes)) tt)
          (ap (λ ps. without_ids (waiting ps)) gone ∙ r.left)
          (λ h. subst HaveTickets (sym gone) (has-left f.before f.behind f.asked (subst HaveTickets f.split (unshut.ticketed ready))))
          (λ _. subst (λ ps. Awaits ps rest s.deferred.wires s.to.wires) (sym gone) r.awaits) phase;
      shuts = shuts-where (ends message || has_end x.parked) next after (learns.4 ∙ ap (λ b. closed_where b next) shut);
      is = is ∙ ap (λ os. closes_by (reads_reply z p (Some k)) os (ends message || has_end x.parked)) (ap (λ ps. composites_of ps ++ Events.Answered k answer ∷ []) bare ∙ ap outcomes_of (sym told-by.0));
    }

-- the reply to IDSizes ends nothing
no-end : (answer : Answer) → ends (Reply None id_sizes answer) ≡ false
no-end (Data content) = refl
no-end (Error e) = refl

-- the reply to IDSizes: the composites that waited enter before it
reads-sizes : {S : Type 0} (m : Meaning S) (settings : Settings) (w : Widths) (l : Link S) (x : World S) (t : Told) (after : Debugger) (id : ℕ) (c : Command) (answer : Answer) (a : Moment S) (rest : List (PacketWire S)) → Laws m → Known m settings x → DebuggerKeeps l.debugger → (s : Parts m settings w l x)
    → s.from.wires ≡ (id, (Reply None c answer, a)) ∷ rest → message_size w (Reply None c answer) ≤ x.at_debugger → is_closed x.debugger ≡ false → x.debugger ≡ Established
    → fault_of (reader x) (Reply None c answer) ≡ None
    → debugger_turn settings (measured w settings.limits) x ≡ reads (debugger_takes (measured w settings.limits) x (Reply None c answer, a) (without_ids rest)) (Reply None c answer, a)
    → HandlesSo (message_sent w id (Reply None c answer)) (message_size w (Reply None c answer)) l.debugger t after → Turned m settings w l x t after
reads-sizes m settings w l x t after id c answer a rest laws known keeps s first came o phase fair is so =
    let d = l.debugger in
    let message = Reply None c answer in
    let p : Packet _ = (message, a) in
    let unshut = s.debugger.opened o in
    let can = (subst (ArePackets w settings.limits.packet) first s.from.sent).0.1 in
    let r = is-replied m settings w l x id None c answer a rest known s first o in
    let f = r.at in
    let is-open : is_open d.end ≡ true = ap is_open_phase (s.debugger.phase ∙ phase) in
    let unready-still : x.ready ≡ false = no-way x.ready (λ h. ticket-some f.asked.ticket f.has_ticket (has-at f.before f.behind f.asked (subst HaveTickets f.split (unshut.ticketed h)))) in
    let none = unknown-sizes w x.ready d.sizes unshut.sizes unready-still in
    let own : c ≡ id_sizes = sym f.is_command ∙ own-at f.before f.behind f.asked (subst AreOwn f.split keeps.own) (ticket-none f.asked.ticket f.has_ticket) in
    let good = fair-reply _ x.ready (messages_of x.parked) x.pending (mirror_count x.read) None c answer (ap is_established_phase phase) fair in
    let encodes : EncodesAnswer w id_sizes.set id_sizes.number answer = subst (λ (q : Command). EncodesAnswer w q.set q.number answer) own can.0 in
    let reads-it : answer_in (widths_by d.sizes) c (error_of answer) (answer_bytes w answer) ≡ Some answer = ap (λ q. answer_in (widths_by d.sizes) q (error_of answer) (answer_bytes w answer)) own ∙ laws.reads.sizes (widths_by d.sizes) w answer encodes in
    let widths : AreWidths w.field w.method w.object w.reference w.frame = subst (λ (v : Widths). AreWidths v.field v.method v.object v.reference v.frame) s.target.sizes known.widths in
    let told-widths = ap widths_in can.1 ∙ laws.reads.widths w widths in
    let waited = parked-are w d.parked x.parked unshut.parked in
    let says = says-sizes (reading_of d) w id c answer waited.composites keeps.distinct f reads-it good told-widths waited.read in
    let told-by = said-as _ _ (message_size w message) d t after _ so says in
    let command : command_at (length f.before) d.pending ≡ c = ap command_of (got d.pending id None c f) ∙ f.is_command in
    let learns = told-by.1 in
    let next = with_ledger learns.2 (with_sizes (message_sent w id message) (message_size w message) _ (length f.before) learns.0 w d) in
    let z = debugger_takes (measured w settings.limits) x p (without_ids rest) in
    let gone : remove d.pending (length f.before) ≡ f.before ++ f.behind = removed d.pending id None c f in
    let nobody : f.before ++ f.behind ≡ [] = alone-left f.before f.behind f.asked (subst IsSizesAlone f.split (keeps.alone is-open none)) in
    let messages : LearnedAll One empty_mirror (messages_of x.parked ++ message ∷ []) learns.0 =
    subst (λ o. LearnedAll o empty_mirror (messages_of x.parked ++ message ∷ []) learns.0) s.debugger.order (subst (λ q. LearnedAll d.order empty_mirror (messages_of x.parked ++ Reply None q answer ∷ []) learns.0) command (subst (λ ms. LearnedAll d.order empty_mirror (ms ++ Reply None (command_at (length f.before) d.pending) answer ∷ []) learns.0) waited.messages learns.1)) in
    let shut : list_any ends (reports waited.composites) ≡ (ends message || has_end x.parked) =
    waited.ends_by ∙ (sym (ap (λ b. b || has_end x.parked) (no-end answer)) ∙ ap (λ q. ends (Reply None q answer) || has_end x.parked) (sym own)) in
    record {
      unshut = next;
      world = reads_reply z p None;
      closes = ends message || has_end x.parked;
      opened = ap is_closed phase;
      parts = λ did. takes-only m settings w l x did next id p rest (x.ready || true) [] (p ∷ entered x.parked x.read) (without_ticket None x.pending) laws.finds s first came o
          refl refl refl refl refl refl
          (learned-all empty_mirror learns.0 x.parked p x.read (mirror-empty d.mirror x.read (keeps.unlearned none) s.debugger.mirror) messages)
          (sym (ap (widths_where w) (or-true x.ready))) tt
          (ap (λ ps. without_ids (waiting ps)) gone ∙ r.left)
          (λ h. subst HaveTickets (sym (gone ∙ nobody)) tt)
          (λ _. subst (λ ps. Awaits ps rest s.deferred.wires s.to.wires) (sym gone) r.awaits) phase;
      shuts = shuts-measured (ends message || has_end x.parked) w next after (learns.4 ∙ ap (λ b. measured_where b w next) shut);
      is = is ∙ ap (λ os. closes_by (reads_reply z p None) os (ends message || has_end x.parked)) (append-nil (composites_of x.parked) ∙ (sym waited.told ∙ ap outcomes_of (sym told-by.0)));
    }

-- ---- all of it

reads-by : {S : Type 0} (m : Meaning S) (settings : Settings) (w : Widths) (l : Link S) (x : World S) (t : Told) (after : Debugger) (id : ℕ) (phase : Phase) (p : Packet S) (rest : List (PacketWire S)) → Laws m → Known m settings x → DebuggerKeeps l.debugger → (s : Parts m settings w l x)
    → s.from.wires ≡ (id, p) ∷ rest → message_size w p.0 ≤ x.at_debugger → is_closed x.debugger ≡ false → x.debugger ≡ phase → is_read_in phase p.0 ≡ true
    → fault_of (reader x) p.0 ≡ None
    → debugger_turn settings (measured w settings.limits) x ≡ reads (debugger_takes (measured w settings.limits) x p (without_ids rest)) p
    → HandlesSo (message_sent w id p.0) (message_size w p.0) l.debugger t after → Turned m settings w l x t after
reads-by m settings w l x t after id AwaitingHandshake (Handshake, a) rest laws known keeps s first came o phase place fair is so = reads-handshake m settings w l x t after id a rest laws keeps s first came o phase is so
reads-by m settings w l x t after id Established (Reply (Some k) c answer, a) rest laws known keeps s first came o phase place fair is so = reads-answer m settings w l x t after id k c answer a rest laws known keeps s first came o phase fair is so
reads-by m settings w l x t after id Established (Reply None c answer, a) rest laws known keeps s first came o phase place fair is so = reads-sizes m settings w l x t after id c answer a rest laws known keeps s first came o phase fair is so
reads-by m settings w l x t after id Established (Report c, a) rest laws known keeps s first came o phase place fair is so = reads-report m settings w l x t after id c a rest x.ready laws s first came o phase refl fair is so
reads-by m settings w l x t after id phase p rest laws known keeps s first came o e place fair is so = absurd (cc)

-- A turn of the debugger at a message.
pub read-turn : {S : Type 0} (m : Meaning S) (settings : Settings) (w : Widths) (l : Link S) (x : World S) (t : Told) (after : Debugger) → Laws m → Known m settings x → DebuggerKeeps l.debugger → (s : Parts m settings w l x)
    → (h : HasMessage settings w l.debugger.end x s.from.wires) → HandlesSo (message_sent w h.id h.packet.0) (message_size w h.packet.0) l.debugger t after → Turned m settings w l x t after
read-turn m settings w l x t after laws known keeps s h so =
    reads-by m settings w l x t after h.id x.debugger h.packet h.rest laws known keeps s h.first h.came h.opened refl (fair-place (reader x) x.debugger h.packet.0 refl h.opened h.fair) h.fair (turn-is settings w x l.debugger.end s.from.wires h) so
