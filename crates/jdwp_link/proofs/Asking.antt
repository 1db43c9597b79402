-- a command is asked
use Rattle.std.proofs.Common.{◌≡◌, ℕ, ◌+◌, inl, inr, Bool, true, false, ◌||◌, ◌&&◌, not, cond, Option, Some, None, List, [], ◌∷◌, ◌++◌, length, refl, sym, ◌∙◌, ap, subst, arith}
use Rattle.std.specs.Prelude.{nat_lt, nat_le}
use Rattle.std.specs.Option.{option_map}
use Rattle.std.proofs.lemmas.Bool.{cases_lt, lt-ltb, le-ltb, lt-leb, le-leb}
use Rattle.std.proofs.lemmas.List.{append-nil, append_assoc}
use Rattle.jdwp_wire.specs.Frames.{IsPacket, packet_bytes}
use Rattle.jdwp_wire.specs.Widths.{Widths}
use Rattle.jdwp_end.specs.declared.phase.Phase.{Phase}
use Rattle.jdwp_end.specs.declared.phase.Phase.TheVariants.{Closed, AwaitingHandshake, Established}
use Rattle.jdwp_end.specs.Ends.{is_established_phase, is_open, is_open_phase, is_paused}
use Rattle.jdwp_machine.specs.Meanings.{Meaning}
use Rattle.jdwp_action.specs.Actions.{Command}
use Rattle.jdwp_debuggee.specs.Settings.{Settings}
use Rattle.jdwp_action.specs.CommandPackets.{carried_bytes, is_for_target, packet_length}
use Rattle.jdwp_mirror.specs.Messages.{Asks, LAST_TICKET}
use Rattle.jdwp_debugger.specs.Asking.{EncodesCommand, HasAsked, asked, command_bytes, command_header, is_busy, refusal_by, refusal_of_ask}
use Rattle.jdwp_debugger.specs.Debuggers.{Asked, Debugger}
use Rattle.jdwp_debugger.specs.declared.asking.Refused.{Refused}
use Rattle.jdwp_debugger.specs.declared.asking.Refused.TheVariants as refused
use Rattle.jdwp_model.specs.Events as events
use Rattle.jdwp_model.specs.Events.{AskRefusal}
use Rattle.jdwp_model.specs.Next as next
use Rattle.jdwp_model.specs.Next.{ask_refusal, asks}
use Rattle.jdwp_model.specs.World as world
use Rattle.jdwp_model.specs.World.{is_closed, World}
use Rattle.jdwp_model.specs.Measures.{measured, unfit}
use Rattle.jdwp_link.specs.Insides.{DebuggerKeeps}
use Rattle.jdwp_link.specs.Laws.{FindsMessages}
use Rattle.jdwp_link.specs.Links.{Link, way_to_target}
use Rattle.jdwp_link.specs.Stands.{Parts, widths_where}
use Rattle.jdwp_link.specs.Told.{refusal_told}
use Rattle.jdwp_link.specs.Wires.{CallWire, PacketWire, Waiting, IsAmong, Awaits, replied, waiting, without_ids}
use Rattle.jdwp_link.specs.Wires as wires
use Rattle.jdwp_link.proofs.Finding.{flows-debugger}
use Rattle.jdwp_link.proofs.Reading.{known-sizes, unknown-sizes}
use Rattle.jdwp_link.proofs.Sizes.{without-append}
use Rattle.jdwp_link.proofs.Wired.{all-append, among-back, among-either, among-front, asked-behind, cut-asked, waiting-append}

-- ---- why it is refused

le-not : (a b : ℕ) → nat_le b a ≡ not (nat_lt a b)
le-not a b = elim (cases_lt a b) [
  | inl lt ↦ rw (lt-ltb a b lt, lt-leb b a lt) refl
  | inr le ↦ rw (le-ltb a b le, le-leb b a le) refl
]

not-not : (b : Bool) → b ≡ not (not b)
not-not true = refl
not-not false = refl

length-waiting : (ps : List Asked) → length (without_ids (waiting ps)) ≡ length ps
length-waiting [] = refl
length-waiting (p ∷ ps) = let e = length-waiting ps in omega arith

-- the same tests of both, in the same order
told-unfit : (busy fits long : Bool) → cond busy (Some refused.Busy) (cond (not fits) (Some refused.BadCommand) (cond long (Some refused.TooLong) None))
    ≡ option_map refusal_told (cond busy (Some events.Busy) (cond (not fits) (Some events.BadCommand) (cond long (Some events.TooLong) None)))
told-unfit true fits long = refl
told-unfit false false long = refl
told-unfit false true true = refl
told-unfit false true false = refl

same-busy : {S : Type 0} (m : Meaning S) (settings : Settings) (w : Widths) (l : Link S) (x : World S) → FindsMessages → (s : Parts m settings w l x) → is_closed x.debugger ≡ false
    → is_busy l.debugger ≡ next.is_busy settings (measured w settings.limits) x
same-busy m settings w l x finds s o =
    let d = l.debugger in
    let many : length d.pending ≡ length x.pending = sym (length-waiting d.pending) ∙ ap length (s.debugger.opened o).pending in
    let few : nat_le d.end.limits.pending (length d.pending) ≡ not (nat_lt (length x.pending) settings.limits.pending) =
    ap (λ n. nat_le n.pending (length d.pending)) s.debugger.limits ∙ (ap (nat_le settings.limits.pending) many ∙ le-not (length x.pending) settings.limits.pending) in
    let paused : is_paused d.end ≡ not (nat_lt (world.way_to_target (measured w settings.limits) x) settings.limits.packet) =
    not-not (is_paused d.end) ∙ ap not (sym (flows-debugger m settings w l x finds s o)) in
    let last : nat_le LAST_TICKET d.tickets ≡ not (nat_lt x.asked LAST_TICKET) = ap (nat_le LAST_TICKET) s.debugger.tickets ∙ le-not x.asked LAST_TICKET in
    ap (λ b. b || (is_paused d.end || nat_le LAST_TICKET d.tickets)) few
    ∙ (ap (λ b. not (nat_lt (length x.pending) settings.limits.pending) || (b || nat_le LAST_TICKET d.tickets)) paused
    ∙ ap (λ b. not (nat_lt (length x.pending) settings.limits.pending) || (not (nat_lt (world.way_to_target (measured w settings.limits) x) settings.limits.packet) || b)) last)

-- the widths of ids are known in an established session alone
established-ready : {S : Type 0} (m : Meaning S) (settings : Settings) (w : Widths) (l : Link S) (x : World S) (phase : Phase) → DebuggerKeeps l.debugger → (s : Parts m settings w l x) → x.debugger ≡ phase → is_closed x.debugger ≡ false → x.ready ≡ true
    → is_established_phase x.debugger ≡ true
established-ready m settings w l x Established keeps s e o r = ap is_established_phase e
established-ready m settings w l x Closed keeps s e o r = let c : is_closed x.debugger ≡ true = ap is_closed e in absurd (cc)
established-ready m settings w l x AwaitingHandshake keeps s e o r =
    let none = (keeps.begins (s.debugger.phase ∙ e)).2 in
    let some = known-sizes w x.ready l.debugger.sizes (s.debugger.opened o).sizes r in
    absurd (cc)

not-open : (phase : Phase) → is_closed phase ≡ true → is_open_phase phase ≡ false
not-open Closed h = refl
not-open AwaitingHandshake h = absurd (cc)
not-open Established h = absurd (cc)

still-open : (phase : Phase) → is_closed phase ≡ false → is_open_phase phase ≡ true
still-open Closed h = absurd (cc)
still-open AwaitingHandshake h = refl
still-open Established h = refl

and-false : (b : Bool) → (b && false) ≡ false
and-false true = refl
and-false false = refl

-- what is tested behind the first two
abbrev open-refusal : {S : Type 0} → Settings → world.Measure → World S → Command → Option AskRefusal
open-refusal settings measure x c = cond (not (is_established_phase x.debugger && x.ready)) (Some events.NotReady) (cond (next.is_busy settings measure x) (Some events.Busy) (measure.unfit c))

abbrev ready-refusal : Widths → Debugger → Command → Option Refused
ready-refusal w d c = cond (is_busy d) (Some refused.Busy) (cond (not (is_for_target w c)) (Some refused.BadCommand) (cond (nat_lt d.end.limits.packet (packet_length w c)) (Some refused.TooLong) None))

ready-same : {S : Type 0} (m : Meaning S) (settings : Settings) (w : Widths) (l : Link S) (x : World S) (c : Command) → FindsMessages → (s : Parts m settings w l x) → is_closed x.debugger ≡ false
    → ready-refusal w l.debugger c ≡ option_map refusal_told (cond (next.is_busy settings (measured w settings.limits) x) (Some events.Busy) (unfit w settings.limits c))
ready-same m settings w l x c finds s o =
    ap (λ n. cond (is_busy l.debugger) (Some refused.Busy) (cond (not (is_for_target w c)) (Some refused.BadCommand) (cond (nat_lt n.packet (packet_length w c)) (Some refused.TooLong) None))) s.debugger.limits
    ∙ (ap (λ b. cond b (Some refused.Busy) (cond (not (is_for_target w c)) (Some refused.BadCommand) (cond (nat_lt settings.limits.packet (packet_length w c)) (Some refused.TooLong) None))) (same-busy m settings w l x finds s o)
    ∙ told-unfit (next.is_busy settings (measured w settings.limits) x) (is_for_target w c) (nat_lt settings.limits.packet (packet_length w c)))

open-same : {S : Type 0} (m : Meaning S) (settings : Settings) (w : Widths) (l : Link S) (x : World S) (c : Command) (ready : Bool) → FindsMessages → DebuggerKeeps l.debugger → (s : Parts m settings w l x) → is_closed x.debugger ≡ false → x.ready ≡ ready
    → refusal_by l.debugger.sizes l.debugger c ≡ option_map refusal_told (open-refusal settings (measured w settings.limits) x c)
open-same m settings w l x c false finds keeps s o r =
    let d = l.debugger in
    let none = unknown-sizes w x.ready d.sizes (s.debugger.opened o).sizes r in
    let early : (is_established_phase x.debugger && x.ready) ≡ false = ap (λ b. is_established_phase x.debugger && b) r ∙ and-false (is_established_phase x.debugger) in
    ap (λ sizes. refusal_by sizes d c) none
    ∙ sym (ap (λ b. option_map refusal_told (cond (not b) (Some events.NotReady) (cond (next.is_busy settings (measured w settings.limits) x) (Some events.Busy) (unfit w settings.limits c)))) early)
open-same m settings w l x c true finds keeps s o r =
    let d = l.debugger in
    let some = known-sizes w x.ready d.sizes (s.debugger.opened o).sizes r in
    let late : (is_established_phase x.debugger && x.ready) ≡ true = ap (λ b. is_established_phase x.debugger && b) r ∙ ap (λ b. b && true) (established-ready m settings w l x x.debugger keeps s refl o r) in
    ap (λ sizes. refusal_by sizes d c) some
    ∙ (ready-same m settings w l x c finds s o
    ∙ sym (ap (λ b. option_map refusal_told (cond (not b) (Some events.NotReady) (cond (next.is_busy settings (measured w settings.limits) x) (Some events.Busy) (unfit w settings.limits c)))) late))

refusal-by : {S : Type 0} (m : Meaning S) (settings : Settings) (w : Widths) (l : Link S) (x : World S) (c : Command) (closed : Bool) → FindsMessages → DebuggerKeeps l.debugger → (s : Parts m settings w l x) → is_closed x.debugger ≡ closed
    → refusal_of_ask l.debugger c ≡ option_map refusal_told (ask_refusal settings (measured w settings.limits) x c)
refusal-by m settings w l x c true finds keeps s shut =
    let unshut : is_open l.debugger.end ≡ false = ap is_open_phase s.debugger.phase ∙ not-open x.debugger shut in
    ap (λ b. cond b (refusal_by l.debugger.sizes l.debugger c) (Some refused.Closed)) unshut
    ∙ sym (ap (λ b. option_map refusal_told (cond b (Some events.Closed) (open-refusal settings (measured w settings.limits) x c))) shut)
refusal-by m settings w l x c false finds keeps s o =
    let unshut : is_open l.debugger.end ≡ true = ap is_open_phase s.debugger.phase ∙ still-open x.debugger o in
    ap (λ b. cond b (refusal_by l.debugger.sizes l.debugger c) (Some refused.Closed)) unshut
    ∙ (open-same m settings w l x c x.ready finds keeps s o refl
    ∙ sym (ap (λ b. option_map refusal_told (cond b (Some events.Closed) (open-refusal settings (measured w settings.limits) x c))) o))

pub same-refusal : {S : Type 0} (m : Meaning S) (settings : Settings) (w : Widths) (l : Link S) (x : World S) (c : Command) → FindsMessages → DebuggerKeeps l.debugger → Parts m settings w l x
    → refusal_of_ask l.debugger c ≡ option_map refusal_told (ask_refusal settings (measured w settings.limits) x c)
same-refusal m settings w l x c finds keeps s = refusal-by m settings w l x c (is_closed x.debugger) finds keeps s refl

same-widths : (w : Widths) (ready : Bool) (v : Widths) → Some v ≡ widths_where w ready → v ≡ w
same-widths w true v h = cc
same-widths w false v h = absurd (cc)

-- ---- it is sent

-- one more waits, and is under way
awaits-more : {S : Type 0} (pending : List Asked) (new : Asked) (sent : CallWire) (from : List (PacketWire S)) (deferred : List Waiting) (to : List CallWire) → wires.asked (sent ∷ []) ≡ waiting (new ∷ []) → Awaits pending from deferred to → Awaits (pending ++ new ∷ []) from deferred (to ++ sent ∷ [])
awaits-more pending new sent from deferred to same a p h =
    let before = replied from ++ (deferred ++ wires.asked to) in
    let whole : IsAmong p (before ++ waiting (new ∷ [])) = subst (IsAmong p) (asked-behind from deferred to sent ∙ ap (λ l. before ++ l) same) h in
    subst (IsAmong p) (sym (waiting-append pending (new ∷ [])))
    (elim (among-either p before (waiting (new ∷ [])) whole) [
      | inl b ↦ among-front p (waiting pending) (waiting (new ∷ [])) (a p b)
      | inr b ↦ among-back p (waiting pending) (waiting (new ∷ [])) b
    ])

asked-parts : {S : Type 0} (m : Meaning S) (settings : Settings) (w : Widths) (l : Link S) (x : World S) (c : Command) (id : ℕ) → (s : Parts m settings w l x) → is_closed x.debugger ≡ false
    → EncodesCommand w c → IsPacket settings.limits.packet (command_header w id c) (carried_bytes w c.carried)
    → Parts m settings w (record l { debugger = asked w id c l.debugger; did = false }) (asks x c)
asked-parts m settings w l x c id s o encoded sendable =
    let d = l.debugger in
    let unshut = s.debugger.opened o in
    let new : Asked = record { id = id; ticket = Some (record { 0 = d.tickets + 1 }); command = c } in
    let sent : CallWire = (id, Asks (Some (x.asked + 1)) c) in
    let ticket : d.tickets + 1 ≡ x.asked + 1 = ap (λ n. n + 1) s.debugger.tickets in
    record {
      target = record { same_settings = s.target.same_settings; limits = s.target.limits; sizes = s.target.sizes; now = s.target.now; phase = s.target.phase; lost = s.target.lost; deferring = s.target.deferring };
      debugger = record {
        order = s.debugger.order;
        limits = s.debugger.limits;
        phase = s.debugger.phase;
        tickets = ticket;
        mirror = s.debugger.mirror;
        opened = λ _. record {
          sizes = unshut.sizes;
          parked = unshut.parked;
          pending = ap without_ids (waiting-append d.pending (new ∷ [])) ∙ (without-append (waiting d.pending) (waiting (new ∷ [])) ∙ (ap (λ ps. ps ++ (Some (d.tickets + 1), c) ∷ []) unshut.pending ∙ ap (λ n. x.pending ++ (Some n, c) ∷ []) ticket));
          ticketed = λ r. all-append _ d.pending (new ∷ []) (unshut.ticketed r) (refl, tt);
        };
        none_waits = λ h. absurd (cc);
      };
      to = record {
        wires = s.to.wires ++ sent ∷ [];
        calls = without-append s.to.wires (sent ∷ []) ∙ ap (λ cs. cs ++ Asks (Some (x.asked + 1)) c ∷ []) s.to.calls;
        sent = all-append _ s.to.wires (sent ∷ []) s.to.sent ((sendable, (encoded, tt)), tt);
        cut = cut-asked w s.to.wires (sent ∷ []) x.at_target (way_to_target l) _ l.target.end l.target.end (is_closed x.target) refl
            (sym (append_assoc l.to_target d.end.outgoing (command_bytes w id c)) ∙ ap (λ b. way_to_target l ++ b) (sym (append-nil (packet_bytes (command_header w id c) (carried_bytes w c.carried))))) s.to.cut;
        kept = s.to.kept;
      };
      deferred = record { wires = s.deferred.wires; commands = s.deferred.commands; messages = s.deferred.messages; sent = s.deferred.sent };
      from = record {
        wires = s.from.wires;
        packets = s.from.packets;
        sent = s.from.sent;
        cut = record { number = s.from.cut.number; there = s.from.cut.there; left = s.from.cut.left };
        kept = s.from.kept;
        awaits = λ _. awaits-more d.pending new sent s.from.wires s.deferred.wires s.to.wires (ap (λ n. (id, (Some n, c)) ∷ []) (sym ticket)) (s.from.awaits o);
      };
    }

pub ask-parts : {S : Type 0} (m : Meaning S) (settings : Settings) (w : Widths) (l : Link S) (x : World S) (c : Command) (after : Debugger) → (s : Parts m settings w l x) → HasAsked c l.debugger after
    → Parts m settings w (record l { debugger = after; did = false }) (asks x c)
ask-parts m settings w l x c after s h =
    let o : is_closed x.debugger ≡ false = ap is_closed (sym s.debugger.phase ∙ h.established) in
    let same : h.widths ≡ w = same-widths w x.ready h.widths (sym h.known ∙ (s.debugger.opened o).sizes) in
    subst (λ d. Parts m settings w (record l { debugger = d; did = false }) (asks x c)) (sym (h.is ∙ ap (λ v. asked v h.id c l.debugger) same))
    (asked-parts m settings w l x c h.id s o (subst (λ v. EncodesCommand v c) same h.encoded)
    (subst (λ limits. IsPacket limits.packet (command_header w h.id c) (carried_bytes w c.carried)) s.debugger.limits (subst (λ v. IsPacket l.debugger.end.limits.packet (command_header v h.id c) (carried_bytes v c.carried)) same h.sendable)))
