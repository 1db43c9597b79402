-- a turn of the debugger, and the tickets that are lost where it closes
use Rattle.std.proofs.Common.{◌≡◌, ◌<◌, ◌^◌, ℕ, ◌⊎◌, inl, inr, Bool, true, false, ◌&&◌, not, None, is_some, List, [], ◌∷◌, ◌++◌, Ok, Err, refl, sym, ◌∙◌, ap, subst}
use Rattle.std.proofs.lemmas.List.{append-nil}
use Rattle.jdwp_wire.specs.Streams as streams
use Rattle.jdwp_wire.specs.Widths.{Widths}
use Rattle.jdwp_wire.specs.declared.packet.Header.{Header}
use Rattle.jdwp_end.specs.declared.phase.Phase.{Phase}
use Rattle.jdwp_end.specs.declared.phase.Phase.TheVariants.{Closed, AwaitingHandshake, Established}
use Rattle.jdwp_end.specs.Ends.{front_of, is_open, is_open_phase}
use Rattle.jdwp_machine.specs.Meanings.{Meaning}
use Rattle.jdwp_debuggee.specs.Settings.{Settings}
use Rattle.jdwp_debugger.specs.Debuggers.{Debugger, has_tickets, is_front, tickets_of}
use Rattle.jdwp_debugger.specs.DebuggerTurns as turns
use Rattle.jdwp_debugger.specs.DebuggerTurns.{Enters, FailsAt, HandlesAt, Told, TurnsAt}
use Rattle.jdwp_debugger.specs.News.{Answers, Happens, Measures, News, Waits}
use Rattle.jdwp_debugger.specs.declared.faults.DebuggerFault.{DebuggerFault}
use Rattle.jdwp_debugger.specs.declared.faults.DebuggerFault.TheVariants as fault
use Rattle.jdwp_debugger.specs.declared.turning.Read.{Read}
use Rattle.jdwp_debugger.specs.declared.turning.Read.TheVariants as read
use Rattle.jdwp_model.specs.Events
use Rattle.jdwp_model.specs.Next.{acts, closes_by, debugger_turn, debugger_turn_at, lost_tickets}
use Rattle.jdwp_model.specs.World.{is_closed, World}
use Rattle.jdwp_model.specs.Measures.{measured, message_size}
use Rattle.jdwp_link.specs.Clauses.{Goes, MayStop}
use Rattle.jdwp_link.specs.EventParts.{is_left, lost_of, lost_where, outcomes_of, settled, told_did}
use Rattle.jdwp_link.specs.Insides.{DebuggerKeeps}
use Rattle.jdwp_link.specs.Laws.{HoldsOfWorlds, Laws}
use Rattle.jdwp_link.specs.Links.{Link, debugger_lost}
use Rattle.jdwp_link.specs.Stands.{IsLink, Parts, StandsFor}
use Rattle.jdwp_link.specs.Told.{told_outcomes}
use Rattle.jdwp_link.specs.Wires.{message_sent}
use Rattle.jdwp_link.proofs.Finding.{HasMessage, IsStill, debugger-has}
use Rattle.jdwp_link.proofs.Losing.{lost-told, none-lost}
use Rattle.jdwp_link.proofs.Reached.{Known, goes, known}
use Rattle.jdwp_link.proofs.Reading.{HandlesSo, read-turn}
use Rattle.jdwp_link.proofs.Taking.{IsShut, Shuts, shut-lost, shut-parts}
use Rattle.jdwp_link.proofs.Unrefused.{IsUnrefused, unrefused}

-- ---- where the end closed

told-append : (xs ys : List Events.Outcome) → told_outcomes (xs ++ ys) ≡ told_outcomes xs ++ told_outcomes ys
told-append [] ys = refl
told-append (x ∷ xs) ys = ap (λ l. told_outcomes (x ∷ []) ++ l) (told-append xs ys)

-- what is left of a turn and told of it
pub record Settles {S : Type 0} (m : Meaning S) (settings : Settings) (w : Widths) (l : Link S) (x : World S) (t : Told) (after : Debugger) (did : Bool) : Type 0 where
  pub parts : Parts m settings w (settled (is_left after) (record l { debugger = after; did = did })) (debugger_turn settings (measured w settings.limits) x).0
  pub tells : told_outcomes (outcomes_of t) ++ lost_where (is_left after) after ≡ told_outcomes (debugger_turn settings (measured w settings.limits) x).1

is-unshut : (phase : Phase) → is_closed phase ≡ false → is_open_phase phase ≡ true
is-unshut Closed h = absurd (cc)
is-unshut AwaitingHandshake h = refl
is-unshut Established h = refl

lost-pending : {S : Type 0} (m : Meaning S) (settings : Settings) (w : Widths) (l : Link S) (y : World S) (unshut after : Debugger) (did : Bool) → is_closed y.debugger ≡ false → Parts m settings w (record l { debugger = unshut; did = did }) y → IsShut unshut after
    → lost_of (tickets_of after.pending) ≡ told_outcomes (lost_tickets y.pending)
lost-pending m settings w l y unshut after did o s shut =
    ap (λ ps. lost_of (tickets_of ps)) shut.pending ∙ (lost-told unshut.pending ∙ ap (λ ps. told_outcomes (lost_tickets ps)) (s.debugger.opened o).pending)

settle-shut : {S : Type 0} (m : Meaning S) (settings : Settings) (w : Widths) (l : Link S) (x y : World S) (t : Told) (unshut after : Debugger) (did waits : Bool) → has_tickets after.pending ≡ waits → is_closed y.debugger ≡ false
    → Parts m settings w (record l { debugger = unshut; did = did }) y → IsShut unshut after → debugger_turn settings (measured w settings.limits) x ≡ closes_by y (outcomes_of t) true → Settles m settings w l x t after did
settle-shut m settings w l x y t unshut after did true waits o s shut is =
    let closed : is_open after.end ≡ false = ap is_open shut.end in
    let left : is_left after ≡ true = ap (λ b. not b && has_tickets after.pending) closed ∙ waits in
    record {
      parts = subst (λ b. Parts m settings w (settled b (record l { debugger = after; did = did })) (debugger_turn settings (measured w settings.limits) x).0) (sym left)
          (subst (λ r. Parts m settings w (record (debugger_lost (record l { debugger = after })) { did = did }) r.0) (sym is) (shut-lost m settings w l y unshut after did shut s));
      tells = ap (λ b. told_outcomes (outcomes_of t) ++ lost_where b after) left
          ∙ (ap (λ os. told_outcomes (outcomes_of t) ++ os) (lost-pending m settings w l y unshut after did o s shut) ∙ (sym (told-append (outcomes_of t) (lost_tickets y.pending)) ∙ ap (λ r. told_outcomes r.1) (sym is)));
    }
settle-shut m settings w l x y t unshut after did false waits o s shut is =
    let closed : is_open after.end ≡ false = ap is_open shut.end in
    let left : is_left after ≡ false = ap (λ b. not b && has_tickets after.pending) closed ∙ waits in
    let none : [] ≡ told_outcomes (lost_tickets y.pending) = sym (ap lost_of (none-lost after.pending waits)) ∙ lost-pending m settings w l y unshut after did o s shut in
    record {
      parts = subst (λ b. Parts m settings w (settled b (record l { debugger = after; did = did })) (debugger_turn settings (measured w settings.limits) x).0) (sym left)
          (subst (λ r. Parts m settings w (record l { debugger = after; did = did }) r.0) (sym is) (shut-parts m settings w l y unshut after did shut (ap has_tickets (sym shut.pending) ∙ waits) s));
      tells = ap (λ b. told_outcomes (outcomes_of t) ++ lost_where b after) left
          ∙ (ap (λ os. told_outcomes (outcomes_of t) ++ os) none ∙ (sym (told-append (outcomes_of t) (lost_tickets y.pending)) ∙ ap (λ r. told_outcomes r.1) (sym is)));
    }

settle-by : {S : Type 0} (m : Meaning S) (settings : Settings) (w : Widths) (l : Link S) (x y : World S) (t : Told) (unshut after : Debugger) (did closes : Bool) → is_closed y.debugger ≡ false
    → Parts m settings w (record l { debugger = unshut; did = did }) y → Shuts closes unshut after → debugger_turn settings (measured w settings.limits) x ≡ closes_by y (outcomes_of t) closes → Settles m settings w l x t after did
settle-by m settings w l x y t unshut after did false o s shut is =
    let live : is_open after.end ≡ true = ap (λ d. is_open d.end) shut ∙ (ap is_open_phase s.debugger.phase ∙ is-unshut y.debugger o) in
    let none : is_left after ≡ false = ap (λ b. not b && has_tickets after.pending) live in
    record {
      parts = subst (λ b. Parts m settings w (settled b (record l { debugger = after; did = did })) (debugger_turn settings (measured w settings.limits) x).0) (sym none)
          (subst (λ r. Parts m settings w (record l { debugger = after; did = did }) r.0) (sym is) (subst (λ d. Parts m settings w (record l { debugger = d; did = did }) y) (sym shut) s));
      tells = ap (λ b. told_outcomes (outcomes_of t) ++ lost_where b after) none ∙ (append-nil (told_outcomes (outcomes_of t)) ∙ ap (λ r. told_outcomes r.1) (sym is));
    }
settle-by m settings w l x y t unshut after did true o s shut is =
    settle-shut m settings w l x y t unshut after did (has_tickets after.pending) refl o s shut is

-- ---- a turn that handles none

still-parts : {S : Type 0} (m : Meaning S) (settings : Settings) (w : Widths) (l : Link S) (x : World S) (did : Bool) → Parts m settings w l x → Parts m settings w (record l { debugger = record l.debugger { last = [] }; did = did }) x
still-parts m settings w l x did s = record {
  target = s.target;
  debugger = record {
    order = s.debugger.order;
    limits = s.debugger.limits;
    phase = s.debugger.phase;
    tickets = s.debugger.tickets;
    mirror = s.debugger.mirror;
    opened = λ o. let d = s.debugger.opened o in record { sizes = d.sizes; parked = d.parked; pending = d.pending; ticketed = d.ticketed };
    none_waits = s.debugger.none_waits;
  };
  to = record { wires = s.to.wires; calls = s.to.calls; sent = s.to.sent; cut = s.to.cut; kept = s.to.kept };
  deferred = s.deferred;
  from = record { wires = s.from.wires; packets = s.from.packets; sent = s.from.sent; cut = record { number = s.from.cut.number; there = s.from.cut.there; left = s.from.cut.left }; kept = s.from.kept; awaits = s.from.awaits };
}

pub none-left : {S : Type 0} (m : Meaning S) (settings : Settings) (w : Widths) (l : Link S) (x : World S) (b : Bool) → Parts m settings w l x → is_closed x.debugger ≡ b → is_left l.debugger ≡ false
none-left m settings w l x true s c = ap (λ t. not (is_open l.debugger.end) && t) (s.debugger.none_waits c) ∙ elim (not (is_open l.debugger.end)) as (λ b. (b && false) ≡ false) [ true ↦ refl | false ↦ refl ]
none-left m settings w l x false s o = ap (λ b. not b && has_tickets l.debugger.pending) (ap is_open_phase s.debugger.phase ∙ is-unshut x.debugger o)

still-settles : {S : Type 0} (m : Meaning S) (settings : Settings) (w : Widths) (l : Link S) (x : World S) (did : Bool) → Parts m settings w l x → IsStill settings w l.debugger.end x → Settles m settings w l x turns.Nothing (record l.debugger { last = [] }) did
still-settles m settings w l x did s h =
    let none : is_left (record l.debugger { last = [] }) ≡ false = none-left m settings w l x (is_closed x.debugger) s refl in
    let is : debugger_turn settings (measured w settings.limits) x ≡ (x, []) = ap (debugger_turn_at (measured w settings.limits) x) h.none in
    record {
      parts = subst (λ b. Parts m settings w (settled b (record l { debugger = record l.debugger { last = [] }; did = did })) (debugger_turn settings (measured w settings.limits) x).0) (sym none)
          (subst (λ r. Parts m settings w (record l { debugger = record l.debugger { last = [] }; did = did }) r.0) (sym is) (still-parts m settings w l x did s));
      tells = ap (λ b. lost_where b (record l.debugger { last = [] })) none ∙ ap (λ r. told_outcomes r.1) (sym is);
    }

-- ---- all of it

-- a turn that handles a message tells of one
handled-so : (message : streams.Message) (used : ℕ) (old : Debugger) (r : Read) (after : Debugger) → HandlesAt message used old (Ok r) after → HandlesSo message used old (turns.read_meaning r) after
handled-so streams.Handshake used old r after h = h
handled-so (streams.Packet header body) used old r after h = h

entered-did : (header : Header) (body : List ℕ) (used : ℕ) (old : Debugger) (t : Told) (after : Debugger) (news : News) → Enters (streams.Packet header body) used header news old t after → told_did t ≡ true
entered-did header body used old t after (Waits bytes) h = ap told_did h.0
entered-did header body used old t after (Happens c) h = ap told_did h.0
entered-did header body used old t after (Answers place ticket answer) h = ap told_did h.0
entered-did header body used old t after (Measures place answer w cs) h = ap told_did h.0

handled-did : (message : streams.Message) (used : ℕ) (old : Debugger) (t : Told) (after : Debugger) → HandlesSo message used old t after → told_did t ≡ true
handled-did streams.Handshake used old t after h = ap told_did h.0
handled-did (streams.Packet header body) used old t after h = entered-did header body used old t after h.news h.entered

settled-did : {S : Type 0} (b : Bool) (l : Link S) → (settled b l).did ≡ l.did
settled-did true l = refl
settled-did false l = refl

-- what a turn that answers leaves of a world, and tells
pub record Answered {S : Type 0} (m : Meaning S) (settings : Settings) (w : Widths) (l : Link S) (x : World S) (t : Told) (after : Debugger) : Type 0 where
  pub settles : (did : Bool) → Settles m settings w l x t after did
  pub did : told_did t ≡ acts m settings (measured w settings.limits) x Events.DebuggerTurn

answers-by : {S : Type 0} (m : Meaning S) (settings : Settings) (w : Widths) (l : Link S) (x : World S) (r : Read) (after : Debugger) → Laws m → Known m settings x → DebuggerKeeps l.debugger → (s : Parts m settings w l x)
    → IsStill settings w l.debugger.end x ⊎ HasMessage settings w l.debugger.end x s.from.wires → TurnsAt (front_of l.debugger.end) l.debugger (Ok r) after → Answered m settings w l x (turns.read_meaning r) after
answers-by m settings w l x r after laws known keeps s (inl h) so =
    let (told, same) = subst (λ f. TurnsAt f l.debugger (Ok r) after) h.front so in
    let nothing : r ≡ read.Nothing = cc in
    record {
      settles = λ did. subst (λ q. Settles m settings w l x (turns.read_meaning q) after did) (sym nothing) (subst (λ d. Settles m settings w l x turns.Nothing d did) (sym same) (still-settles m settings w l x did s h));
      did = ap (λ q. told_did (turns.read_meaning q)) nothing ∙ sym (ap is_some h.none);
    }
answers-by m settings w l x r after laws known keeps s (inr h) so =
    let handles = handled-so (message_sent w h.id h.packet.0) (message_size w h.packet.0) l.debugger r after (subst (λ f. TurnsAt f l.debugger (Ok r) after) h.front so) in
    let turned = read-turn m settings w l x (turns.read_meaning r) after laws known keeps s h handles in
    record {
      settles = λ did. settle-by m settings w l x turned.world (turns.read_meaning r) turned.unshut after did turned.closes turned.opened (turned.parts did) turned.shuts turned.is;
      did = handled-did (message_sent w h.id h.packet.0) (message_size w h.packet.0) l.debugger (turns.read_meaning r) after handles ∙ sym (ap is_some h.some);
    }

pub goes-read : {S : Type 0} (m : Meaning S) → HoldsOfWorlds m → (l : Link S) (r : Read) (after : Debugger) → Laws m → l.target.settings.limits.packet < 2 ^ 32 → DebuggerKeeps l.debugger → TurnsAt (front_of l.debugger.end) l.debugger (Ok r) after
    → Goes m Events.DebuggerTurn l (settled (is_left after) (record l { debugger = after; did = told_did (turns.read_meaning r) })) (told_outcomes (outcomes_of (turns.read_meaning r)) ++ lost_where (is_left after) after)
goes-read {S} m worlds l r after laws small keeps so =
    let all = λ (x : World S) (s : StandsFor m l x). let k = known m worlds l.target.settings (m.sizes l.target.moment.machine) x s.reached in
    answers-by m l.target.settings (m.sizes l.target.moment.machine) l x r after laws k keeps s.parts (debugger-has m l.target.settings (m.sizes l.target.moment.machine) l x laws.finds small k s.parts) so in
    goes m Events.DebuggerTurn l (settled (is_left after) (record l { debugger = after; did = told_did (turns.read_meaning r) })) (told_outcomes (outcomes_of (turns.read_meaning r)) ++ lost_where (is_left after) after)
    (λ x s. ((all x s).settles (told_did (turns.read_meaning r))).parts) (λ x s. ((all x s).settles (told_did (turns.read_meaning r))).tells)
    (λ x s. settled-did (is_left after) (record l { debugger = after; did = told_did (turns.read_meaning r) }) ∙ (all x s).did)

-- ---- a turn that fails

-- a message that is not refused fails for want of memory alone
fails-at : (header : Header) (body : List ℕ) (old : Debugger) (f : DebuggerFault) (after : Debugger) → turns.refusal old header body ≡ None → FailsAt header body old f after → (f ≡ fault.NoMemory) × (after ≡ old)
fails-at header body old fault.NoMemory after h (wants, same) = (refl, same)
fails-at header body old f after h (refuses, same) = absurd (cc)

fails-message : (message : streams.Message) (used : ℕ) (old : Debugger) (f : DebuggerFault) (after : Debugger) → IsUnrefused old message → HandlesAt message used old (Err f) after → (f ≡ fault.NoMemory) × (after ≡ old)
fails-message streams.Handshake used old f after h (is, same) = (is, same)
fails-message (streams.Packet header body) used old f after h so = fails-at header body old f after h so

fails-by : {S : Type 0} (m : Meaning S) (settings : Settings) (w : Widths) (l : Link S) (x : World S) (f : DebuggerFault) (after : Debugger) → Laws m → Known m settings x → DebuggerKeeps l.debugger → (s : Parts m settings w l x)
    → IsStill settings w l.debugger.end x ⊎ HasMessage settings w l.debugger.end x s.from.wires → TurnsAt (front_of l.debugger.end) l.debugger (Err f) after
    → (f ≡ fault.NoMemory) × (after ≡ l.debugger) × MayStop m l Events.DebuggerTurn
fails-by m settings w l x f after laws known keeps s (inl h) so = let (told, same) = subst (λ q. TurnsAt q l.debugger (Err f) after) h.front so in absurd (cc)
fails-by m settings w l x f after laws known keeps s (inr h) so =
    let fails = fails-message (message_sent w h.id h.packet.0) (message_size w h.packet.0) l.debugger f after (unrefused m settings w l x laws known keeps s h) (subst (λ q. TurnsAt q l.debugger (Err f) after) h.front so) in
    (fails.0, fails.1, ap is_front h.front)

pub read-fails : {S : Type 0} (m : Meaning S) → HoldsOfWorlds m → (l : Link S) (f : DebuggerFault) (after : Debugger) → Laws m → l.target.settings.limits.packet < 2 ^ 32 → DebuggerKeeps l.debugger → IsLink m l → TurnsAt (front_of l.debugger.end) l.debugger (Err f) after
    → (f ≡ fault.NoMemory) × (after ≡ l.debugger) × MayStop m l Events.DebuggerTurn
read-fails m worlds l f after laws small keeps link so =
    let x = link.world in
    let s = link.stands in
    let k = known m worlds l.target.settings (m.sizes l.target.moment.machine) x s.reached in
    fails-by m l.target.settings (m.sizes l.target.moment.machine) l x f after laws k keeps s.parts (debugger-has m l.target.settings (m.sizes l.target.moment.machine) l x laws.finds small k s.parts) so
