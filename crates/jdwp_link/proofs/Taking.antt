-- the debugger takes a message off and handles it
use Rattle.std.proofs.Common.{◌≡◌, ◌≤◌, ℕ, ◌-◌, Bool, true, false, List, [], ◌∷◌, ◌++◌, drop, refl, sym, ◌∙◌, ap, subst}
use Rattle.std.proofs.lemmas.List.{append-nil, append_assoc}
use Rattle.jdwp_wire.specs.Streams.{message_bytes, stream}
use Rattle.jdwp_wire.specs.Widths.{Widths}
use Rattle.jdwp_end.specs.Ends as ends
use Rattle.jdwp_end.specs.declared.phase.Phase.{Phase}
use Rattle.jdwp_end.specs.declared.phase.Phase.TheVariants.{Established}
use Rattle.jdwp_machine.specs.Meanings.{Meaning}
use Rattle.jdwp_action.specs.Actions.{Command}
use Rattle.jdwp_debuggee.specs.Settings.{Settings}
use Rattle.jdwp_mirror.specs.Messages.{Call, Ticket}
use Rattle.jdwp_mirror.specs.Mirrors.{empty_mirror}
use Rattle.jdwp_debugger.specs.Debuggers.{Debugger, has_tickets}
use Rattle.jdwp_debugger.specs.DebuggerTurns.{Told}
use Rattle.jdwp_model.specs.Next.{closes_by, debugger_closed, debugger_turn}
use Rattle.jdwp_model.specs.World.{is_closed, Packet, World}
use Rattle.jdwp_model.specs.Measures.{measured, message_size}
use Rattle.jdwp_link.specs.EventParts.{outcomes_of}
use Rattle.jdwp_link.specs.Laws.{FindsMessages}
use Rattle.jdwp_link.specs.Links.{Link, way_to_target, way_to_debugger, debugger_lost}
use Rattle.jdwp_link.specs.Stands.{AreCut, AreParked, IsMirror, Parts, widths_where}
use Rattle.jdwp_link.specs.Wires.{CallWire, PacketWire, AreCalls, ArePackets, Awaits, HaveTickets, calls_sent, message_sent, packets_sent, waiting, without_ids}
use Rattle.jdwp_link.proofs.Cuts.{cut-shorter}
use Rattle.jdwp_link.proofs.Sizes.{message-length, without-append}
use Rattle.jdwp_link.proofs.Wired.{all-append, cut-asked}

-- ---- a message is taken off

-- what a debugger is that took off the first message, by what is learned of it; and it may ask something
pub takes-parts : {S : Type 0} (m : Meaning S) (settings : Settings) (w : Widths) (l : Link S) (x : World S) (did : Bool) (d : Debugger) (id : ℕ) (p : Packet S) (rest : List (PacketWire S)) (more : List CallWire)
    (ready : Bool) (parked read : List (Packet S)) (pending : List (Ticket × Command)) → FindsMessages → (s : Parts m settings w l x)
    → s.from.wires ≡ (id, p) ∷ rest → message_size w p.0 ≤ x.at_debugger → is_closed x.debugger ≡ false
    → d.order ≡ l.debugger.order → d.end.limits ≡ l.debugger.end.limits → d.end.phase ≡ Established → d.end.incoming ≡ drop (message_size w p.0) l.debugger.end.incoming → d.end.outgoing ≡ l.debugger.end.outgoing ++ stream (calls_sent w more)
    → d.tickets ≡ l.debugger.tickets → IsMirror d.mirror read → d.sizes ≡ widths_where w ready → AreParked w d.parked parked → without_ids (waiting d.pending) ≡ pending → (ready ≡ true → HaveTickets d.pending)
    → AreCalls w settings.limits.packet more → (Awaits l.debugger.pending s.from.wires s.deferred.wires s.to.wires → Awaits d.pending rest s.deferred.wires (s.to.wires ++ more))
    → Parts m settings w (record l { debugger = d; did = did })
    (record x { to_target = x.to_target ++ without_ids more; to_debugger = without_ids rest; at_debugger = x.at_debugger - message_size w p.0; debugger = Established; ready = ready; parked = parked; read = read; pending = pending })
takes-parts m settings w l x did d id p rest more ready parked read pending finds s first came o order limits phase incoming outgoing tickets mirror sizes waits pends ticketed can awaits =
    let cut : AreCut x.at_debugger (message_bytes (message_sent w id p.0) ++ stream (packets_sent w rest)) (way_to_debugger l) l.debugger.end (is_closed x.debugger) =
    subst (λ wires. AreCut x.at_debugger (stream (packets_sent w wires)) (way_to_debugger l) l.debugger.end (is_closed x.debugger)) first s.from.cut in
    let all : ArePackets w settings.limits.packet ((id, p) ∷ rest) = subst (ArePackets w settings.limits.packet) first s.from.sent in
    record {
      target = record { same_settings = s.target.same_settings; limits = s.target.limits; sizes = s.target.sizes; now = s.target.now; phase = s.target.phase; lost = s.target.lost; deferring = s.target.deferring };
      debugger = record {
        order = order ∙ s.debugger.order;
        limits = limits ∙ s.debugger.limits;
        phase = phase;
        tickets = tickets ∙ s.debugger.tickets;
        mirror = mirror;
        opened = λ _. record { sizes = sizes; parked = waits; pending = pends; ticketed = ticketed };
        none_waits = λ c. absurd (cc);
      };
      to = record {
        wires = s.to.wires ++ more;
        calls = without-append s.to.wires more ∙ ap (λ cs. cs ++ without_ids more) s.to.calls;
        sent = all-append _ s.to.wires more s.to.sent can;
        cut = cut-asked w s.to.wires more x.at_target (way_to_target l) _ l.target.end l.target.end (is_closed x.target) refl
            (ap (λ b. l.to_target ++ b) outgoing ∙ sym (append_assoc l.to_target l.debugger.end.outgoing (stream (calls_sent w more)))) s.to.cut;
        kept = λ _. s.to.kept o;
      };
      deferred = record { wires = s.deferred.wires; commands = s.deferred.commands; messages = s.deferred.messages; sent = s.deferred.sent };
      from = record {
        wires = rest;
        packets = refl;
        sent = all.1;
        cut = cut-shorter x.at_debugger (message_size w p.0) (message_bytes (message_sent w id p.0)) (stream (packets_sent w rest)) (way_to_debugger l) (way_to_debugger l) l.debugger.end d.end (is_closed x.debugger) false (message-length finds w id p.0) came o incoming refl cut;
        kept = s.from.kept;
        awaits = λ _. awaits (s.from.awaits o);
      };
    }

-- the same, where nothing is asked
pub takes-only : {S : Type 0} (m : Meaning S) (settings : Settings) (w : Widths) (l : Link S) (x : World S) (did : Bool) (d : Debugger) (id : ℕ) (p : Packet S) (rest : List (PacketWire S))
    (ready : Bool) (parked read : List (Packet S)) (pending : List (Ticket × Command)) → FindsMessages → (s : Parts m settings w l x)
    → s.from.wires ≡ (id, p) ∷ rest → message_size w p.0 ≤ x.at_debugger → is_closed x.debugger ≡ false
    → d.order ≡ l.debugger.order → d.end.limits ≡ l.debugger.end.limits → d.end.phase ≡ Established → d.end.incoming ≡ drop (message_size w p.0) l.debugger.end.incoming → d.end.outgoing ≡ l.debugger.end.outgoing
    → d.tickets ≡ l.debugger.tickets → IsMirror d.mirror read → d.sizes ≡ widths_where w ready → AreParked w d.parked parked → without_ids (waiting d.pending) ≡ pending → (ready ≡ true → HaveTickets d.pending)
    → (Awaits l.debugger.pending s.from.wires s.deferred.wires s.to.wires → Awaits d.pending rest s.deferred.wires s.to.wires) → x.debugger ≡ Established
    → Parts m settings w (record l { debugger = d; did = did })
    (record x { to_debugger = without_ids rest; at_debugger = x.at_debugger - message_size w p.0; ready = ready; parked = parked; read = read; pending = pending })
takes-only m settings w l x did d id p rest ready parked read pending finds s first came o order limits phase incoming outgoing tickets mirror sizes waits pends ticketed awaits established =
    let same = takes-parts m settings w l x did d id p rest [] ready parked read pending finds s first came o order limits phase incoming (outgoing ∙ sym (append-nil l.debugger.end.outgoing)) tickets mirror sizes waits pends ticketed tt
    (λ a. subst (Awaits d.pending rest s.deferred.wires) (sym (append-nil s.to.wires)) (awaits a)) in
    let after = λ (calls : List Call) (phase : Phase). record x { to_target = calls; to_debugger = without_ids rest; at_debugger = x.at_debugger - message_size w p.0; debugger = phase; ready = ready; parked = parked; read = read; pending = pending } in
    subst (λ y. Parts m settings w (record l { debugger = d; did = did }) y) (ap (λ cs. after cs Established) (append-nil x.to_target) ∙ ap (after x.to_target) (sym established)) same

-- ---- the end closes

-- a debugger whose end closed, with what waits for replies
pub record IsShut (unshut after : Debugger) : Type 0 where
  pub order : after.order ≡ unshut.order
  pub end : after.end ≡ ends.closed_end unshut.end
  pub mirror : after.mirror ≡ empty_mirror
  pub tickets : after.tickets ≡ unshut.tickets
  pub pending : after.pending ≡ unshut.pending

pub shut-parts : {S : Type 0} (m : Meaning S) (settings : Settings) (w : Widths) (l : Link S) (y : World S) (unshut after : Debugger) (did : Bool) → IsShut unshut after → has_tickets unshut.pending ≡ false
    → Parts m settings w (record l { debugger = unshut; did = did }) y → Parts m settings w (record l { debugger = after; did = did }) (debugger_closed y)
shut-parts {S} m settings w l y unshut after did h none s = record {
  target = record { same_settings = s.target.same_settings; limits = s.target.limits; sizes = s.target.sizes; now = s.target.now; phase = s.target.phase; lost = s.target.lost; deferring = s.target.deferring };
  debugger = record {
    order = h.order ∙ s.debugger.order;
    limits = ap (λ e. e.limits) h.end ∙ s.debugger.limits;
    phase = ap (λ e. e.phase) h.end;
    tickets = h.tickets ∙ s.debugger.tickets;
    mirror = subst (λ q. IsMirror {S = S} q []) (sym h.mirror) (record { counts = λ t. refl; held = λ t. refl; requests = refl });
    opened = λ o. absurd (cc);
    none_waits = λ c. ap has_tickets h.pending ∙ none;
  };
  to = record {
    wires = s.to.wires;
    calls = s.to.calls;
    sent = s.to.sent;
    cut = record { number = s.to.cut.number; there = s.to.cut.there; left = ap (λ e. l.to_target ++ e.outgoing) h.end ∙ s.to.cut.left };
    kept = λ o. absurd (cc);
  };
  deferred = record { wires = s.deferred.wires; commands = s.deferred.commands; messages = s.deferred.messages; sent = s.deferred.sent };
  from = record {
    wires = s.from.wires;
    packets = s.from.packets;
    sent = s.from.sent;
    cut = record { number = s.from.cut.number; there = λ o. absurd (cc); left = s.from.cut.left };
    kept = s.from.kept;
    awaits = λ o. absurd (cc);
  };
}

-- it loses the connection, where tickets wait
pub shut-lost : {S : Type 0} (m : Meaning S) (settings : Settings) (w : Widths) (l : Link S) (y : World S) (unshut after : Debugger) (did : Bool) → IsShut unshut after
    → Parts m settings w (record l { debugger = unshut; did = did }) y → Parts m settings w (record (debugger_lost (record l { debugger = after })) { did = did }) (debugger_closed y)
shut-lost m settings w l y unshut after did h s = record {
  target = record { same_settings = s.target.same_settings; limits = s.target.limits; sizes = s.target.sizes; now = s.target.now; phase = s.target.phase; lost = s.target.lost; deferring = s.target.deferring };
  debugger = record {
    order = h.order ∙ s.debugger.order;
    limits = ap (λ e. e.limits) h.end ∙ s.debugger.limits;
    phase = refl;
    tickets = h.tickets ∙ s.debugger.tickets;
    mirror = record { counts = λ t. refl; held = λ t. refl; requests = refl };
    opened = λ o. absurd (cc);
    none_waits = λ c. refl;
  };
  to = record {
    wires = s.to.wires;
    calls = s.to.calls;
    sent = s.to.sent;
    cut = record { number = s.to.cut.number; there = s.to.cut.there; left = append-nil (l.to_target ++ after.end.outgoing) ∙ (ap (λ e. l.to_target ++ e.outgoing) h.end ∙ s.to.cut.left) };
    kept = λ o. absurd (cc);
  };
  deferred = record { wires = s.deferred.wires; commands = s.deferred.commands; messages = s.deferred.messages; sent = s.deferred.sent };
  from = record {
    wires = s.from.wires;
    packets = s.from.packets;
    sent = s.from.sent;
    cut = record { number = s.from.cut.number; there = λ o. absurd (cc); left = s.from.cut.left };
    kept = s.from.kept;
    awaits = λ o. absurd (cc);
  };
}

-- ---- a turn

abbrev pub Shuts : Bool → Debugger → Debugger → Type 0
Shuts false unshut after = after ≡ unshut
Shuts true unshut after = IsShut unshut after

-- What a turn that handles a message makes of a link: a debugger that is unshut, whose end then closes or doesn't.
pub record Turned {S : Type 0} (m : Meaning S) (settings : Settings) (w : Widths) (l : Link S) (x : World S) (t : Told) (after : Debugger) : Type 0 where
  pub unshut : Debugger
  pub world : World S
  pub closes : Bool
  pub opened : is_closed world.debugger ≡ false
  pub parts : (did : Bool) → Parts m settings w (record l { debugger = unshut; did = did }) world
  pub shuts : Shuts closes unshut after
  pub is : debugger_turn settings (measured w settings.limits) x ≡ closes_by world (outcomes_of t) closes
