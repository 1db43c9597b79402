-- an end notices that the connection is lost
use Rattle.std.proofs.Common.{◌≡◌, Bool, true, false, ◌||◌, Option, Some, None, is_some, List, [], ◌∷◌, refl, sym, ◌∙◌, ap}
use Rattle.std.proofs.lemmas.List.{append-nil}
use Rattle.jdwp_wire.specs.Widths.{Widths}
use Rattle.jdwp_machine.specs.Meanings.{Meaning}
use Rattle.jdwp_debuggee.specs.Settings.{Settings}
use Rattle.jdwp_debugger.specs.Debuggers.{Asked, has_tickets, tickets_of}
use Rattle.jdwp_debugger.specs.declared.pending.Ticket.{Ticket}
use Rattle.jdwp_target.specs.Standings as standings
use Rattle.jdwp_model.specs.Next.{debugger_closed, lost_tickets, target_loses}
use Rattle.jdwp_model.specs.World.{is_closed, World}
use Rattle.jdwp_link.specs.declared.events.Outcome.TheVariants as outcome
use Rattle.jdwp_link.specs.EventParts.{lost_of}
use Rattle.jdwp_link.specs.Links.{Link, way_to_target, way_to_debugger, target_lost, debugger_lost}
use Rattle.jdwp_link.specs.Stands.{Parts, DebuggerStands}
use Rattle.jdwp_link.specs.Told.{told_outcomes}
use Rattle.jdwp_link.specs.Wires.{ticket_of, waiting, without_ids}
use Rattle.jdwp_link.proofs.Reached.{Known}
use Rattle.jdwp_link.proofs.Wired.{awaits-dropped}

-- ---- the target

pub loses-target : {S : Type 0} (m : Meaning S) (settings : Settings) (w : Widths) (l : Link S) (x : World S) → Parts m settings w l x → Parts m settings w (target_lost l) (target_loses x)
loses-target m settings w l x s = record {
  target = record { same_settings = s.target.same_settings; limits = s.target.limits; sizes = s.target.sizes; now = ap standings.reset_moment s.target.now; phase = refl; lost = refl; deferring = s.target.deferring };
  debugger = record {
    order = s.debugger.order;
    limits = s.debugger.limits;
    phase = s.debugger.phase;
    tickets = s.debugger.tickets;
    mirror = s.debugger.mirror;
    opened = λ o. let d = s.debugger.opened o in record { sizes = d.sizes; parked = d.parked; pending = d.pending; ticketed = d.ticketed };
    none_waits = s.debugger.none_waits;
  };
  to = record {
    wires = s.to.wires;
    calls = s.to.calls;
    sent = s.to.sent;
    cut = record { number = s.to.cut.number; there = λ o. absurd (cc); left = s.to.cut.left };
    kept = s.to.kept;
  };
  deferred = record { wires = []; commands = refl; messages = refl; sent = tt };
  from = record {
    wires = s.from.wires;
    packets = s.from.packets;
    sent = s.from.sent;
    cut = record { number = s.from.cut.number; there = s.from.cut.there; left = append-nil (way_to_debugger l) ∙ s.from.cut.left };
    kept = λ o. absurd (cc);
    awaits = λ o. awaits-dropped l.debugger.pending s.from.wires s.deferred.wires s.to.wires (s.from.awaits o);
  };
}

-- ---- the debugger

pub loses-debugger : {S : Type 0} (m : Meaning S) (settings : Settings) (w : Widths) (l : Link S) (x : World S) (did : Bool) → Parts m settings w l x → Parts m settings w (record (debugger_lost l) { did = did }) (debugger_closed x)
loses-debugger m settings w l x did s = record {
  target = record { same_settings = s.target.same_settings; limits = s.target.limits; sizes = s.target.sizes; now = s.target.now; phase = s.target.phase; lost = s.target.lost; deferring = s.target.deferring };
  debugger = record {
    order = s.debugger.order;
    limits = s.debugger.limits;
    phase = refl;
    tickets = s.debugger.tickets;
    mirror = record { counts = λ t. refl; held = λ t. refl; requests = refl };
    opened = λ o. absurd (cc);
    none_waits = λ c. refl;
  };
  to = record {
    wires = s.to.wires;
    calls = s.to.calls;
    sent = s.to.sent;
    cut = record { number = s.to.cut.number; there = s.to.cut.there; left = append-nil (way_to_target l) ∙ s.to.cut.left };
    kept = λ o. absurd (cc);
  };
  deferred = record { wires = s.deferred.wires; commands = s.deferred.commands; messages = s.deferred.messages; sent = s.deferred.sent };
  from = record {
    wires = s.from.wires;
    packets = s.from.packets;
    sent = s.from.sent;
    cut = record { number = s.from.cut.number; there = λ o. absurd (cc); left = s.from.cut.left };
    kept = s.from.kept;
    awaits = λ o. absurd (cc);
  };
}

-- ---- the tickets that are lost

lost-one : (p : Asked) (ticket : Option Ticket) (ps : List Asked) → lost_of (tickets_of ps) ≡ told_outcomes (lost_tickets (without_ids (waiting ps)))
    → lost_of (tickets_of (record p { ticket = ticket } ∷ ps)) ≡ told_outcomes (lost_tickets ((ticket_of ticket, p.command) ∷ without_ids (waiting ps)))
lost-one p None ps e = e
lost-one p (Some k) ps e = ap (λ l. outcome.Lost k ∷ l) e

pub lost-told : (ps : List Asked) → lost_of (tickets_of ps) ≡ told_outcomes (lost_tickets (without_ids (waiting ps)))
lost-told [] = refl
lost-told (p ∷ ps) = lost-one p p.ticket ps (lost-told ps)

none-one : (p : Asked) (ticket : Option Ticket) (ps : List Asked) → (is_some ticket || has_tickets ps) ≡ false → (has_tickets ps ≡ false → tickets_of ps ≡ []) → tickets_of (record p { ticket = ticket } ∷ ps) ≡ []
none-one p None ps h rest = rest h
none-one p (Some k) ps h rest = absurd (cc)

pub none-lost : (ps : List Asked) → has_tickets ps ≡ false → tickets_of ps ≡ []
none-lost [] h = refl
none-lost (p ∷ ps) h = none-one p p.ticket ps h (none-lost ps)

-- what is told as the debugger loses the connection
tells-by : {S : Type 0} (m : Meaning S) (settings : Settings) (w : Widths) (l : Link S) (x : World S) (b : Bool) → is_closed x.debugger ≡ b → Known m settings x → DebuggerStands settings w l.debugger x
    → lost_of (tickets_of l.debugger.pending) ≡ told_outcomes (lost_tickets x.pending)
tells-by m settings w l x true c k d = ap lost_of (none-lost l.debugger.pending (d.none_waits c)) ∙ ap (λ ps. told_outcomes (lost_tickets ps)) (sym (k.shut c))
tells-by m settings w l x false o k d = lost-told l.debugger.pending ∙ ap (λ ps. told_outcomes (lost_tickets ps)) (d.opened o).pending

pub loses-tells : {S : Type 0} (m : Meaning S) (settings : Settings) (w : Widths) (l : Link S) (x : World S) → Known m settings x → Parts m settings w l x → lost_of (tickets_of l.debugger.pending) ≡ told_outcomes (lost_tickets x.pending)
loses-tells m settings w l x k s = tells-by m settings w l x (is_closed x.debugger) refl k s.debugger
