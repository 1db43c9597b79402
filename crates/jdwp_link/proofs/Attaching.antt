-- a new session begins
use Rattle.std.proofs.Common.{◌≡◌, Bool, true, false, ◌&&◌, not, cond, [], ◌∷◌, refl, sym, ◌∙◌, ap, subst, arith}
use Rattle.std.proofs.lemmas.List.{append-nil}
use Rattle.jdwp_wire.specs.Handshake.{handshake_bytes}
use Rattle.jdwp_wire.specs.Widths.{Widths}
use Rattle.jdwp_end.specs.Ends.{is_open_phase}
use Rattle.jdwp_machine.specs.Meanings.{Meaning}
use Rattle.jdwp_debuggee.specs.Settings.{Settings}
use Rattle.jdwp_mirror.specs.Messages.{Greets}
use Rattle.jdwp_model.specs.Next as next
use Rattle.jdwp_model.specs.World.{is_closed, World}
use Rattle.jdwp_link.specs.Links.{Link, idle, attached, may_attach, attaches}
use Rattle.jdwp_link.specs.Stands.{Parts}
use Rattle.jdwp_link.proofs.Reached.{Known}

pub and-left : (a b : Bool) → (a && b) ≡ true → a ≡ true
and-left true b h = refl
and-left false b h = h

pub and-right : (a b : Bool) → (a && b) ≡ true → b ≡ true
and-right true b h = h
and-right false b h = absurd (cc)

-- nothing but what an event did changes
pub parts-did : {S : Type 0} (m : Meaning S) (settings : Settings) (w : Widths) (l : Link S) (x : World S) (did : Bool) → Parts m settings w l x → Parts m settings w (record l { did = did }) x
parts-did m settings w l x did s = record {
  target = s.target;
  debugger = s.debugger;
  to = record { wires = s.to.wires; calls = s.to.calls; sent = s.to.sent; cut = s.to.cut; kept = s.to.kept };
  deferred = s.deferred;
  from = record { wires = s.from.wires; packets = s.from.packets; sent = s.from.sent; cut = s.from.cut; kept = s.from.kept; awaits = s.from.awaits };
}

same-may : {S : Type 0} (m : Meaning S) (settings : Settings) (w : Widths) (l : Link S) (x : World S) → Parts m settings w l x → may_attach l ≡ next.may_attach x
same-may m settings w l x s =
    ap (λ p. not (is_open_phase p) && (not (is_open_phase l.debugger.end.phase) && l.target.moment.state.alive)) s.target.phase
    ∙ (ap (λ p. is_closed x.target && (not (is_open_phase p) && l.target.moment.state.alive)) s.debugger.phase
    ∙ ap (λ a. is_closed x.target && (is_closed x.debugger && a.state.alive)) s.target.now)

attached-parts : {S : Type 0} (m : Meaning S) (settings : Settings) (w : Widths) (l : Link S) (x : World S) → Parts m settings w l x → x.pending ≡ [] → Parts m settings w (attached l) (next.attached x)
attached-parts m settings w l x s empty = record {
  target = record { same_settings = s.target.same_settings; limits = s.target.limits; sizes = s.target.sizes; now = s.target.now; phase = refl; lost = refl; deferring = s.target.deferring };
  debugger = record {
    order = s.debugger.order;
    limits = s.debugger.limits;
    phase = refl;
    tickets = s.debugger.tickets;
    mirror = record { counts = λ t. refl; held = λ t. refl; requests = refl };
    opened = λ o. record { sizes = refl; parked = tt; pending = sym empty; ticketed = λ h. absurd (cc) };
    none_waits = λ c. absurd (cc);
  };
  to = record {
    wires = (0, Greets) ∷ [];
    calls = refl;
    sent = ((tt, tt), tt);
    cut = record { number = omega arith; there = λ o. refl; left = sym (append-nil handshake_bytes) };
    kept = λ o. refl;
  };
  deferred = record { wires = []; commands = refl; messages = refl; sent = tt };
  from = record {
    wires = [];
    packets = refl;
    sent = tt;
    cut = record { number = omega arith; there = λ o. refl; left = refl };
    kept = λ o. refl;
    awaits = λ o p h. h;
  };
}

attach-by : {S : Type 0} (m : Meaning S) (settings : Settings) (w : Widths) (l : Link S) (x : World S) (b : Bool) → next.may_attach x ≡ b → Known m settings x → Parts m settings w l x
    → Parts m settings w (cond b (attached l) (idle l)) (cond b (next.attached x) x)
attach-by m settings w l x true e k s =
    let closed : is_closed x.debugger ≡ true = and-left (is_closed x.debugger) x.now.state.alive (and-right (is_closed x.target) (is_closed x.debugger && x.now.state.alive) e) in
    attached-parts m settings w l x s (k.shut closed)
attach-by m settings w l x false e k s = parts-did m settings w l x false s

pub attach-parts : {S : Type 0} (m : Meaning S) (settings : Settings) (w : Widths) (l : Link S) (x : World S) → Known m settings x → Parts m settings w l x → Parts m settings w (attaches l) (next.attaches x)
attach-parts m settings w l x k s =
    subst (λ b. Parts m settings w (cond b (attached l) (idle l)) (next.attaches x)) (sym (same-may m settings w l x s)) (attach-by m settings w l x (next.may_attach x) refl k s)
