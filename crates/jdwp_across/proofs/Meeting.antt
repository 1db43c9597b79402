-- two programs that had sessions with others before
use Rattle.std.proofs.Common.{◌≡◌, ℕ, true, false, [], ◌∷◌, ◌++◌, length, refl, sym, arith}
use Rattle.std.proofs.lemmas.List.{append-nil}
use Rattle.jdwp_wire.specs.Handshake.{handshake_bytes}
use Rattle.jdwp_wire.specs.Streams.{stream}
use Rattle.jdwp_end.specs.Ends.{is_open}
use Rattle.jdwp_machine.specs.Meanings.{Meaning}
use Rattle.jdwp_debuggee.specs.Settings.{Settings}
use Rattle.jdwp_mirror.specs.Messages.{Greets}
use Rattle.jdwp_target.specs.Targets.{opened_target}
use Rattle.jdwp_debugger.specs.Debuggers.{attached}
use Rattle.jdwp_model.specs.Rests.{Rests}
use Rattle.jdwp_link.specs.Laws.{Laws}
use Rattle.jdwp_link.specs.Links as links
use Rattle.jdwp_link.specs.Links.{Link}
use Rattle.jdwp_link.specs.Stands.{Parts}
use Rattle.jdwp_link.specs.Wires.{calls_sent, packets_sent}
use Rattle.jdwp_across.specs.Meeting.{begun}
use Rattle.jdwp_across.specs.Headline.{MayStart}
use Rattle.jdwp_across.specs.Others.{HoldsAfterOtherSessions, SuspendsAfterOtherSessions, beginning}
use Rattle.jdwp_across.specs.Programs.{Programs}
use Rattle.jdwp_across.specs.Standing.{far_from_debugger, far_from_target}
use Rattle.jdwp_across.proofs.Cutting.{all-comes}
use Rattle.jdwp_across.proofs.Keeping.{attached-keeps}
use Rattle.jdwp_across.proofs.OtherTargets.{Joined, joined-before}
use Rattle.jdwp_across.proofs.Resting.{beginning-onward, beginning-settles, beginning-tells, beginning-whole}
use Rattle.jdwp_across.proofs.Served.{AreBounds, Served, served}
use Rattle.jdwp_across.proofs.Standing.{Standing}
use Rattle.jdwp_across.proofs.Theorems.{relies-on, standing}

-- ---- where a session begins

-- a link of both, before
abbrev both-ends : {S : Type 0} → Programs S → Link S
both-ends old = record { target = old.target; debugger = old.debugger; to_target = []; to_debugger = []; did = false }

begun-parts : {S : Type 0} (m : Meaning S) (settings : Settings) (old : Programs S) → Served m settings old.target → Joined settings.limits old.debugger
    → Parts m settings (m.sizes old.target.moment.machine) (links.attached (both-ends old)) (beginning old)
begun-parts m settings old h j = record {
  target = record { same_settings = h.same_settings; limits = h.limits; sizes = refl; now = refl; phase = refl; lost = refl; deferring = refl };
  debugger = record {
    order = j.order;
    limits = j.same_limits;
    phase = refl;
    tickets = refl;
    mirror = record { counts = λ t. refl; held = λ t. refl; requests = refl };
    opened = λ o. record { sizes = refl; parked = tt; pending = refl; ticketed = λ q. absurd (cc) };
    none_waits = λ c. absurd (cc);
  };
  to = record {
    wires = (0, Greets) ∷ [];
    calls = refl;
    sent = ((tt, tt), tt);
    cut = record { number = omega arith; there = λ o. refl; left = sym (append-nil handshake_bytes) };
    kept = λ o. refl;
  };
  deferred = record { wires = []; commands = refl; messages = refl; sent = tt };
  from = record {
    wires = [];
    packets = refl;
    sent = tt;
    cut = record { number = omega arith; there = λ o. refl; left = refl };
    kept = λ o. refl;
    awaits = λ o p q. q;
  };
}

pub begun-stands : {S : Type 0} (m : Meaning S) → Rests m → (settings : Settings) → AreBounds settings → (old : Programs S) → Served m settings old.target → Joined settings.limits old.debugger → is_open old.target.end ≡ false
    → old.target.moment.state.alive ≡ true → Standing m settings (m.sizes old.target.moment.machine) (beginning old) [] (begun old)
begun-stands m rests settings b old h j shut lives =
    let w = m.sizes old.target.moment.machine in
    let x = beginning old in
    let t = opened_target old.target in
    let d = attached old.debugger in
    let parts = begun-parts m settings old h j in
    let done = all-comes m settings w (links.attached (both-ends old)) x (t.end.incoming ++ far_from_target t d) t.end.session (d.end.incoming ++ far_from_debugger t d) d.end.session parts refl (λ o. refl) (λ o. refl) in
    record {
      onward = beginning-onward m rests settings b old (beginning-whole m rests settings b old h shut lives);
      world = record x { at_target = length (stream (calls_sent w parts.to.wires)); at_debugger = length (stream (packets_sent w parts.from.wires)) };
      stands = record { reached = record { is = refl; tells = refl }; parts = done };
      keeps = attached-keeps old.debugger j.keeps;
      agrees = record { to_target = (handshake_bytes, refl); to_debugger = ([], refl) };
    }

-- ---- the theorems

pub bounds-of : {S : Type 0} (m : Meaning S) (settings : Settings) (s : S) (id : ℕ) → MayStart m settings s id → AreBounds settings
bounds-of m settings s id start =
    let least = start.limits.packet_least in
    record { least = start.begins.limit_least; most = start.begins.limit_most; packet = omega arith }

pub holds-after : {S : Type 0} (m : Meaning S) → Laws m → Rests m → HoldsAfterOtherSessions m
holds-after m laws rests settings s id old acts v may merged =
    let b = bounds-of m settings s id may.start in
    let h = served m rests settings s id old.target may.start b may.served in
    let j = joined-before m settings.limits id old.target old.debugger may.start.limits may.start.id_fits may.attached in
    let whole = beginning-whole m rests settings b old h may.target may.alive in
    relies-on m laws settings (beginning old) acts v (beginning-settles m rests settings b old whole) (beginning-tells m settings old)
    (standing m settings (m.sizes old.target.moment.machine) (beginning old) (begun old) acts v laws (begun-stands m rests settings b old h j may.target may.alive) merged)

pub suspends-after : {S : Type 0} (m : Meaning S) → HoldsAfterOtherSessions m → SuspendsAfterOtherSessions m
suspends-after m holds settings s id old acts v t may merged held alive unlost none unresumed =
    (holds settings s id old acts v may merged).held.suspended t held (record { alive = alive; not_lost = unlost; no_dispose = none }) unresumed
