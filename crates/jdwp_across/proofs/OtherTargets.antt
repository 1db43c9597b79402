-- what holds of a debugger behind sessions with other targets
use Rattle.std.proofs.Common.{◌≡◌, ◌<◌, ◌^◌, ℕ, ◌⊎◌, inl, inr, List, Ok, Err, Result, refl, sym, ◌∙◌, subst}
use Rattle.jdwp_wire.specs.Limits.{AreLimits, Limits}
use Rattle.jdwp_wire.specs.Streams as streams
use Rattle.jdwp_wire.specs.Streams.{Fault, More, NextMessage, Whole}
use Rattle.jdwp_wire.specs.declared.packet.Header.{Header}
use Rattle.jdwp_end.specs.Ends.{front_of}
use Rattle.jdwp_machine.specs.Meanings.{Meaning}
use Rattle.jdwp_target.specs.Targets.{Target}
use Rattle.jdwp_debugger.specs.Debuggers.{Debugger, attached}
use Rattle.jdwp_debugger.specs.DebuggerTurns.{FailsAt, TurnsAt, refused}
use Rattle.jdwp_debugger.specs.declared.faults.DebuggerFault.{DebuggerFault}
use Rattle.jdwp_debugger.specs.declared.faults.DebuggerFault.TheVariants as code
use Rattle.jdwp_debugger.specs.declared.order.Order.TheVariants.{One}
use Rattle.jdwp_debugger.specs.declared.turning.Read.{Read}
use Rattle.jdwp_across.specs.Acting.{both}
use Rattle.jdwp_across.specs.Others.{Attaches, DebuggerActed, DebuggerTurned, HasAttached, NewDebugger}
use Rattle.jdwp_across.proofs.Flowing.{turn-limits}
use Rattle.jdwp_across.proofs.HeldApart.{act-order, turn-order}
use Rattle.jdwp_across.proofs.Keeping.{Keeps, act-keeps, attached-keeps, new-keeps, refused-keeps, turn-keeps}
use Rattle.jdwp_across.proofs.Nobody.{Forgets, act-forgets, none-forgets, turn-forgets}
use Rattle.jdwp_across.proofs.Within.{act-limits}

-- its order and its limits, what every debugger keeps, and that it knows nobody where it is closed
pub record Joined (limits : Limits) (d : Debugger) : Type 0 where
  pub order : d.order ≡ One
  pub same_limits : d.end.limits ≡ limits
  pub keeps : Keeps d
  pub forgets : Forgets d

-- ---- a turn

-- one that fails leaves the debugger as it was, or refuses what came
fails-packet : (header : Header) (body : List ℕ) (d : Debugger) (fault : DebuggerFault) (after : Debugger) → FailsAt header body d fault after → (after ≡ d) ⊎ (after ≡ refused d)
fails-packet header body d code.NoMemory after h = inl h.1
fails-packet header body d (code.Frame fault) after h = inr h.1
fails-packet header body d code.UnknownReply after h = inr h.1
fails-packet header body d code.BadReply after h = inr h.1
fails-packet header body d code.TooManyParked after h = inr h.1
fails-packet header body d code.BadEvent after h = inr h.1

fails-turn : (f : NextMessage) (d : Debugger) (fault : DebuggerFault) (after : Debugger) → TurnsAt f d (Err fault) after → (after ≡ d) ⊎ (after ≡ refused d)
fails-turn (Whole streams.Handshake used) d fault after h = inl h.1
fails-turn (Whole (streams.Packet header body) used) d fault after h = fails-packet header body d fault after h
fails-turn More d fault after h = absurd (let e = h.0 in cc)
fails-turn (Fault frame) d fault after h = inr h.1

refused-joined : (limits : Limits) (d : Debugger) → Joined limits d → Joined limits (refused d)
refused-joined limits d h = record { order = h.order; same_limits = h.same_limits; keeps = refused-keeps d h.keeps; forgets = none-forgets (refused d) refl }

turn-joined : (limits : Limits) (result : Result Read DebuggerFault) (old new : Debugger) → TurnsAt (front_of old.end) old result new → Joined limits old → Joined limits new
turn-joined limits (Ok r) old new so h = record {
  order = turn-order (front_of old.end) old r new so ∙ h.order;
  same_limits = turn-limits (front_of old.end) old r new so ∙ h.same_limits;
  keeps = turn-keeps (front_of old.end) old r new refl so h.keeps;
  forgets = turn-forgets (front_of old.end) old new r so h.forgets;
}
turn-joined limits (Err fault) old new so h =
    elim (fails-turn (front_of old.end) old fault new so) [
      | inl same ↦ subst (Joined limits) (sym same) h
      | inr is ↦ subst (Joined limits) (sym is) (refused-joined limits old h)
    ]

-- ---- all of them

pub joined-before : {S : Type 0} (m : Meaning S) (limits : Limits) (id : ℕ) (t : Target S) (d : Debugger) → AreLimits limits.packet limits.live limits.requests limits.pending → id < 2 ^ 32 → HasAttached m limits id d → Joined limits d
joined-before m limits id t d are small NewDebugger = record { order = refl; same_limits = refl; keeps = new-keeps limits id are small; forgets = none-forgets d refl }
joined-before m limits id t d are small (Attaches old before shut) =
    let h = joined-before m limits id t old are small before in
    record { order = h.order; same_limits = h.same_limits; keeps = attached-keeps old h.keeps; forgets = none-forgets (attached old) refl }
joined-before m limits id t d are small (DebuggerTurned result old new before so) = turn-joined limits result old new so (joined-before m limits id t old are small before)
joined-before m limits id t d are small (DebuggerActed act old new before does) =
    let h = joined-before m limits id t old are small before in
    let so = does.1 t in
    record {
      order = act-order m act (both t old) (both t new) so ∙ h.order;
      same_limits = act-limits m act (both t old) (both t new) so ∙ h.same_limits;
      keeps = act-keeps m act (both t old) (both t new) so h.keeps;
      forgets = act-forgets m act (both t old) (both t new) so h.forgets;
    }
