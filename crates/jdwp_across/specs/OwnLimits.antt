-- A target and a debugger in two programs, each within limits of its own, and what a debugger may rely on there.
use Rattle.std.specs.Prelude.{◌≡◌, ◌⊎◌, ◌≤◌, ◌<◌, ◌^◌, ℕ, ◌+◌, false, List, [], ◌∷◌, ◌++◌, length, Result, Err}
use Rattle.jdwp_wire.specs.Frames.{packet_bytes}
use Rattle.jdwp_wire.specs.Limits.{AreLimits, Limits}
use Rattle.jdwp_wire.specs.Widths.{Widths}
use Rattle.jdwp_wire.specs.declared.frame.FrameFault.TheVariants.{TooLong}
use Rattle.jdwp_wire.specs.declared.packet.Header.{Header}
use Rattle.jdwp_end.specs.declared.phase.Phase.TheVariants.{Established}
use Rattle.jdwp_end.specs.Ends.{End, front_of, is_paused}
use Rattle.jdwp_machine.specs.Meanings.{Meaning}
use Rattle.jdwp_action.specs.CommandPackets.{packet_length}
use Rattle.jdwp_debuggee.specs.Settings.{Settings}
use Rattle.jdwp_target.specs.Targets.{Target, lost_target}
use Rattle.jdwp_target.specs.Turns as turns
use Rattle.jdwp_target.specs.declared.target.TargetFault.{TargetFault}
use Rattle.jdwp_target.specs.declared.target.TargetFault.TheVariants as target_fault
use Rattle.jdwp_target.specs.declared.target.Turn.{Turn}
use Rattle.jdwp_debugger.specs.Debuggers.{Debugger, new_debugger}
use Rattle.jdwp_debugger.specs.DebuggerTurns as reads
use Rattle.jdwp_debugger.specs.declared.faults.DebuggerFault.{DebuggerFault}
use Rattle.jdwp_debugger.specs.declared.faults.DebuggerFault.TheVariants as debugger_fault
use Rattle.jdwp_debugger.specs.declared.turning.Read.{Read}
use Rattle.jdwp_model.specs.World.{World, opening}
use Rattle.jdwp_across.specs.Headline.{MayRelyOn, MayStart, RefusesNothing}
use Rattle.jdwp_across.specs.Merges.{Merged}
use Rattle.jdwp_across.specs.Programs.{Act, DebuggerAsks, Programs, new_programs}
use Rattle.jdwp_across.specs.RunsHeadline.{IsSuspendedIfHeld}

-- ---- limits

-- Both before their first session, each within its own limits.
abbrev pub programs_within : {S : Type 0} → Meaning S → Settings → Limits → S → ℕ → Programs S
programs_within m settings limits s id = record (new_programs m settings s id) { debugger = new_debugger limits id }

-- Such programs as there may be, where whatever packet the target sends is one that the debugger takes.
pub record MayStartWithin {S : Type 0} (m : Meaning S) (settings : Settings) (limits : Limits) (s : S) (id : ℕ) : Type 0 where
  pub start : MayStart m settings s id
  pub limits_fit : AreLimits limits.packet limits.live limits.requests limits.pending
  pub packet : settings.limits.packet ≤ limits.packet

-- A command that is asked has a packet of no more bytes than this, where ids are so wide.
abbrev pub Fits : Widths → ℕ → Act → Type 0
Fits w packet (DebuggerAsks c ticket) = packet_length w c ≤ packet
Fits w packet act = Unit {0}

-- and so each that was asked
abbrev pub AllFit : Widths → ℕ → List Act → Type 0
AllFit w packet [] = Unit {0}
AllFit w packet (act ∷ acts) = Fits w packet act × AllFit w packet acts

-- Each command that was asked has a packet that the target takes: no longer one may be asked, or none was.
abbrev pub AreTaken : Widths → Limits → Limits → List Act → Type 0
AreTaken w target debugger acts = (debugger.packet ≤ target.packet) ⊎ AllFit w target.packet acts

-- ---- as of one session

-- The limits that hold of the session: the target's, and how many commands may wait at the debugger, of which a target knows nothing.
abbrev pub between : Limits → Limits → Limits
between target debugger = record target { pending = debugger.pending }

abbrev pub settings_between : Settings → Limits → Settings
settings_between settings limits = record settings { limits = between settings.limits limits }

-- the two as they are, but that both have these limits
abbrev pub target_within : {S : Type 0} → Limits → Target S → Target S
target_within limits t = record t { settings = settings_between t.settings limits; end = record t.end { limits = between t.end.limits limits } }

abbrev pub debugger_within : Limits → Debugger → Debugger
debugger_within limits d = record d { end = record d.end { limits = limits } }

abbrev pub within : {S : Type 0} → Settings → Limits → Programs S → Programs S
within settings limits programs = record {
  target = target_within limits programs.target;
  debugger = debugger_within (between settings.limits limits) programs.debugger;
}

-- ---- what holds

-- All that holds where both have the limits of the session holds of the two as they are, but that each has its own; neither refuses what the
-- other sent; and so a thread that the debugger holds is suspended in the target now.
pub record MayRelyOnWithin {S : Type 0} (m : Meaning S) (settings : Settings) (limits : Limits) (first : World S) (acts : List Act) (programs : Programs S) : Type 0 where
  pub relies : MayRelyOn m (settings_between settings limits) first acts (within settings limits programs)
  pub reads : RefusesNothing m programs
  pub suspends : (t : ℕ) → IsSuspendedIfHeld programs t

-- After every list of acts of a target and a debugger in two programs, each within its own limits, where either takes what the other may put.
abbrev pub HoldsWithinOwnLimits : {S : Type 0} → Meaning S → Type 0
HoldsWithinOwnLimits {S} m =
    (settings : Settings) (limits : Limits) (s : S) (id : ℕ) (acts : List Act) (programs : Programs S) →
    MayStartWithin m settings limits s id → AreTaken (m.sizes s) settings.limits limits acts → Merged m (programs_within m settings limits s id) acts programs →
    MayRelyOnWithin m settings limits (opening m s) acts programs

-- ---- what is refused

-- A packet stands in front of an end that is longer than its packets may be.
pub record HasLonger (end : End) : Type 0 where
  pub established : end.phase ≡ Established
  pub unpaused : is_paused end ≡ false
  pub header : Header
  pub body : List ℕ
  pub rest : List ℕ
  pub came : end.incoming ≡ packet_bytes header body ++ rest
  pub counts : header.length ≡ 11 + length body
  pub fits : header.length < 2 ^ 32
  pub longer : end.limits.packet < header.length

-- Either end refuses it as too long, and its session is over.
pub record RefusesLonger {S : Type 0} (m : Meaning S) : Type 0 where
  pub target : (t after : Target S) (result : Result Turn TargetFault) → HasLonger t.end → turns.TurnsAt m (front_of t.end) t result after
      → (result ≡ Err (target_fault.Frame TooLong)) × (after ≡ lost_target t)
  pub debugger : (d after : Debugger) (result : Result Read DebuggerFault) → HasLonger d.end → reads.TurnsAt (front_of d.end) d result after
      → (result ≡ Err (debugger_fault.Frame TooLong)) × (after ≡ reads.refused d)
