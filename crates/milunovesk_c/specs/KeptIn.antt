-- What a call means by what is kept at its handle.
use Rattle.std.specs.Prelude.{◌≡◌, ◌⊎◌, ℕ, Option, Some, None}
use Rattle.jdwp_debugger.specs.Debuggers.{Debugger}
use Rattle.jdwp_script_machine.specs.States.{State}
use Rattle.jdwp_target.specs.Targets.{Target}
use Rattle.milunovesk_c.specs.declared.kept.Kept.{Kept}
use Rattle.milunovesk_c.specs.declared.kept.Kept.TheVariants as kept
use Rattle.milunovesk_c.specs.declared.seat.Seat.{Seat}
use Rattle.milunovesk_c.specs.Numbers.{DONE, EMPTY, LIVE, OTHER_KIND, NO_MEMORY, NOTHING_KEPT, A_DEBUGGER, A_TARGET}

-- Where a debugger is kept the call does this, and else nothing, and says so.
abbrev pub AtDebugger : Option Kept → ℕ → Option Kept → (Seat → Type 0) → Type 0
AtDebugger None result new does = (result ≡ EMPTY) × (new ≡ None)
AtDebugger (Some (kept.Target t)) result new does = (result ≡ OTHER_KIND) × (new ≡ Some (kept.Target t))
AtDebugger (Some (kept.Debugger s)) result new does = does s

-- the same where a target is kept
abbrev pub AtTarget : Option Kept → ℕ → Option Kept → (Target State → Type 0) → Type 0
AtTarget None result new does = (result ≡ EMPTY) × (new ≡ None)
AtTarget (Some (kept.Debugger s)) result new does = (result ≡ OTHER_KIND) × (new ≡ Some (kept.Debugger s))
AtTarget (Some (kept.Target t)) result new does = does t

-- something else is kept, or nothing
abbrev pub KeepsNoDebugger : Option Kept → Type 0
KeepsNoDebugger (Some (kept.Debugger s)) = ⊥
KeepsNoDebugger other = Unit {0}

abbrev pub KeepsNoTarget : Option Kept → Type 0
KeepsNoTarget (Some (kept.Target t)) = ⊥
KeepsNoTarget other = Unit {0}

-- a debugger is kept that is this
abbrev pub KeepsDebugger : Option Kept → (Seat → Type 0) → Type 0
KeepsDebugger (Some (kept.Debugger s)) P = P s
KeepsDebugger other P = ⊥

-- a target is kept that is this
abbrev pub KeepsTarget : Option Kept → (Target State → Type 0) → Type 0
KeepsTarget (Some (kept.Target t)) P = P t
KeepsTarget other P = ⊥

-- this debugger in the place of the one that was kept, beside what was told
abbrev pub seated : Debugger → Seat → Option Kept
seated d s = Some (kept.Debugger (record s { debugger = d }))

abbrev pub kind_of : Option Kept → ℕ
kind_of None = NOTHING_KEPT
kind_of (Some (kept.Debugger s)) = A_DEBUGGER
kind_of (Some (kept.Target t)) = A_TARGET

-- Where something is kept, nothing changes and the call says so; else this is kept, or memory was refused and nothing is.
abbrev pub IsMade : Option Kept → ℕ → Option Kept → Kept → Type 0
IsMade (Some k) result new fresh = (result ≡ LIVE) × (new ≡ Some k)
IsMade None result new fresh = ((result ≡ DONE) × (new ≡ Some fresh)) ⊎ ((result ≡ NO_MEMORY) × (new ≡ None))
