-- What one of two programs does, act by act, whatever the other is and does meanwhile.
use Rattle.std.specs.Prelude.{◌≡◌, ℕ, Bool, true, false, List, [], ◌∷◌, ◌++◌}
use Rattle.jdwp_machine.specs.Meanings.{Meaning}
use Rattle.jdwp_target.specs.Targets.{Target}
use Rattle.jdwp_debugger.specs.Debuggers.{Debugger}
use Rattle.jdwp_across.specs.Programs.{Act, ComesToDebugger, ComesToTarget, DebuggerAsks, DebuggerLoses, DebuggerNumbers, DebuggerTurns, Does, LeavesDebugger, LeavesTarget, Programs, TargetDefers, TargetLoses, TargetReleases, TargetSteps, TargetTurns}

-- ---- whose an act is

-- It is a call of the target, and else of the debugger; that a session begins is neither's alone.
abbrev pub is_of_target : Act → Bool
is_of_target (ComesToTarget bytes) = true
is_of_target (LeavesTarget bytes) = true
is_of_target (TargetTurns turn) = true
is_of_target (TargetReleases place turn) = true
is_of_target (TargetSteps t stepped) = true
is_of_target (TargetDefers deferring) = true
is_of_target TargetLoses = true
is_of_target act = false

abbrev pub is_of_debugger : Act → Bool
is_of_debugger (ComesToDebugger bytes) = true
is_of_debugger (LeavesDebugger bytes) = true
is_of_debugger (DebuggerAsks c ticket) = true
is_of_debugger (DebuggerNumbers id) = true
is_of_debugger (DebuggerTurns read lost) = true
is_of_debugger (DebuggerLoses lost) = true
is_of_debugger act = false

-- ---- what it does to the one end

abbrev pub both : {S : Type 0} → Target S → Debugger → Programs S
both target debugger = record { target = target; debugger = debugger }

-- An act of a target leads from this one to that one, whatever the debugger is, which stays as it is.
abbrev pub TargetDoes : {S : Type 0} → Meaning S → Act → Target S → Target S → Type 0
TargetDoes m act old new = (is_of_target act ≡ true) × ((debugger : Debugger) → Does m act (both old debugger) (both new debugger))

-- An act of a debugger leads from this one to that one, whatever the target is, which stays as it is.
abbrev pub DebuggerDoes : {S : Type 0} → Meaning S → Act → Debugger → Debugger → Type 0
DebuggerDoes {S} m act old new = (is_of_debugger act ≡ true) × ((target : Target S) → Does m act (both target old) (both target new))

-- ---- one act behind the other

-- an act of one end, and that end behind it
pub record Move (E : Type 0) : Type 0 where
  pub act : Act
  pub behind : E

-- The moves lead from the first end to the last one, each from where the one before it led.
abbrev pub Leads : {E : Type 0} → (Act → E → E → Type 0) → E → List (Move E) → E → Type 0
Leads D first [] last = last ≡ first
Leads D first (move ∷ moves) last = D move.act first move.behind × Leads D move.behind moves last

-- What a target does in its own program: acts of its own, each as its calls' contracts say.
abbrev pub TargetRuns : {S : Type 0} → Meaning S → Target S → List (Move (Target S)) → Target S → Type 0
TargetRuns m first moves last = Leads (TargetDoes m) first moves last

-- the same of a debugger
abbrev pub DebuggerRuns : {S : Type 0} → Meaning S → Debugger → List (Move Debugger) → Debugger → Type 0
DebuggerRuns m first moves last = Leads (DebuggerDoes m) first moves last

-- the end behind the last of these moves, or the first one
abbrev pub last_of : {E : Type 0} → E → List (Move E) → E
last_of first [] = first
last_of first (move ∷ moves) = last_of move.behind moves

abbrev pub acts_of : {E : Type 0} → List (Move E) → List Act
acts_of [] = []
acts_of (move ∷ moves) = move.act ∷ acts_of moves

-- these moves stand in front of all
abbrev pub AreFirst : {E : Type 0} → List (Move E) → List (Move E) → Type 0
AreFirst {E} moves all = (rest : List (Move E)) × (all ≡ moves ++ rest)

-- ---- the bytes of moves

abbrev pub to_target : Act → List ℕ
to_target (ComesToTarget bytes) = bytes
to_target act = []

abbrev pub from_target : Act → List ℕ
from_target (LeavesTarget bytes) = bytes
from_target act = []

abbrev pub to_debugger : Act → List ℕ
to_debugger (ComesToDebugger bytes) = bytes
to_debugger act = []

abbrev pub from_debugger : Act → List ℕ
from_debugger (LeavesDebugger bytes) = bytes
from_debugger act = []

-- the bytes of each act, in order
abbrev pub bytes_of : {E : Type 0} → (Act → List ℕ) → List (Move E) → List ℕ
bytes_of by [] = []
bytes_of by (move ∷ moves) = by move.act ++ bytes_of by moves
