-- Where two programs stand, whose acts come in one order.
use Rattle.std.specs.Prelude.{◌≡◌, List, [], ◌∷◌, ◌++◌}
use Rattle.jdwp_end.specs.Ends.{End}
use Rattle.jdwp_target.specs.Targets.{Target, opened_target}
use Rattle.jdwp_debugger.specs.Debuggers.{Debugger, attached}
use Rattle.jdwp_across.specs.Merges.{Agrees}
use Rattle.jdwp_across.specs.Programs.{Act, Programs}
use Rattle.jdwp_across.specs.Acting.{AreFirst, Move, acts_of, both, last_of}

-- ---- a session begins

-- at both ends together
abbrev pub begun : {S : Type 0} → Programs S → Programs S
begun old = both (opened_target old.target) (attached old.debugger)

-- nothing came to an end by these moves of its session, since the other end did not begin yet
abbrev pub NothingCame : {E : Type 0} → (E → End) → List (Move E) → Type 0
NothingCame end [] = Unit {0}
NothingCame end (move ∷ moves) = ((end move.behind).session.fed ≡ []) × NothingCame end moves

-- It began at one end alone, which made these moves since: the other still is as the session before left it.
pub data BeginsAtOne {S : Type 0} (old : Programs S) : List (Move (Target S)) → List (Move Debugger) → Programs S → Type 0 where
  AtTarget : (ts : List (Move (Target S))) → BeginsAtOne old ts [] (both (last_of (opened_target old.target) ts) old.debugger)
  AtDebugger : (ds : List (Move Debugger)) → NothingCame (λ (d : Debugger). d.end) ds → BeginsAtOne old [] ds (both old.target (last_of (attached old.debugger) ds))

-- ---- both are in it

-- The moves of both programs in one order, those of each in its own, and the acts that they are. The session began at both together, or at one
-- of them, to which nothing came until it began at the other; from then on, behind each move, what an end was fed is a beginning of what the
-- other had put.
pub data Meets {S : Type 0} (old : Programs S) : List (Move (Target S)) → List (Move Debugger) → List Act → Programs S → Type 0 where
  Together : Meets old [] [] [] (begun old)
  TargetFirst : (ts : List (Move (Target S))) → NothingCame (λ (t : Target S). t.end) ts → Meets old ts [] (acts_of ts) (both (last_of (opened_target old.target) ts) (attached old.debugger))
  DebuggerFirst : (ds : List (Move Debugger)) → NothingCame (λ (d : Debugger). d.end) ds → Meets old [] ds (acts_of ds) (both (opened_target old.target) (last_of (attached old.debugger) ds))
  ByTarget : (ts : List (Move (Target S))) (ds : List (Move Debugger)) (acts : List Act) (move : Move (Target S)) (now : Programs S) → Meets old ts ds acts now
      → Agrees (both move.behind now.debugger) → Meets old (ts ++ move ∷ []) ds (acts ++ move.act ∷ []) (both move.behind now.debugger)
  ByDebugger : (ts : List (Move (Target S))) (ds : List (Move Debugger)) (acts : List Act) (move : Move Debugger) (now : Programs S) → Meets old ts ds acts now
      → Agrees (both now.target move.behind) → Meets old ts (ds ++ move ∷ []) (acts ++ move.act ∷ []) (both now.target move.behind)

-- Both stand so behind some of these moves of the target, the first ones, and some of these of the debugger, in one order.
pub record StandBehind {S : Type 0} (old : Programs S) (target : List (Move (Target S))) (debugger : List (Move Debugger)) (acts : List Act) (programs : Programs S) : Type 0 where
  pub of_target : List (Move (Target S))
  pub of_debugger : List (Move Debugger)
  pub target_first : AreFirst of_target target
  pub debugger_first : AreFirst of_debugger debugger
  pub meets : Meets old of_target of_debugger acts programs

-- The same of one of them, as long as the session began at it alone.
pub record StandsAhead {S : Type 0} (old : Programs S) (target : List (Move (Target S))) (debugger : List (Move Debugger)) (programs : Programs S) : Type 0 where
  pub of_target : List (Move (Target S))
  pub of_debugger : List (Move Debugger)
  pub target_first : AreFirst of_target target
  pub debugger_first : AreFirst of_debugger debugger
  pub begins : BeginsAtOne old of_target of_debugger programs
