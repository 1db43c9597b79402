-- What a target does with bytes that came, turn by turn, and what it sends.
use Rattle.std.specs.Prelude.{◌≡◌, ◌≢◌, ℕ, List, ◌++◌, length, min, take, drop, Ok, Err}
use Rattle.milunovesk.specs.End.Ends.{front_of}
use Rattle.milunovesk.specs.Machine.Meanings.{Meaning}
use Rattle.milunovesk.specs.Target.TargetFault.{TargetFault}
use Rattle.milunovesk.specs.Target.Targets.{Target, with_taken}
use Rattle.milunovesk.specs.Target.Turn.{Turn}
use Rattle.milunovesk.specs.Target.Turn.TheVariants.{Nothing}
use Rattle.milunovesk.specs.Target.Turns.{TurnsAt}
use Rattle.milunovesk.specs.Wire.Streams.{More}

-- turns, one behind the other, each of which handled a message
pub data Turned {S : Type 0} (m : Meaning S) (base : Target S) : Target S → Type 0 where
  NoTurn : Turned m base base
  OneMore : (old new : Target S) (turn : Turn) → Turned m base old → turn ≢ Nothing → TurnsAt m (front_of old.end) old (Ok turn) new → Turned m base new

-- All that was whole was handled, until the target was closed or paused or no whole message stood in front; and then as many as fit of the bytes
-- that waited to leave were moved to the front of `out`.
pub record HasAnswered {S : Type 0} (m : Meaning S) (fed : Target S) (filled : ℕ) (out_before out_after : List ℕ) (left : Target S) : Type 0 where
  pub handled : Target S
  pub turned : Turned m fed handled
  pub rests : front_of handled.end ≡ More
  pub count : filled ≡ min (length out_before) (length handled.end.outgoing)
  pub bytes : out_after ≡ take filled handled.end.outgoing ++ drop filled out_before
  pub taken : left ≡ with_taken (take filled handled.end.outgoing) handled

-- Turns handled messages, and the next one failed.
abbrev pub FailsBehind : {S : Type 0} → Meaning S → Target S → TargetFault → Target S → Type 0
FailsBehind {S = S} m fed fault new = (old : Target S) × Turned m fed old × TurnsAt m (front_of old.end) old (Err fault) new
