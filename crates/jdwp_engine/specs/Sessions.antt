-- A session that an engine runs, round by round: a turn; where it handles nothing, the newest deferred command is released, and where none
-- is, each live thread steps; where none steps, a read.
use Rattle.std.specs.Prelude.{◌≡◌, ◌≢◌, ℕ, ◌<◌, ◌+◌, ◌-◌, Bool, true, false, [], length, None, Result, Ok, Err}
use Rattle.jdwp_wire.specs.FaultNumbers.{fault_number}
use Rattle.jdwp_wire.specs.declared.frame.FrameFault.{FrameFault}
use Rattle.jdwp_wire.specs.Streams.{More}
use Rattle.jdwp_end.specs.Ends.{front_of, is_open}
use Rattle.jdwp_machine.specs.Meanings.{Meaning}
use Rattle.jdwp_target.specs.declared.target.TargetFault.{TargetFault}
use Rattle.jdwp_target.specs.declared.target.TargetFault.TheVariants.{Frame}
use Rattle.jdwp_target.specs.declared.target.TargetFault.TheVariants as target_fault
use Rattle.jdwp_target.specs.declared.target.Turn.{Turn}
use Rattle.jdwp_target.specs.declared.target.Turn.TheVariants.{Nothing}
use Rattle.jdwp_target.specs.Targets.{Target, lost_target}
use Rattle.jdwp_target.specs.ReadsBack.{ReleaseReadsBack, TurnReadsBack}
use Rattle.jdwp_target.specs.Turns.{ReleasesAt, TurnsAt, deferred_at}
use Rattle.jdwp_end.specs.declared.pipes.ended.Ended.{Ended}
use Rattle.jdwp_end.specs.declared.pipes.ended.Ended.TheVariants.{Done, LostByRead, LostByWrite, Refused, NoMemory, TurnLimit}
use Rattle.jdwp_end.specs.Endings.{unflushed_end}
use Rattle.jdwp_end.specs.Story.{FailsFlush, Story, flushed}
use Rattle.jdwp_engine.specs.Rounds.{StepsEach}
use Rattle.jdwp_engine.specs.Run.{LosesAtRead, LosesAtWrite, ReadsMore, WritesAll}

-- ---- a round

-- the newest deferred command is released, with this answer
abbrev pub ReleasesNewest : {S : Type 0} → Meaning S → Target S → Result Turn TargetFault → Target S → Type 0
ReleasesNewest m old result new =
    (0 < length old.deferred) × ReleasesAt m (length old.deferred - 1) (deferred_at (length old.deferred - 1) old) old result new

-- What comes of a round before it writes or reads: `Ok true` where its turn took a message off; and where there was nothing to handle, all
-- that was written left, and it is what came of a release, or where nothing was deferred of a step of each live thread. What is sent reads back.
pub data Moves {S : Type 0} (m : Meaning S) (old : Target S) (before : Story) : Result Bool TargetFault → Target S → Story → Type 0 where
  Turns : (turn : Turn) (new : Target S) → turn ≢ Nothing → TurnsAt m (front_of old.end) old (Ok turn) new → TurnReadsBack m old → Moves m old before (Ok true) new before
  Releases : (turn : Turn) (new : Target S) → front_of old.end ≡ More → ReleasesNewest m old (Ok turn) new → ReleaseReadsBack m (length old.deferred - 1) old
      → Moves m old before (Ok true) new (flushed before)
  Steps : (came : Result Bool TargetFault) (new : Target S) → front_of old.end ≡ More → old.deferred ≡ [] → StepsEach m None old came new → Moves m old before came new (flushed before)

-- A round that goes on: what a message, a release or steps put was written; or nothing was handled, no step was made, and bytes were read.
pub data Round {S : Type 0} (m : Meaning S) (old : Target S) (before : Story) (new : Target S) (after : Story) : Type 0 where
  Writes : (mid : Target S) (now : Story) → Moves m old before (Ok true) mid now → is_open mid.end ≡ true → WritesAll mid new now after → Round m old before new after
  Reads : (mid : Target S) (now : Story) → Moves m old before (Ok false) mid now → ReadsMore mid new now after → Round m old before new after

-- A round that ends so: the session closed, and what was put was written; a write, the flush or the read failed; a fault stands in front;
-- or a turn, a release or a step wanted memory, and what steps before it put was written.
pub data LastRound {S : Type 0} (m : Meaning S) (old : Target S) (before : Story) (new : Target S) (after : Story) : Ended → Type 0 where
  Closes : (mid : Target S) (now : Story) → Moves m old before (Ok true) mid now → is_open mid.end ≡ false → WritesAll mid new now after → LastRound m old before new after Done
  CantWrite : (came : Result Bool TargetFault) (mid : Target S) (now : Story) → Moves m old before came mid now → came ≢ Ok false → LosesAtWrite m mid new now after
      → LastRound m old before new after LostByWrite
  CantFlush : front_of old.end ≡ More → FailsFlush before after → new ≡ lost_target old → LastRound m old before new after LostByWrite
  CantRead : (mid : Target S) (now : Story) → Moves m old before (Ok false) mid now → LosesAtRead mid new now after → LastRound m old before new after LostByRead
  Faults : (fault : FrameFault) → TurnsAt m (front_of old.end) old (Err (Frame fault)) new → after ≡ before → LastRound m old before new after (Refused (fault_number fault))
  WantsToTurn : TurnsAt m (front_of old.end) old (Err target_fault.NoMemory) new → after ≡ before → LastRound m old before new after NoMemory
  WantsToRelease : front_of old.end ≡ More → ReleasesNewest m old (Err target_fault.NoMemory) new → after ≡ flushed before → LastRound m old before new after NoMemory
  WantsToStep : (fault : TargetFault) (mid : Target S) (now : Story) → Moves m old before (Err fault) mid now → WritesAll mid new now after → LastRound m old before new after NoMemory

-- ---- a session

-- so many rounds, one behind the other, each of which goes on
pub data Rounds {S : Type 0} (m : Meaning S) (base : Target S) (start : Story) : ℕ → Target S → Story → Type 0 where
  NoRound : Rounds m base start 0 base start
  OneMore : (n : ℕ) (old new : Target S) (before after : Story) → Rounds m base start n old before → Round m old before new after → Rounds m base start (n + 1) new after

-- All rounds go on; or fewer do, and then one ends so.
pub data Runs {S : Type 0} (m : Meaning S) (rounds : ℕ) (base : Target S) (start : Story) : Ended → Target S → Story → Type 0 where
  All : (new : Target S) (now : Story) → Rounds m base start rounds new now → Runs m rounds base start TurnLimit new now
  Until : (n : ℕ) (old new : Target S) (before after : Story) (how : Ended) → n < rounds → Rounds m base start n old before → LastRound m old before new after how
      → Runs m rounds base start how new after

-- what a session leaves whose last flush failed: the connection is lost, where it was not before
abbrev pub unflushed_target : {S : Type 0} → Ended → Target S → Target S
unflushed_target Done target = lost_target target
unflushed_target NoMemory target = lost_target target
unflushed_target TurnLimit target = lost_target target
unflushed_target LostByRead target = target
unflushed_target LostByWrite target = target
unflushed_target (Refused number) target = target

-- A session of at most so many rounds: behind them all that was written leaves, or the flush fails.
pub data Serves {S : Type 0} (m : Meaning S) (rounds : ℕ) (base : Target S) (start : Story) : Ended → Target S → Story → Type 0 where
  Leaves : (how : Ended) (new : Target S) (now : Story) → Runs m rounds base start how new now → Serves m rounds base start how new (flushed now)
  Stays : (how : Ended) (new : Target S) (now after : Story) → Runs m rounds base start how new now → FailsFlush now after
      → Serves m rounds base start (unflushed_end how) (unflushed_target how new) after
