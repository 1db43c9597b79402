-- A live session, round by round: a turn; where it handles nothing, all that was written leaves, and the newest deferred command is released;
-- where none is deferred, a read, for the handshake or for as long as passes between two steps; where nothing came in that time, each live
-- thread steps; and where none steps, a read that waits until bytes come.
use Rattle.std.specs.Prelude.{◌≡◌, ◌≢◌, ℕ, ◌<◌, ◌+◌, ◌-◌, Bool, true, false, List, [], length, None, Result, Ok, Err}
use Rattle.jdwp_wire.specs.FaultNumbers.{fault_number}
use Rattle.jdwp_wire.specs.declared.frame.FrameFault.{FrameFault}
use Rattle.jdwp_wire.specs.Streams.{More}
use Rattle.jdwp_end.specs.Ends.{front_of, is_established, is_open}
use Rattle.jdwp_machine.specs.Meanings.{Meaning}
use Rattle.jdwp_target.specs.declared.target.TargetFault.{TargetFault}
use Rattle.jdwp_target.specs.declared.target.TargetFault.TheVariants.{Frame}
use Rattle.jdwp_target.specs.declared.target.TargetFault.TheVariants as target_fault
use Rattle.jdwp_target.specs.declared.target.Turn.{Turn}
use Rattle.jdwp_target.specs.declared.target.Turn.TheVariants.{Nothing}
use Rattle.jdwp_target.specs.Targets.{Target, Ran, lost_target, with_fed, with_taken}
use Rattle.jdwp_target.specs.ReadsBack.{ReleaseReadsBack, TurnReadsBack}
use Rattle.jdwp_target.specs.Turns.{TurnsAt}
use Rattle.jdwp_end.specs.declared.pipes.ended.Ended.{Ended}
use Rattle.jdwp_end.specs.declared.pipes.ended.Ended.TheVariants.{Done, LostByRead, LostByWrite, Refused, NoMemory, TurnLimit}
use Rattle.jdwp_end.specs.Endings.{unflushed_end}
use Rattle.jdwp_engine.specs.Rounds.{StepsEach}
use Rattle.jdwp_engine.specs.Sessions.{ReleasesNewest, unflushed_target}
use Rattle.jdwp_engine.specs.declared.pipes.pipe.Patience.{Patience}
use Rattle.jdwp_engine.specs.declared.pipes.pipe.Patience.TheVariants.{Handshake, Step, Forever}
use Rattle.jdwp_engine.specs.LiveStory.{FailsFlush, FailsRead, FailsWrite, LiveStory, flushed, with_read, with_written}

-- ---- bytes

-- all that waited to leave was taken and written
abbrev pub WritesAll : {S : Type 0} → Target S → Target S → LiveStory → LiveStory → Type 0
WritesAll old new before after = (new ≡ with_taken old.end.outgoing old) × (after ≡ with_written old.end.outgoing before)

-- a write of what waited to leave failed, and the target lost the connection
abbrev pub LosesAtWrite : {S : Type 0} → Meaning S → Target S → Target S → LiveStory → LiveStory → Type 0
LosesAtWrite m old new before after =
    FailsWrite before after old.end.outgoing × ((taken : List ℕ) × Ran m (with_taken taken old) × (new ≡ lost_target (with_taken taken old)))

-- bytes, one at least, were read with this patience and fed
abbrev pub ReadsSome : {S : Type 0} → Patience → Target S → Target S → LiveStory → LiveStory → Type 0
ReadsSome patience old new before after = (more : List ℕ) × (0 < length more) × (new ≡ with_fed more old) × (after ≡ with_read patience more before)

-- a read of this patience failed, and the target lost the connection
abbrev pub LosesAtRead : {S : Type 0} → Patience → Target S → Target S → LiveStory → LiveStory → Type 0
LosesAtRead patience old new before after = (new ≡ lost_target old) × FailsRead patience before after

-- ---- a round

-- nothing is left to handle, and nothing is deferred
abbrev pub Rests : {S : Type 0} → Target S → Type 0
Rests old = (front_of old.end ≡ More) × (old.deferred ≡ [])

-- how long the first read of a round waits, by whether the session is established
abbrev pub patience_at : Bool → Patience
patience_at true = Step
patience_at false = Handshake

abbrev pub patience_of : {S : Type 0} → Target S → Patience
patience_of old = patience_at (is_established old.end)

-- What comes of a round before it writes, or waits: `Ok true` where its turn took a message off, or a deferred command was released. Threads
-- step in an established session alone, where there is nothing to handle, all that was written left, and then a read found nothing in the time
-- between two steps. What is sent reads back.
pub data Moves {S : Type 0} (m : Meaning S) (old : Target S) (before : LiveStory) : Result Bool TargetFault → Target S → LiveStory → Type 0 where
  Turns : (turn : Turn) (new : Target S) → turn ≢ Nothing → TurnsAt m (front_of old.end) old (Ok turn) new → TurnReadsBack m old → Moves m old before (Ok true) new before
  Releases : (turn : Turn) (new : Target S) → front_of old.end ≡ More → ReleasesNewest m old (Ok turn) new → ReleaseReadsBack m (length old.deferred - 1) old
      → Moves m old before (Ok true) new (flushed before)
  Steps : (came : Result Bool TargetFault) (new : Target S) → Rests old → is_established old.end ≡ true → StepsEach m None old came new
      → Moves m old before came new (with_read Step [] (flushed before))

-- A round that goes on: what a message, a release or steps put was written; or bytes came at its first read; or no thread stepped, and bytes
-- came at one that waits for them.
pub data Round {S : Type 0} (m : Meaning S) (old : Target S) (before : LiveStory) (new : Target S) (after : LiveStory) : Type 0 where
  Writes : (mid : Target S) (now : LiveStory) → Moves m old before (Ok true) mid now → is_open mid.end ≡ true → WritesAll mid new now after → Round m old before new after
  Reads : Rests old → ReadsSome (patience_of old) old new (flushed before) after → Round m old before new after
  Waits : (mid : Target S) (now : LiveStory) → Moves m old before (Ok false) mid now → ReadsSome Forever mid new now after → Round m old before new after

-- A round that ends so: the session closed, and what was put was written; a write, the flush or a read failed; a fault stands in front;
-- or a turn, a release or a step wanted memory, and what steps before it put was written.
pub data LastRound {S : Type 0} (m : Meaning S) (old : Target S) (before : LiveStory) (new : Target S) (after : LiveStory) : Ended → Type 0 where
  Closes : (mid : Target S) (now : LiveStory) → Moves m old before (Ok true) mid now → is_open mid.end ≡ false → WritesAll mid new now after → LastRound m old before new after Done
  CantWrite : (came : Result Bool TargetFault) (mid : Target S) (now : LiveStory) → Moves m old before came mid now → came ≢ Ok false → LosesAtWrite m mid new now after
      → LastRound m old before new after LostByWrite
  CantFlush : front_of old.end ≡ More → FailsFlush before after → new ≡ lost_target old → LastRound m old before new after LostByWrite
  CantRead : Rests old → LosesAtRead (patience_of old) old new (flushed before) after → LastRound m old before new after LostByRead
  CantWait : (mid : Target S) (now : LiveStory) → Moves m old before (Ok false) mid now → LosesAtRead Forever mid new now after → LastRound m old before new after LostByRead
  Faults : (fault : FrameFault) → TurnsAt m (front_of old.end) old (Err (Frame fault)) new → after ≡ before → LastRound m old before new after (Refused (fault_number fault))
  WantsToTurn : TurnsAt m (front_of old.end) old (Err target_fault.NoMemory) new → after ≡ before → LastRound m old before new after NoMemory
  WantsToRelease : front_of old.end ≡ More → ReleasesNewest m old (Err target_fault.NoMemory) new → after ≡ flushed before → LastRound m old before new after NoMemory
  WantsToStep : (fault : TargetFault) (mid : Target S) (now : LiveStory) → Moves m old before (Err fault) mid now → WritesAll mid new now after → LastRound m old before new after NoMemory

-- ---- a session

-- so many rounds, one behind the other, each of which goes on
pub data Rounds {S : Type 0} (m : Meaning S) (base : Target S) (start : LiveStory) : ℕ → Target S → LiveStory → Type 0 where
  NoRound : Rounds m base start 0 base start
  OneMore : (n : ℕ) (old new : Target S) (before after : LiveStory) → Rounds m base start n old before → Round m old before new after → Rounds m base start (n + 1) new after

-- All rounds go on; or fewer do, and then one ends so.
pub data Runs {S : Type 0} (m : Meaning S) (rounds : ℕ) (base : Target S) (start : LiveStory) : Ended → Target S → LiveStory → Type 0 where
  All : (new : Target S) (now : LiveStory) → Rounds m base start rounds new now → Runs m rounds base start TurnLimit new now
  Until : (n : ℕ) (old new : Target S) (before after : LiveStory) (how : Ended) → n < rounds → Rounds m base start n old before → LastRound m old before new after how
      → Runs m rounds base start how new after

-- A session of at most so many rounds: behind them all that was written leaves, or the flush fails.
pub data Serves {S : Type 0} (m : Meaning S) (rounds : ℕ) (base : Target S) (start : LiveStory) : Ended → Target S → LiveStory → Type 0 where
  Leaves : (how : Ended) (new : Target S) (now : LiveStory) → Runs m rounds base start how new now → Serves m rounds base start how new (flushed now)
  Stays : (how : Ended) (new : Target S) (now after : LiveStory) → Runs m rounds base start how new now → FailsFlush now after
      → Serves m rounds base start (unflushed_end how) (unflushed_target how new) after
