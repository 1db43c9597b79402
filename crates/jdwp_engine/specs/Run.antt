-- What an engine that runs a target did on a pipe.
use Rattle.std.specs.Prelude.{◌≡◌, ℕ, ◌<◌, ◌≤◌, ◌+◌, true, false, List, [], ◌++◌}
use Rattle.jdwp_wire.specs.Streams.{IsFront}
use Rattle.jdwp_end.specs.declared.phase.Phase.TheVariants.{AwaitingHandshake}
use Rattle.jdwp_end.specs.Ends.{is_open}
use Rattle.jdwp_machine.specs.Meanings.{Meaning}
use Rattle.jdwp_target.specs.Standings.{stands}
use Rattle.jdwp_target.specs.Deeds.{with_none_deferred}
use Rattle.jdwp_target.specs.Targets.{Target, Ran, lost_target, with_fed, with_taken}
use Rattle.jdwp_end.specs.Story.{FailsRead, FailsWrite, Story, with_read, with_written}

-- From this target and this story on: the session began at its moment, the target was fed what was read, in order, what was written
-- is a beginning of what the target enqueued, and all of it where no write failed, and before each read all that was written had left.
pub record InOrder {S : Type 0} (base : Target S) (start now : Story) (target : Target S) : Type 0 where
  pub settings : target.settings ≡ base.settings
  pub began : target.began ≡ with_none_deferred (stands base.moment AwaitingHandshake) base.deferring
  pub read : now.read ≡ start.read ++ target.end.session.fed
  pub written : (bytes : List ℕ) × (now.written ≡ start.written ++ bytes) × IsFront bytes target.end.session.enqueued
  pub whole : now.failed_writes ≡ start.failed_writes → now.written ≡ start.written ++ target.end.session.enqueued
  pub failed_writes : start.failed_writes ≤ now.failed_writes
  pub prompt : now.early ≡ start.early

-- The same between two rounds, where nothing failed, nothing waits, and the session is open and was not lost.
pub record IsGoing {S : Type 0} (base : Target S) (start now : Story) (target : Target S) : Type 0 where
  pub opened : is_open target.end ≡ true
  pub kept : target.end.session.lost ≡ false
  pub idle : target.end.outgoing ≡ []
  pub settings : target.settings ≡ base.settings
  pub began : target.began ≡ with_none_deferred (stands base.moment AwaitingHandshake) base.deferring
  pub read : now.read ≡ start.read ++ target.end.session.fed
  pub written : now.written ≡ start.written ++ target.end.session.enqueued
  pub failed_reads : now.failed_reads ≡ start.failed_reads
  pub failed_writes : now.failed_writes ≡ start.failed_writes
  pub ends : now.ends ≡ start.ends
  pub prompt : now.early ≡ start.early

-- all that waited to leave was taken and written
abbrev pub WritesAll : {S : Type 0} → Target S → Target S → Story → Story → Type 0
WritesAll old new before after = (new ≡ with_taken old.end.outgoing old) × (after ≡ with_written old.end.outgoing before)

-- a write of what waited to leave failed, and the target lost the connection
abbrev pub LosesAtWrite : {S : Type 0} → Meaning S → Target S → Target S → Story → Story → Type 0
LosesAtWrite m old new before after =
    FailsWrite before after old.end.outgoing × ((taken : List ℕ) × Ran m (with_taken taken old) × (new ≡ lost_target (with_taken taken old))) × (after.rooms ≡ before.rooms)

-- bytes were read and fed
abbrev pub ReadsMore : {S : Type 0} → Target S → Target S → Story → Story → Type 0
ReadsMore old new before after = (more : List ℕ) × (new ≡ with_fed more old) × (after ≡ with_read more before)

-- a read failed, and the target lost the connection
abbrev pub LosesAtRead : {S : Type 0} → Target S → Target S → Story → Story → Type 0
LosesAtRead old new before after = (new ≡ lost_target old) × FailsRead before after

-- ---- what a run costs

-- the turns of the session that took a message off, its steps that were made, its releases, and the reads with room
abbrev pub cost : {S : Type 0} → Story → Target S → ℕ
cost story target = target.end.session.turns + target.steps + target.releases + story.rooms

-- A round that goes on, in every run that came to it: nothing failed, and it cost something.
abbrev pub GoesOn : {S : Type 0} → Target S → Target S → Story → Story → Type 0
GoesOn {S = S} old new before after =
    (cost before old < cost after new) × ((base : Target S) (start : Story) → IsGoing base start before old → IsGoing base start after new)
