-- What moving bytes between an end of a session and a live pipe leaves of both.
use Rattle.std.specs.Prelude.{◌≡◌, ℕ, ◌<◌, ◌≤◌, Bool, true, false, List, [], length}
use Rattle.jdwp_wire.specs.Streams.{IsFront}
use Rattle.jdwp_end.specs.Ends.{End, room_of}
use Rattle.jdwp_engine.specs.declared.pipes.pipe.Patience.{Patience}
use Rattle.jdwp_engine.specs.declared.pipes.pipe.Patience.TheVariants.{Step}
use Rattle.jdwp_engine.specs.LiveStory.{FailsWrite, LiveStory, with_read, with_written}

-- all that waited to leave was taken and written
abbrev pub WritesAll : {E : Type 0} → (E → End) → (List ℕ → E → E) → E → E → LiveStory → LiveStory → Type 0
WritesAll end with_taken old new before after = (new ≡ with_taken (end old).outgoing old) × (after ≡ with_written (end old).outgoing before)

-- some of what waited to leave was taken, some of that was written, and then a write failed
abbrev pub WritesPart : {E : Type 0} → (E → End) → (List ℕ → E → E) → E → E → LiveStory → LiveStory → Type 0
WritesPart end with_taken old new before after =
    (taken : List ℕ) × (new ≡ with_taken taken old) × IsFront taken (end old).outgoing × FailsWrite before after taken

-- By a read of this patience bytes came and were fed, one at least, for which there was room; or nothing came in the time between two steps,
-- and nothing is fed.
abbrev pub ReadsOn : {E : Type 0} → (E → End) → (List ℕ → E → E) → Patience → Bool → E → E → LiveStory → LiveStory → Type 0
ReadsOn end with_fed patience true old new before after =
    (more : List ℕ) × (0 < length more) × (new ≡ with_fed more old) × (after ≡ with_read patience more before) × (length more ≤ room_of (end old))
ReadsOn end with_fed patience false old new before after = (patience ≡ Step) × (new ≡ old) × (after ≡ with_read patience [] before)
