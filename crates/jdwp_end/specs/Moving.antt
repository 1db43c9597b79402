-- What moving bytes between an end of a session and a pipe leaves of both. Of the end it is said what it has of an `End`, and what it is
-- where bytes came, or left.
use Rattle.std.specs.Prelude.{◌≡◌, ℕ, ◌≤◌, List, length}
use Rattle.jdwp_wire.specs.Streams.{IsFront}
use Rattle.jdwp_end.specs.Ends.{End, room_of}
use Rattle.jdwp_end.specs.Story.{FailsWrite, Story, with_read, with_written}

-- all that waited to leave was taken and written
abbrev pub WritesAll : {E : Type 0} → (E → End) → (List ℕ → E → E) → E → E → Story → Story → Type 0
WritesAll end with_taken old new before after = (new ≡ with_taken (end old).outgoing old) × (after ≡ with_written (end old).outgoing before)

-- some of what waited to leave was taken, some of that was written, and then a write failed
abbrev pub WritesPart : {E : Type 0} → (E → End) → (List ℕ → E → E) → E → E → Story → Story → Type 0
WritesPart end with_taken old new before after =
    (taken : List ℕ) × (new ≡ with_taken taken old) × IsFront taken (end old).outgoing × FailsWrite before after taken

-- bytes were read and fed, for which there was room
abbrev pub ReadsMore : {E : Type 0} → (E → End) → (List ℕ → E → E) → E → E → Story → Story → Type 0
ReadsMore end with_fed old new before after =
    (more : List ℕ) × (new ≡ with_fed more old) × (after ≡ with_read more before) × (length more ≤ room_of (end old))
