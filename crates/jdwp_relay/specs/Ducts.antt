-- What the calls of one direction do.
use Rattle.std.specs.Prelude.{◌≡◌, ◌<◌, ◌≤◌, ℕ, List, ◌++◌, length, take, drop, Bool, true, false, ◌||◌, Option, is_some, Result, Ok, Err, MatchOption, if◌then◌else◌}
use Rattle.std.specs.Io.KnownBytes.{Appends}
use Rattle.jdwp_relay.specs.declared.duct.Stage.TheVariants as stage
use Rattle.jdwp_relay.specs.declared.sides.Came.{Came}
use Rattle.jdwp_relay.specs.declared.sides.Came.TheVariants as came
use Rattle.jdwp_relay.specs.declared.sides.Took.{Took}
use Rattle.jdwp_relay.specs.declared.sides.Took.TheVariants as took
use Rattle.jdwp_relay.specs.Captures.{AppendsPart}
use Rattle.jdwp_relay.specs.Flows.{Inflow, Outflow, after_end, asked, lost, offered, with_bytes, with_ending, with_taken}
use Rattle.jdwp_relay.specs.LineText.{line_text}
use Rattle.jdwp_relay.specs.Passages.{Passage, ending_due, hands_on, reads_on, with_stage, with_waiting}

-- ---- reading

-- these bytes came, and wait behind those that waited
pub record ComesIn (old : Passage) (before : Inflow) (fresh : List ℕ) (new : Passage) (after : Inflow) : Type 0 where
  pub some : 0 < length fresh
  pub waits : new ≡ with_waiting (old.waiting ++ fresh) old
  pub came : after ≡ with_bytes fresh before

-- what one read gave, where one is made
abbrev pub Fills : Passage → Inflow → Came → Passage → Inflow → Type 0
Fills old before (came.Bytes n) new after = (fresh : List ℕ) × (length fresh ≡ n) × ComesIn old before fresh new after
Fills old before came.Nothing new after = (new ≡ old) × (after ≡ asked before)
Fills old before (came.Ended ending) new after = (new ≡ with_stage (stage.Ending ending) old) × (after ≡ with_ending ending before)

-- the same of a read that does not change the stage
abbrev pub ReadsMore : Passage → Inflow → Came → Passage → Inflow → Type 0
ReadsMore old before (came.Bytes n) new after = (fresh : List ℕ) × (length fresh ≡ n) × ComesIn old before fresh new after
ReadsMore old before came.Nothing new after = (new ≡ old) × (after ≡ asked before)
ReadsMore old before (came.Ended ending) new after = (new ≡ old) × (after ≡ with_ending ending before)

-- One read, where the source goes on and there is room, and none elsewhere. What came was written down as a line of the capture, whose text
-- was the first and is the second. An error says that the line was not written whole: then the direction is broken.
abbrev pub TakesIn : {E : Type 0} → Passage → Inflow → Option (List ℕ) → Result Came E → Passage → Inflow → Option (List ℕ) → Type 0
TakesIn old before text (Ok (came.Bytes n)) new after written =
    (reads_on old ≡ true) × (fresh : List ℕ) × (length fresh ≡ n) × ComesIn old before fresh new after × Appends text written (line_text old.sender fresh)
TakesIn old before text (Ok came.Nothing) new after written = (new ≡ old) × (after ≡ (if reads_on old then asked before else before)) × (written ≡ text)
TakesIn old before text (Ok (came.Ended ending)) new after written =
    (reads_on old ≡ true) × (new ≡ with_stage (stage.Ending ending) old) × (after ≡ with_ending ending before) × (written ≡ text)
TakesIn old before text (Err e) new after written =
    (reads_on old ≡ true) × (fresh : List ℕ) × (mid : Passage) × ComesIn old before fresh mid after × (new ≡ with_stage stage.Broken mid)
    × AppendsPart text written (line_text old.sender fresh)

-- ---- handing on

-- One write, where bytes wait that may be handed on, and none elsewhere. Where it fails the direction is broken.
abbrev pub Drains : Passage → Outflow → Took → Passage → Outflow → Type 0
Drains old before (took.Bytes n) new after =
    (hands_on old ≡ true) × (0 < n) × (n ≤ length old.waiting) × (new ≡ with_waiting (drop n old.waiting) old) × (after ≡ with_taken (take n old.waiting) before)
Drains old before took.Nothing new after = (new ≡ old) × (after ≡ (if hands_on old then offered before else before))
Drains old before took.Lost new after = (hands_on old ≡ true) × (new ≡ with_stage stage.Broken old) × (after ≡ lost before)

-- The ending is handed on where it is due.
abbrev pub Ends : Passage → Outflow → Passage → Outflow → Type 0
Ends old before new after =
    MatchOption (ending_due old) ((new ≡ old) × (after ≡ before)) (λ ending. (new ≡ with_stage (stage.Ended ending) old) × (after ≡ after_end before ending))

abbrev pub is_move : Took → Bool
is_move (took.Bytes n) = true
is_move took.Nothing = false
is_move took.Lost = true

-- One write, and then the ending where it is due. The answer is whether something changed.
pub record HandsOn (old : Passage) (before : Outflow) (moved : Bool) (new : Passage) (after : Outflow) : Type 0 where
  pub took : Took
  pub mid : Passage
  pub between : Outflow
  pub drains : Drains old before took mid between
  pub ends : Ends mid between new after
  pub told : moved ≡ (is_move took || is_some (ending_due mid))
