-- Both directions between a debugger and a target, and the capture of what came.
use Rattle.std.specs.Prelude.{◌≡◌, ◌⊎◌, ◌<◌, ℕ, List, [], ◌++◌, length, All, Bool, true, false, ◌||◌, ◌&&◌, Option, Result, Ok, Err}
use Rattle.std.specs.Io.KnownBytes.{Appends}
use Rattle.jdwp_wire.specs.Streams.{IsFront}
use Rattle.jdwp_relay.specs.declared.duct.Stage.{Stage}
use Rattle.jdwp_relay.specs.declared.duct.Stage.TheVariants as stage
use Rattle.jdwp_relay.specs.declared.relay.Halves.{Halves}
use Rattle.jdwp_relay.specs.declared.relay.Relay.{Relay}
use Rattle.jdwp_show.specs.declared.capture_line.Sender.TheVariants.{Debugger, Target}
use Rattle.jdwp_relay.specs.declared.sides.Came.{Came}
use Rattle.jdwp_relay.specs.declared.sides.Came.TheVariants as came
use Rattle.jdwp_relay.specs.declared.sides.Ending.{Ending}
use Rattle.jdwp_relay.specs.declared.sides.Ending.TheVariants.{HalfClose, Reset}
use Rattle.jdwp_relay.specs.Ducts.{HandsOn, TakesIn}
use Rattle.jdwp_relay.specs.Flows.{Inflow, Outflow}
use Rattle.jdwp_show.specs.Lines.{Line, sent_by}
use Rattle.jdwp_relay.specs.LineText.{lines_text}
use Rattle.jdwp_relay.specs.Passages.{IsPassed, Passage, begun, turned}

-- What was read of both ends and taken by them, and the capture's text, where it is known.
pub record Crossing : Type 0 where
  pub from_debugger : Inflow
  pub to_target : Outflow
  pub from_target : Inflow
  pub to_debugger : Outflow
  pub text : Option (List ℕ)

-- the same of two connections
abbrev pub crossing : {S K : Type 0} → (S → Inflow) → (K → Outflow) → Halves S K → Halves S K → Option (List ℕ) → Crossing
crossing came went debugger target text = record {
  from_debugger = came debugger.source;
  to_target = went target.sink;
  from_target = came target.source;
  to_debugger = went debugger.sink;
  text = text;
}

-- nothing is under way
abbrev pub begun_relay : Relay
begun_relay = record { from_debugger = begun Debugger; from_target = begun Target }

-- ---- the end

abbrev pub is_done : Stage → Bool
is_done stage.Open = false
is_done (stage.Ending ending) = false
is_done (stage.Ended ending) = true
is_done stage.Broken = true

abbrev pub is_reset : Stage → Bool
is_reset (stage.Ended Reset) = true
is_reset (stage.Ended HalfClose) = false
is_reset stage.Open = false
is_reset (stage.Ending ending) = false
is_reset stage.Broken = false

-- each direction has ended or is broken, or a reset was handed on
abbrev pub is_over : Relay → Bool
is_over relay =
    is_done relay.from_debugger.stage && is_done relay.from_target.stage || is_reset relay.from_debugger.stage || is_reset relay.from_target.stage

-- ---- one turn

-- where the other direction is broken, its sink is lost, from which this one's bytes come
abbrev pub heeding : Stage → Passage → Passage
heeding stage.Broken p = turned p
heeding stage.Open p = p
heeding (stage.Ending ending) p = p
heeding (stage.Ended ending) p = p

abbrev pub is_something : Came → Bool
is_something (came.Bytes n) = true
is_something came.Nothing = false
is_something (came.Ended ending) = true

-- one read, and then one write and the ending where it is due
pub record PassesOn (E : Type 0) (old : Passage) (other : Stage) (before : Inflow) (taken : Outflow) (text : Option (List ℕ)) (moved : Bool) (new : Passage) (after : Inflow) (given : Outflow) (written : Option (List ℕ)) : Type 0 where
  pub came : Came
  pub mid : Passage
  pub handed : Bool
  pub takes : TakesIn {E = E} old before text (Ok came) mid after written
  pub hands : HandsOn (heeding other mid) taken handed new given
  pub told : moved ≡ (is_something came || handed)

-- Bytes were moved once in one direction; or a line was not written whole, and then the sink got nothing.
abbrev pub Passes : {E : Type 0} → Passage → Stage → Inflow → Outflow → Option (List ℕ) → Result Bool E → Passage → Inflow → Outflow → Option (List ℕ) → Type 0
Passes {E = E} old other before taken text (Ok moved) new after given written = PassesOn E old other before taken text moved new after given written
Passes {E = E} old other before taken text (Err e) new after given written = TakesIn {E = E} old before text (Err e) new after written × (given ≡ taken)

-- in the direction from the debugger to the target, where the capture's text is this behind it
abbrev pub PassesUp : {E : Type 0} → Relay → Crossing → Result Bool E → Relay → Crossing → Option (List ℕ) → Type 0
PassesUp old before result new after text =
    Passes old.from_debugger old.from_target.stage before.from_debugger before.to_target before.text result new.from_debugger after.from_debugger after.to_target text

-- in the other, where the capture's text was this before it
abbrev pub PassesDown : {E : Type 0} → Relay → Crossing → Result Bool E → Relay → Crossing → Option (List ℕ) → Type 0
PassesDown old before result new after text =
    Passes old.from_target new.from_debugger.stage before.from_target before.to_debugger text result new.from_target after.from_target after.to_debugger after.text

-- nothing was done in the direction from the target to the debugger
pub record StandsStill (old : Relay) (before : Crossing) (new : Relay) (after : Crossing) : Type 0 where
  pub passage : new.from_target ≡ old.from_target
  pub source : after.from_target ≡ before.from_target
  pub sink : after.to_debugger ≡ before.to_debugger

-- Bytes were moved once in each direction, first from the debugger to the target; up to a line that was not written whole.
abbrev pub HasTurned : {E : Type 0} → Relay → Crossing → Result Bool E → Relay → Crossing → Type 0
HasTurned {E = E} old before (Ok moved) new after =
    (up : Bool) × (down : Bool) × (text : Option (List ℕ)) × PassesUp {E = E} old before (Ok up) new after text × PassesDown {E = E} old before (Ok down) new after text
    × (moved ≡ (up || down))
HasTurned {E = E} old before (Err e) new after =
    (PassesUp {E = E} old before (Err e) new after after.text × StandsStill old before new after)
    ⊎ ((up : Bool) × (text : Option (List ℕ)) × PassesUp {E = E} old before (Ok up) new after text × PassesDown {E = E} old before (Err e) new after text)

-- ---- what holds from the beginning on

-- what came of each end is what went to the other and what waits, and endings are handed on as they have to be
pub record IsRelaying (relay : Relay) (x : Crossing) : Type 0 where
  pub debugger : relay.from_debugger.sender ≡ Debugger
  pub target : relay.from_target.sender ≡ Target
  pub up : IsPassed x.from_debugger x.to_target relay.from_debugger
  pub down : IsPassed x.from_target x.to_debugger relay.from_target

-- Behind what stood there at the beginning the capture is lines of just what came of each end, in order, and each line has a byte.
pub record IsRecorded (start : Option (List ℕ)) (x : Crossing) : Type 0 where
  pub lines : List Line
  pub text : Appends start x.text (lines_text lines)
  pub debugger : sent_by Debugger lines ≡ x.from_debugger.bytes
  pub target : sent_by Target lines ≡ x.from_target.bytes
  pub some : All (λ line. 0 < length line.bytes) lines

-- Behind what stood there at the beginning the capture is lines, and then perhaps a part of one; and what went to each end is a beginning of
-- what the whole lines hold.
pub record IsCovered (start : Option (List ℕ)) (x : Crossing) : Type 0 where
  pub lines : List Line
  pub part : List ℕ
  pub text : Appends start x.text (lines_text lines ++ part)
  pub target : IsFront x.to_target.bytes (sent_by Debugger lines)
  pub debugger : IsFront x.to_debugger.bytes (sent_by Target lines)
