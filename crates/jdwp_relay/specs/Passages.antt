-- One direction between a source and a sink: what is under way, and how far it has come.
use Rattle.std.specs.Prelude.{◌≡◌, ◌⊎◌, ℕ, List, [], ◌∷◌, ◌++◌, length, nat_lt, Bool, true, false, ◌&&◌, Option, Some, None}
use Rattle.jdwp_relay.specs.declared.duct.Stage.{Stage}
use Rattle.jdwp_relay.specs.declared.duct.Stage.TheVariants as stage
use Rattle.jdwp_show.specs.declared.capture_line.Sender.{Sender}
use Rattle.jdwp_relay.specs.declared.sides.Ending.{Ending}
use Rattle.jdwp_relay.specs.declared.sides.Ending.TheVariants.{HalfClose, Reset}
use Rattle.jdwp_relay.specs.Flows.{Inflow, Outflow}

-- sender: the end whose bytes these are; waiting: what was read and not taken; stage: how far the direction has come
pub record Passage : Type 0 where
  pub sender : Sender
  pub waiting : List ℕ
  pub stage : Stage

-- nothing is under way
abbrev pub begun : Sender → Passage
begun sender = record { sender = sender; waiting = []; stage = stage.Open }

-- how many bytes wait at most
abbrev pub room : ℕ
room = 65_536

abbrev pub is_open : Stage → Bool
is_open stage.Open = true
is_open (stage.Ending ending) = false
is_open (stage.Ended ending) = false
is_open stage.Broken = false

-- the source goes on, and there is room for a byte
abbrev pub reads_on : Passage → Bool
reads_on p = is_open p.stage && nat_lt (length p.waiting) room

-- bytes may still be handed on
abbrev pub is_under_way : Stage → Bool
is_under_way stage.Open = true
is_under_way (stage.Ending ending) = true
is_under_way (stage.Ended ending) = false
is_under_way stage.Broken = false

abbrev pub is_some_byte : List ℕ → Bool
is_some_byte [] = false
is_some_byte (x ∷ xs) = true

-- there are bytes to be handed on
abbrev pub hands_on : Passage → Bool
hands_on p = is_under_way p.stage && is_some_byte p.waiting

abbrev pub due_of : Stage → List ℕ → Option Ending
due_of (stage.Ending ending) [] = Some ending
due_of (stage.Ending ending) (x ∷ xs) = None
due_of stage.Open waiting = None
due_of (stage.Ended ending) waiting = None
due_of stage.Broken waiting = None

-- the ending that is to be handed on now: the source ended so, and all of its bytes were taken
abbrev pub ending_due : Passage → Option Ending
ending_due p = due_of p.stage p.waiting

abbrev pub with_waiting : List ℕ → Passage → Passage
with_waiting waiting p = record p { waiting = waiting }

abbrev pub with_stage : Stage → Passage → Passage
with_stage stage p = record p { stage = stage }

abbrev pub reset_for : Stage → Stage
reset_for (stage.Ending ending) = stage.Ending Reset
reset_for stage.Open = stage.Open
reset_for (stage.Ended ending) = stage.Ended ending
reset_for stage.Broken = stage.Broken

-- an ending that was not handed on yet is a reset from now on
abbrev pub turned : Passage → Passage
turned p = with_stage (reset_for p.stage) p

-- ---- what holds of a direction from its beginning on

-- this ending is handed on of a source that ended so: its own, or a reset, where the side that it came from was lost since
abbrev pub IsEndingOf : List Ending → Ending → Type 0
IsEndingOf told ending = (told ≡ ending ∷ []) ⊎ ((told ≡ HalfClose ∷ []) × (ending ≡ Reset))

-- The sink was ended at most once, as the source ended, and behind all of its bytes.
abbrev pub HasEnded : Stage → List ℕ → List Ending → List Ending → Type 0
HasEnded stage.Open waiting told endings = (told ≡ []) × (endings ≡ [])
HasEnded (stage.Ending ending) waiting told endings = IsEndingOf told ending × (endings ≡ [])
HasEnded (stage.Ended ending) waiting told endings = IsEndingOf told ending × (endings ≡ ending ∷ []) × (waiting ≡ [])
HasEnded stage.Broken waiting told endings = endings ≡ []

-- What came is what went and what waits, and the ending is handed on as it has to be.
pub record IsPassed (source : Inflow) (sink : Outflow) (p : Passage) : Type 0 where
  pub conserved : source.bytes ≡ sink.bytes ++ p.waiting
  pub ended : HasEnded p.stage p.waiting source.endings sink.endings
