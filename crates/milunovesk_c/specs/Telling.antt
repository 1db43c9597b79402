-- What the turns of a debugger told, as C asks for it, and how bytes are handed out.
use Rattle.std.specs.Prelude.{◌≡◌, ◌≢◌, ◌⊎◌, ℕ, [], zero, ◌++◌, Bool, true, false, List, drop, length, nat_le, slice_get, Option, Some, None, IsSome, option_map, Result, Ok, Err}
use Rattle.jdwp_wire.specs.Widths.{Widths}
use Rattle.jdwp_wire.specs.FaultNumbers as frames
use Rattle.jdwp_layout.specs.declared.answer.Answer.TheVariants.{Data, Error}
use Rattle.jdwp_layout.specs.Writes.{data_canonical}
use Rattle.jdwp_event.specs.CompositeBytes.{composite_canonical}
use Rattle.jdwp_end.specs.Ends.{front_of}
use Rattle.jdwp_debugger.specs.declared.faults.DebuggerFault.{DebuggerFault}
use Rattle.jdwp_debugger.specs.declared.faults.DebuggerFault.TheVariants as code
use Rattle.jdwp_debugger.specs.declared.turning.Read.TheVariants as read
use Rattle.jdwp_debugger.specs.FaultNumbers.{fault_number}
use Rattle.jdwp_debugger.specs.DebuggerTurns.{MayTakeMemory, Told, Nothing, Hello, Parked, Sizes, Answered, Seen, TurnsAt, read_meaning}
use Rattle.jdwp_attach.specs.Telling.{turn_lines}
use Rattle.milunovesk_c.specs.declared.heard.Heard.{Heard}
use Rattle.milunovesk_c.specs.declared.seat.Seat.{Seat}
use Rattle.milunovesk_c.specs.Numbers.{DONE, NO_MEMORY, SHORT_BUFFER, FAULT, NO_ITEM}

-- ---- what a turn told, in numbers

abbrev pub told_kind : Told → ℕ
told_kind Nothing = 0
told_kind Hello = 1
told_kind Parked = 2
told_kind (Sizes composites) = 3
told_kind (Answered ticket answer) = 4
told_kind (Seen composite) = 5

abbrev pub told_ticket : Told → ℕ
told_ticket (Answered ticket answer) = ticket
told_ticket told = 0

abbrev pub told_error : Told → ℕ
told_error (Answered ticket (Error e)) = e.0
told_error told = 0

-- how many data it has
abbrev pub told_items : Told → ℕ
told_items (Sizes composites) = length composites
told_items (Answered ticket (Data items)) = 1
told_items (Seen composite) = 1
told_items told = 0

abbrev pub heard : Told → Heard
heard told = record { kind = told_kind told; error = told_error told; fault = 0; frame = 0; ticket = told_ticket told; items = told_items told }

-- the fault of the frame inside, or 0
abbrev pub frame_number : DebuggerFault → ℕ
frame_number (code.Frame fault) = frames.fault_number fault
frame_number fault = 0

abbrev pub heard_fault : DebuggerFault → Heard
heard_fault fault = record { kind = 0; error = 0; fault = fault_number fault; frame = frame_number fault; ticket = 0; items = 0 }

-- ---- turns

-- the widths of ids by which a turn read: those known behind it, or else before it
abbrev pub known_widths : Option Widths → Option Widths → Option Widths
known_widths None before = before
known_widths (Some w) before = Some w

-- What a turn leaves: what it read is kept beside the debugger, with the widths of ids by which it was read. Where memory was refused nothing
-- changes, and after any other fault nothing was told.
abbrev pub SeatTurns : Seat → Result (Unit {0}) DebuggerFault → Seat → Type 0
SeatTurns old (Ok done) new =
    TurnsAt (front_of old.debugger.end) old.debugger (Ok new.read) new.debugger × (new.widths ≡ known_widths new.debugger.sizes old.debugger.sizes)
SeatTurns old (Err code.NoMemory) new = MayTakeMemory (front_of old.debugger.end) × (new ≡ old)
SeatTurns old (Err fault) new =
    TurnsAt (front_of old.debugger.end) old.debugger (Err fault) new.debugger × (new.widths ≡ None) × (new.read ≡ read.Nothing)

-- how a turn is told
abbrev pub IsHeard : Result (Unit {0}) DebuggerFault → Told → ℕ → Heard → Type 0
IsHeard (Ok done) told result out = (result ≡ DONE) × (out ≡ heard told)
IsHeard (Err code.NoMemory) told result out = (result ≡ NO_MEMORY) × (out ≡ heard_fault code.NoMemory)
IsHeard (Err fault) told result out = (result ≡ FAULT) × (out ≡ heard_fault fault)

pub record HasTurned (old : Seat) (result : ℕ) (out : Heard) (new : Seat) : Type 0 where
  pub answer : Result (Unit {0}) DebuggerFault
  pub turned : SeatTurns old answer new
  pub told : IsHeard answer (read_meaning new.read) result out

-- ---- the data of what was told

-- the data at a place, as bytes: of an answer that has data, of a composite, or of the composites that waited for the widths of ids
abbrev pub told_by : Widths → Told → ℕ → Option (List ℕ)
told_by w (Answered ticket (Data items)) zero = Some (data_canonical w items)
told_by w (Seen composite) zero = Some (composite_canonical w composite)
told_by w (Sizes composites) place = option_map (composite_canonical w) (slice_get composites place)
told_by w told place = None

abbrev pub told_within : Option Widths → Told → ℕ → Option (List ℕ)
told_within None told place = None
told_within (Some w) told place = told_by w told place

abbrev pub told_bytes : Seat → ℕ → Option (List ℕ)
told_bytes s place = told_within s.widths (read_meaning s.read) place

-- ---- bytes that are handed out

-- into the front of what was there, or not at all
abbrev pub IsFilled : Bool → List ℕ → ℕ → List ℕ → List ℕ → Type 0
IsFilled true bytes result old new = (result ≡ DONE) × (new ≡ bytes ++ drop (length bytes) old)
IsFilled false bytes result old new = (result ≡ SHORT_BUFFER) × (new ≡ old)

-- All of the bytes are handed out where there is room for all, and else none; how many there are is told.
abbrev pub IsCopied : List ℕ → ℕ → List ℕ → List ℕ → ℕ → Type 0
IsCopied bytes result old new needed = (needed ≡ length bytes) × IsFilled (nat_le (length bytes) (length old)) bytes result old new

-- what there is at a place is handed out so
abbrev pub Finds : Option (List ℕ) → ℕ → List ℕ → List ℕ → ℕ → Type 0
Finds None result old new needed = (result ≡ NO_ITEM) × (new ≡ old) × (needed ≡ 0)
Finds (Some bytes) result old new needed = IsCopied bytes result old new needed

-- or there is something, and nothing is handed out: memory was refused, or it can't be written
abbrev pub IsUnwritten : Option (List ℕ) → ℕ → List ℕ → List ℕ → ℕ → Type 0
IsUnwritten found result old new needed = IsSome found × ((result ≡ NO_MEMORY) ⊎ (result ≡ FAULT)) × (new ≡ old) × (needed ≡ 0)

abbrev pub IsGiven : Option (List ℕ) → ℕ → List ℕ → List ℕ → ℕ → Type 0
IsGiven found result old new needed = Finds found result old new needed ⊎ IsUnwritten found result old new needed

-- ---- the lines of what was told

-- as they stand among those of a capture, each with its newline
abbrev pub seat_lines : Seat → List ℕ
seat_lines s = turn_lines (read_meaning s.read) s.debugger.last s.widths

-- They are handed out, or memory was refused where there are any.
abbrev pub IsLined : List ℕ → ℕ → List ℕ → List ℕ → ℕ → Type 0
IsLined lines result old new needed = IsCopied lines result old new needed ⊎ ((result ≡ NO_MEMORY) × (lines ≢ []) × (new ≡ old) × (needed ≡ 0))
