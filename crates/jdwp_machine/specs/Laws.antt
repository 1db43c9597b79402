-- What every machine keeps.
use Rattle.std.specs.Prelude.{◌≡◌, ◌≢◌, ℕ, ℤ, ◌<◌, ◌≤◌, Bool, true, false, ◌==◌, ◌||◌, ◌&&◌, not, pos, ◌⊎◌, List, [], ◌∷◌, length, Option, Some, None, IsSome}
use Rattle.std.specs.List.{IsDistinct}
use Rattle.jdwp_wire.specs.declared.error_code.ErrorCode.{ErrorCode}
use Rattle.jdwp_wire.specs.ErrorCodes.{INVALID_THREAD, THREAD_NOT_SUSPENDED, INVALID_CLASS, INVALID_METHODID, INVALID_LOCATION}
use Rattle.jdwp_wire.specs.Numbers.{id_refusal}
use Rattle.jdwp_wire.specs.Widths.{Widths, AreWidths}
use Rattle.jdwp_value.specs.declared.location.Location.{Location}
use Rattle.jdwp_value.specs.declared.location.Location.TheVariants.{Null}
use Rattle.jdwp_value.specs.Locations.{location_refusal}
use Rattle.jdwp_value.specs.Values.{value_refusal}
use Rattle.jdwp_value.specs.declared.value.Value.{Value}
use Rattle.jdwp_layout.specs.declared.answer.Answer.{Answer}
use Rattle.jdwp_layout.specs.declared.answer.Answer.TheVariants.{Data, Error}
use Rattle.jdwp_layout.specs.CommandNumbers.{is_command, FRAMES, FRAME_COUNT, GET_SLOTS, SET_SLOTS, THIS_OBJECT, SET_REQUEST, CREATE_STRING}
use Rattle.jdwp_layout.specs.CommandTable.{row_at}
use Rattle.jdwp_layout.specs.EventKindNumbers.{BREAKPOINT}
use Rattle.jdwp_layout.specs.ModifierKindNumbers.{LOCATION_ONLY}
use Rattle.jdwp_layout.specs.Rows.{Row, RowShapes}
use Rattle.jdwp_layout.specs.Writes.{data_refusal}
use Rattle.jdwp_layout.specs.Meanings.{Byte, Int, Object, Located, DatumMeaning, One, Many, raw_bytes}
use Rattle.jdwp_event.specs.Composites.{POLICY_NONE}
use Rattle.jdwp_event.specs.Occurrences.{OccurrenceMeaning, Moved, Entered, Left, Threw, Prepared, Started, RanOut, started, runs_out}
use Rattle.jdwp_machine.specs.declared.query.Query.{Query}
use Rattle.jdwp_machine.specs.Meanings.{Meaning, has}

-- ---- words of the laws

-- no thread stands twice
abbrev pub AreDistinct : List ℕ → Type 0
AreDistinct = IsDistinct (λ (a b : ℕ). a == b)

-- whether a thread is the one that is named
abbrev pub is_named : Option ℕ → ℕ → Bool
is_named None thread = false
is_named (Some named) thread = named == thread

-- whether data begin with this object
abbrev pub begins_with : List DatumMeaning → ℕ → Bool
begins_with (One (Object n) ∷ items) object = n == object
begins_with items object = false

-- a question about a thread's frames: where they are, how many, their slots, their `this`
abbrev pub asks_places : Query → ℕ → Bool
asks_places q thread =
    begins_with q.content thread
    && (is_command FRAMES q.set q.number || (is_command FRAME_COUNT q.set q.number || is_command THIS_OBJECT q.set q.number))

abbrev pub asks_slots : Query → ℕ → Bool
asks_slots q thread = begins_with q.content thread && is_command GET_SLOTS q.set q.number

abbrev pub asks_frames : Query → ℕ → Bool
asks_frames q thread = asks_places q thread || asks_slots q thread

-- data in the layout of a row's reply, whose ids fit; in a raw row, bytes
abbrev pub FitsShapes : {S : Type 0} → Meaning S → S → Option RowShapes → List DatumMeaning → Type 0
FitsShapes m s None content = IsSome (raw_bytes content)
FitsShapes m s (Some shapes) content = data_refusal (m.sizes s) shapes.reply content ≡ None

abbrev pub FitsRow : {S : Type 0} → Meaning S → S → Option Row → List DatumMeaning → Type 0
FitsRow m s None content = ⊥
FitsRow m s (Some row) content = FitsShapes m s row.shapes content

-- an error that a machine may answer: whether a thread lives or is suspended is not its to say, and its code has two bytes
abbrev pub IsMachineError : ErrorCode → Type 0
IsMachineError e = (1 ≤ e.0) × (e.0 ≢ INVALID_THREAD.0) × (e.0 ≢ THREAD_NOT_SUSPENDED.0) × (e.0 < 65_536)

-- A refusal takes no memory: only data do.
abbrev pub takes_memory : Answer → Bool
takes_memory (Data content) = true
takes_memory (Error e) = false

-- an answer to a command of this set and number
abbrev pub MayAnswer : {S : Type 0} → Meaning S → S → ℕ → ℕ → Answer → Type 0
MayAnswer m s set number (Data content) = FitsRow m s (row_at set number) content
MayAnswer m s set number (Error e) = IsMachineError e

-- how many values the reply to a GetValues has
abbrev pub value_count : List DatumMeaning → ℕ
value_count (Many values ∷ []) = length values
value_count content = 0

-- the answer to a GetValues, and that to the same one after slots were written: an error stays, and there are as many values
abbrev pub KeepsValues : Answer → Answer → Type 0
KeepsValues (Error e) after = after ≡ Error e
KeepsValues (Data content) (Data after) = value_count after ≡ value_count content
KeepsValues (Data content) (Error e) = ⊥

-- every id of an occurrence fits its width
abbrev pub OccurrenceFits : Widths → OccurrenceMeaning → Type 0
OccurrenceFits w (Moved p) = location_refusal w p.location ≡ None
OccurrenceFits w (Entered p) = location_refusal w p.location ≡ None
OccurrenceFits w (Left p v) = (location_refusal w p.location ≡ None) × (value_refusal w v ≡ None)
OccurrenceFits w (Threw p t) = (location_refusal w p.location ≡ None) × (id_refusal w.object t.exception.id.0 ≡ None) × (location_refusal w t.caught_at ≡ None)
OccurrenceFits w (Prepared p) = id_refusal w.reference p.id ≡ None
OccurrenceFits w Started = Unit {0}
OccurrenceFits w RanOut = Unit {0}

-- a Set of a breakpoint with policy NONE and one modifier, LocationOnly, at this location
abbrev pub breakpoint_at : Location → List DatumMeaning
breakpoint_at location = One (Byte BREAKPOINT) ∷ One (Byte POLICY_NONE) ∷ Many ((Byte LOCATION_ONLY ∷ Located location ∷ []) ∷ []) ∷ []

-- what the test of a location may answer: there is no such class, no such method of it, no such place, or it is one
abbrev pub IsLocationAnswer : Answer → Type 0
IsLocationAnswer (Data content) = content ≡ One (Int (pos 0)) ∷ []
IsLocationAnswer (Error e) = (e ≡ INVALID_CLASS) ⊎ ((e ≡ INVALID_METHODID) ⊎ (e ≡ INVALID_LOCATION))

-- the longest signature of an event
abbrev pub SIGNATURE_LIMIT : ℕ
SIGNATURE_LIMIT = 512

abbrev pub HasShortSignature : OccurrenceMeaning → Type 0
HasShortSignature (Moved p) = length p.class.signature ≤ SIGNATURE_LIMIT
HasShortSignature (Entered p) = length p.class.signature ≤ SIGNATURE_LIMIT
HasShortSignature (Left p v) = length p.class.signature ≤ SIGNATURE_LIMIT
HasShortSignature (Threw p t) = length p.class.signature ≤ SIGNATURE_LIMIT
HasShortSignature (Prepared p) = length p.class.signature ≤ SIGNATURE_LIMIT
HasShortSignature Started = Unit {0}
HasShortSignature RanOut = Unit {0}

-- ---- the laws

-- A thread steps where it lives and has not run out.
abbrev pub MaySteps : {S : Type 0} → Meaning S → S → ℕ → Type 0
MaySteps m s t = m.is_state s × (has (m.live s) t ≡ true) × (runs_out (m.next s t) ≡ false)

abbrev pub MayEnds : {S : Type 0} → Meaning S → S → ℕ → Type 0
MayEnds m s t = m.is_state s × (has (m.live s) t ≡ true)

pub record IsLawful {S : Type 0} (m : Meaning S) : Type 0 where
  -- no thread lives twice, and who lives has lived
  pub live_distinct : (s : S) → m.is_state s → AreDistinct (m.live s)
  pub live_ever : (s : S) → m.is_state s → (t : ℕ) → has (m.live s) t ≡ true → m.ever s t ≡ true
  -- A happening is of the thread that steps; but one that starts a thread names that thread, which never lived.
  pub own_thread : (s : S) (t : ℕ) → MayEnds m s t → started (m.next s t) ≡ None → (m.next s t).thread ≡ t
  pub new_thread : (s : S) (t n : ℕ) → MayEnds m s t → started (m.next s t) ≡ Some n → m.ever s n ≡ false
  -- A step ends nobody, and starts the thread that its happening names, and no other.
  pub state_stepped : (s : S) (t : ℕ) → MaySteps m s t → m.is_state (m.stepped s t)
  pub live_stepped : (s : S) (t u : ℕ) → MaySteps m s t → has (m.live (m.stepped s t)) u ≡ (has (m.live s) u || is_named (started (m.next s t)) u)
  pub ever_stepped : (s : S) (t u : ℕ) → MaySteps m s t → m.ever (m.stepped s t) u ≡ (m.ever s u || is_named (started (m.next s t)) u)
  -- An end ends its thread alone.
  pub state_ended : (s : S) (t : ℕ) → MayEnds m s t → m.is_state (m.ended s t)
  pub live_ended : (s : S) (t u : ℕ) → MayEnds m s t → has (m.live (m.ended s t)) u ≡ (has (m.live s) u && not (u == t))
  pub ever_ended : (s : S) (t u : ℕ) → MayEnds m s t → m.ever (m.ended s t) u ≡ m.ever s u
  -- Writing slots starts and ends nobody, and where it is refused nothing changes.
  pub state_written : (s : S) (t f : ℕ) (values : List (ℤ × Value)) → m.is_state s → m.is_state (m.written s t f values)
  pub live_written : (s : S) (t f : ℕ) (values : List (ℤ × Value)) (u : ℕ) → m.is_state s → has (m.live (m.written s t f values)) u ≡ has (m.live s) u
  pub ever_written : (s : S) (t f : ℕ) (values : List (ℤ × Value)) (u : ℕ) → m.is_state s → m.ever (m.written s t f values) u ≡ m.ever s u
  pub refused_write : (s : S) (t f : ℕ) (values : List (ℤ × Value)) (e : ErrorCode) → m.is_state s → m.write_answer s t f values ≡ Error e → m.written s t f values ≡ s
  -- Making a string starts and ends nobody, leaves what threads do next, and where it is refused nothing changes.
  pub state_made : (s : S) (text : List ℕ) → m.is_state s → m.is_state (m.made s text)
  pub live_made : (s : S) (text : List ℕ) (u : ℕ) → m.is_state s → has (m.live (m.made s text)) u ≡ has (m.live s) u
  pub ever_made : (s : S) (text : List ℕ) (u : ℕ) → m.is_state s → m.ever (m.made s text) u ≡ m.ever s u
  pub next_made : (s : S) (text : List ℕ) (t : ℕ) → MayEnds m s t → m.next (m.made s text) t ≡ m.next s t
  pub refused_make : (s : S) (text : List ℕ) (e : ErrorCode) → m.is_state s → m.made_answer s text ≡ Error e → m.made s text ≡ s
  -- The widths of ids are 1 to 8, and never change.
  pub sizes_are_widths : (s : S) → m.is_state s → AreWidths (m.sizes s).field (m.sizes s).method (m.sizes s).object (m.sizes s).reference (m.sizes s).frame
  pub sizes_stepped : (s : S) (t : ℕ) → MaySteps m s t → m.sizes (m.stepped s t) ≡ m.sizes s
  pub sizes_ended : (s : S) (t : ℕ) → MayEnds m s t → m.sizes (m.ended s t) ≡ m.sizes s
  pub sizes_written : (s : S) (t f : ℕ) (values : List (ℤ × Value)) → m.is_state s → m.sizes (m.written s t f values) ≡ m.sizes s
  pub sizes_made : (s : S) (text : List ℕ) → m.is_state s → m.sizes (m.made s text) ≡ m.sizes s
  -- What is answered of a thread's frames stays where a string is made.
  pub frames_made : (s : S) (text : List ℕ) (u : ℕ) (q : Query) → m.is_state s → asks_frames q u ≡ true → m.query (m.made s text) q ≡ m.query s q
  -- What is answered of a thread's frames stays at a step, at an end and at a write of another thread, and at a write of its own
  -- but for the values of slots: which questions for them are refused stays, and how many are answered.
  pub frames_stepped : (s : S) (t u : ℕ) (q : Query) → MaySteps m s t → t ≢ u → asks_frames q u ≡ true → m.query (m.stepped s t) q ≡ m.query s q
  pub frames_ended : (s : S) (t u : ℕ) (q : Query) → MayEnds m s t → t ≢ u → asks_frames q u ≡ true → m.query (m.ended s t) q ≡ m.query s q
  pub frames_written : (s : S) (t f u : ℕ) (values : List (ℤ × Value)) (q : Query) → m.is_state s → t ≢ u → asks_frames q u ≡ true → m.query (m.written s t f values) q ≡ m.query s q
  pub places_written : (s : S) (t f : ℕ) (values : List (ℤ × Value)) (q : Query) → m.is_state s → asks_places q t ≡ true → m.query (m.written s t f values) q ≡ m.query s q
  pub values_written : (s : S) (t f : ℕ) (values : List (ℤ × Value)) (q : Query) → m.is_state s → asks_slots q t ≡ true → KeepsValues (m.query s q) (m.query (m.written s t f values) q)
  -- Data are in the layout of the row's reply, or bytes where the row is raw; and errors are a machine's.
  pub answers : (s : S) (q : Query) → m.is_state s → MayAnswer m s q.set q.number (m.query s q)
  pub write_answers : (s : S) (t f : ℕ) (values : List (ℤ × Value)) → m.is_state s → MayAnswer m s SET_SLOTS.set SET_SLOTS.number (m.write_answer s t f values)
  pub make_answers : (s : S) (text : List ℕ) → m.is_state s → MayAnswer m s CREATE_STRING.set CREATE_STRING.number (m.made_answer s text)
  pub short_signature : (s : S) (t : ℕ) → MayEnds m s t → HasShortSignature (m.next s t).occurrence
  -- Ids of live threads and of happenings fit their widths.
  pub live_fits : (s : S) (t : ℕ) → m.is_state s → has (m.live s) t ≡ true → id_refusal (m.sizes s).object t ≡ None
  pub thread_fits : (s : S) (t : ℕ) → MayEnds m s t → id_refusal (m.sizes s).object (m.next s t).thread ≡ None
  pub occurrence_fits : (s : S) (t : ℕ) → MayEnds m s t → OccurrenceFits (m.sizes s) (m.next s t).occurrence
  -- The test of a location has one of four answers, and the null location is no place.
  pub location_answers : (s : S) (q : Query) (location : Location) → m.is_state s → is_command SET_REQUEST q.set q.number ≡ true → q.content ≡ breakpoint_at location → IsLocationAnswer (m.query s q)
  pub null_location : (s : S) (q : Query) → m.is_state s → is_command SET_REQUEST q.set q.number ≡ true → q.content ≡ breakpoint_at Null → m.query s q ≡ Error INVALID_LOCATION
