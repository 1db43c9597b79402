-- Where a thread is, as a machine answers it: from there the steps of a new request are measured
-- (JDWP specification, "Protocol Details": ThreadReference.Frames, Method.LineTable, and the modifier Step).
use Rattle.std.specs.Prelude.{ℕ, pos, negsuc, nat_le, List, [], ◌∷◌, length, Option, Some, None, if◌then◌else◌}
use Rattle.std.specs.Int.{w32, w64, cast_unsigned}
use Rattle.jdwp_value.specs.declared.location.Location.{Location}
use Rattle.jdwp_value.specs.declared.location.Location.TheVariants as location
use Rattle.jdwp_layout.specs.declared.answer.Answer.{Answer}
use Rattle.jdwp_layout.specs.declared.answer.Answer.TheVariants.{Data}
use Rattle.jdwp_layout.specs.CommandNumbers.{FRAMES, LINE_TABLE}
use Rattle.jdwp_layout.specs.Meanings.{ScalarMeaning, Int, Long, Object, ReferenceType, Method, Frame, Located, One, Many}
use Rattle.jdwp_event.specs.Requests.{Origin}
use Rattle.jdwp_machine.specs.declared.query.Query.{Query}
use Rattle.jdwp_machine.specs.Meanings.{Meaning}

-- all frames of a thread: from 0, and -1 means the rest
abbrev pub frames_query : ℕ → Query
frames_query t = record { set = FRAMES.set; number = FRAMES.number; content = One (Object t) ∷ One (Int (pos 0)) ∷ One (Int (negsuc 0)) ∷ [] }

abbrev pub lines_query : ℕ → ℕ → Query
lines_query class method = record { set = LINE_TABLE.set; number = LINE_TABLE.number; content = One (ReferenceType class) ∷ One (Method method) ∷ [] }

-- the line of the last entry at or before an index
abbrev pub line_at : ℕ → List (List ScalarMeaning) → Option ℕ → Option ℕ
line_at index [] line = line
line_at index ((Long start ∷ Int number ∷ []) ∷ entries) line =
    line_at index entries (if nat_le (cast_unsigned w64 start) index then Some (cast_unsigned w32 number) else line)
line_at index (entry ∷ entries) line = line_at index entries line

-- an error means that no line is known
abbrev pub line_by : ℕ → Answer → Option ℕ
line_by index (Data (One (Long first) ∷ One (Long last) ∷ Many entries ∷ [])) = line_at index entries None
line_by index answer = None

abbrev pub line_in : {S : Type 0} → Meaning S → S → Location → Option ℕ
line_in m s (location.At tag class method index) = line_by index (m.query s (lines_query class.0 method.0))
line_in m s location.Null = None

-- of the newest frame
abbrev pub newest_line : {S : Type 0} → Meaning S → S → List (List ScalarMeaning) → Option ℕ
newest_line m s ((Frame f ∷ Located place ∷ []) ∷ frames) = line_in m s place
newest_line m s frames = None

-- an error means that the thread has no frame
abbrev pub origin_by : {S : Type 0} → Meaning S → S → Answer → Origin
origin_by m s (Data (Many frames ∷ [])) = record { frames = length frames; line = newest_line m s frames }
origin_by m s answer = record { frames = 0; line = None }

abbrev pub origin_of : {S : Type 0} → Meaning S → S → ℕ → Origin
origin_of m s t = origin_by m s (m.query s (frames_query t))
