-- A small machine for sessions that are worked out by hand: two threads, of which the first enters a method, moves in it and leaves it,
-- and the second has no step.
use Rattle.std.specs.Prelude.{◌≡◌, ℕ, pos, ◌+◌, ◌==◌, Bool, true, false, ◌||◌, not, List, [], ◌∷◌, get_or, codes, Option, Some, None, if◌then◌else◌}
use Rattle.std.specs.List.{filter}
use Rattle.jdwp_wire.specs.ErrorCodes.{INVALID_LOCATION, INVALID_FRAMEID, NOT_IMPLEMENTED}
use Rattle.jdwp_wire.specs.Limits.{standard_limits}
use Rattle.jdwp_wire.specs.Widths.{Widths}
use Rattle.jdwp_value.specs.declared.location.Location.{Location}
use Rattle.jdwp_value.specs.declared.location.Location.TheVariants.{Null, At}
use Rattle.jdwp_value.specs.declared.location.TypeTag.TheVariants.{Class}
use Rattle.jdwp_value.specs.declared.value.Value.TheVariants as value
use Rattle.jdwp_layout.specs.declared.answer.Answer.{Answer}
use Rattle.jdwp_layout.specs.declared.answer.Answer.TheVariants.{Data, Error}
use Rattle.jdwp_layout.specs.CommandNumbers.{is_command, SET_REQUEST, FRAMES}
use Rattle.jdwp_layout.specs.Meanings.{Int, Frame, Located, DatumMeaning, One, Many}
use Rattle.jdwp_event.specs.Occurrences.{HappeningMeaning, OccurrenceMeaning, PlaceMeaning, Moved, Entered, Left, RanOut}
use Rattle.jdwp_machine.specs.declared.query.Query.{Query}
use Rattle.jdwp_machine.specs.Meanings.{Meaning, has}
use Rattle.jdwp_machine.specs.declared.profile.Profile.TheVariants.{Standard}
use Rattle.jdwp_machine.specs.Laws.{AreDistinct, begins_with}
use Rattle.jdwp_debuggee.specs.Settings.{Settings}
use Rattle.jdwp_model.specs.Measures.{measured}
use Rattle.jdwp_model.specs.World.{Measure, World, opening}

-- ---- the machine

-- how many steps the first thread has made, and which threads live
pub record Small : Type 0 where
  pub made : ℕ
  pub live : List ℕ

-- the two threads
abbrev pub is_thread : ℕ → Bool
is_thread t = (t == 1) || (t == 2)

-- No thread lives twice, and only the two live.
pub record IsState (s : Small) : Type 0 where
  pub distinct : AreDistinct s.live
  pub known : (t : ℕ) → has s.live t ≡ true → is_thread t ≡ true

abbrev pub widths : Widths
widths = record { field = 8; method = 8; object = 8; reference = 8; frame = 8 }

abbrev pub location : ℕ → Location
location index = At Class (record { 0 = 10 }) (record { 0 = 20 }) index

abbrev pub place : ℕ → ℕ → PlaceMeaning
place index line = record { location = location index; line = Some line; frames = 1; class = record { signature = codes "LMain;"; reaches = 10 ∷ [] } }

-- what the steps of the first thread make happen
abbrev pub occurrences : List OccurrenceMeaning
occurrences =
    Entered (place 0 1) ∷ Moved (place 3 2) ∷ Moved (place 4 3) ∷ Moved (place 3 2) ∷ Moved (place 4 3) ∷ Moved (place 3 2)
    ∷ Left (place 3 2) value.Void ∷ []

abbrev pub happening : Small → ℕ → HappeningMeaning
happening s t = record { thread = t; occurrence = if t == 1 then get_or occurrences s.made RanOut else RanOut }

-- where the first thread's frame is after so many steps: it has one from its first step, which enters the method, to its last, which leaves it
abbrev pub index_after : ℕ → Option ℕ
index_after made = get_or (None ∷ Some 0 ∷ Some 3 ∷ Some 4 ∷ Some 3 ∷ Some 4 ∷ Some 3 ∷ []) made None

abbrev pub one_frame : ℕ → List DatumMeaning
one_frame index = Many ((Frame 30 ∷ Located (location index) ∷ []) ∷ []) ∷ []

abbrev pub frames_at : Option ℕ → List DatumMeaning
frames_at None = Many [] ∷ []
frames_at (Some index) = one_frame index

-- all frames of the thread that is asked about; none but the first ever has one
abbrev pub frames_of : Small → List DatumMeaning → List DatumMeaning
frames_of s content = frames_at (if begins_with content 1 then index_after s.made else None)

-- each location is one but the null location
abbrev pub location_answer : List DatumMeaning → Answer
location_answer (One kind ∷ One policy ∷ Many ((modifier ∷ Located Null ∷ []) ∷ []) ∷ []) = Error INVALID_LOCATION
location_answer content = Data (One (Int (pos 0)) ∷ [])

-- no question is answered but the test of a location and Frames
abbrev pub small_answer : Small → Query → Answer
small_answer s q =
    if is_command SET_REQUEST q.set q.number then location_answer q.content else
    (if is_command FRAMES q.set q.number then Data (frames_of s q.content) else Error NOT_IMPLEMENTED)

abbrev pub small : Meaning Small
small = record {
  is_state = IsState;
  sizes = λ s. widths;
  live = λ s. s.live;
  ever = λ s t. is_thread t;
  next = happening;
  stepped = λ s t. record { made = s.made + 1; live = s.live };
  ended = λ s t. record { made = s.made; live = filter (λ (u : ℕ). not (u == t)) s.live };
  query = small_answer;
  write_answer = λ s t f values. Error INVALID_FRAMEID;
  written = λ s t f values. s;
  made_answer = λ s text. Error NOT_IMPLEMENTED;
  made = λ s text. s;
}

abbrev pub small_opening : Small
small_opening = record { made = 0; live = 1 ∷ 2 ∷ [] }

-- ---- the session

-- nobody is suspended as it begins
abbrev pub settings : Settings
settings = record { start_all = false; count_limit = 65535; limits = standard_limits; profile = Standard }

-- as both ends measure, with ids of 8 bytes
abbrev pub measure : Measure
measure = measured widths standard_limits

abbrev pub before : World Small
before = opening small small_opening
