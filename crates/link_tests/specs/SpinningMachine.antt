-- A machine for tests of a link: a thread that steps on and on at one place, and one that has run out. Its ids are of five widths.
use Rattle.std.specs.Prelude.{◌≡◌, ℕ, ◌==◌, Bool, true, ◌||◌, not, List, [], codes, None, if◌then◌else◌}
use Rattle.std.specs.List.{filter}
use Rattle.jdwp_wire.specs.ErrorCodes.{INVALID_LOCATION, NOT_IMPLEMENTED}
use Rattle.jdwp_wire.specs.Widths.{Widths}
use Rattle.jdwp_value.specs.declared.location.Location.TheVariants.{At}
use Rattle.jdwp_value.specs.declared.location.TypeTag.TheVariants.{Class}
use Rattle.jdwp_layout.specs.declared.answer.Answer.TheVariants.{Error}
use Rattle.jdwp_event.specs.Occurrences.{HappeningMeaning, PlaceMeaning, Moved, RanOut}
use Rattle.jdwp_machine.specs.Meanings.{Meaning, has}
use Rattle.jdwp_machine.specs.Laws.{AreDistinct}

-- the two threads
abbrev pub is_thread : ℕ → Bool
is_thread t = (t == 1) || (t == 2)

-- No thread lives twice, and only the two live.
pub record IsState (live : List ℕ) : Type 0 where
  pub distinct : AreDistinct live
  pub known : (t : ℕ) → has live t ≡ true → is_thread t ≡ true

-- those that live behind the end of a thread
abbrev pub others : ℕ → List ℕ → List ℕ
others t live = filter (λ (u : ℕ). not (u == t)) live

abbrev pub five : Widths
five = record { field = 1; method = 2; object = 4; reference = 8; frame = 3 }

-- where the first thread is
abbrev pub hub : PlaceMeaning
hub = record { location = At Class (record { 0 = 10 }) (record { 0 = 20 }) 0; line = None; frames = 1; class = record { signature = codes "LHub;"; reaches = [] } }

-- what a step of a thread makes happen
abbrev pub turned : ℕ → HappeningMeaning
turned t = record { thread = t; occurrence = if t == 1 then Moved hub else RanOut }

-- no question is answered
abbrev pub spinning : Meaning (List ℕ)
spinning = record {
  is_state = IsState;
  sizes = λ live. five;
  live = λ live. live;
  ever = λ live t. true;
  next = λ live t. turned t;
  stepped = λ live t. live;
  ended = λ live t. others t live;
  query = λ live q. Error INVALID_LOCATION;
  write_answer = λ live t f values. Error INVALID_LOCATION;
  written = λ live t f values. live;
  made_answer = λ live text. Error NOT_IMPLEMENTED;
  made = λ live text. live;
}
