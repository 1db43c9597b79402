-- A machine for tests of the order in which threads step: three threads in a list that falls. The first step of any of them prepares a
-- class, where one is to be prepared; but for that they have run out.
use Rattle.std.specs.Prelude.{◌≡◌, ℕ, pos, ◌==◌, Bool, true, false, ◌||◌, not, List, []}
use Rattle.std.specs.List.{filter}
use Rattle.jdwp_wire.specs.ErrorCodes.{INVALID_LOCATION, NOT_IMPLEMENTED}
use Rattle.jdwp_wire.specs.Widths.{Widths}
use Rattle.jdwp_layout.specs.declared.answer.Answer.TheVariants.{Error}
use Rattle.jdwp_value.specs.declared.location.TypeTag.TheVariants.{Class}
use Rattle.jdwp_event.specs.Occurrences.{OccurrenceMeaning, PreparedMeaning, Prepared, RanOut}
use Rattle.jdwp_machine.specs.Meanings.{Meaning, has}
use Rattle.jdwp_machine.specs.Laws.{AreDistinct}

-- the three threads
abbrev pub is_thread : ℕ → Bool
is_thread t = (t == 18_446_744_073_709_551_615) || ((t == 9_223_372_036_854_775_808) || (t == 2))

-- those that live, and whether a class is to be prepared
pub record Three : Type 0 where
  pub live : List ℕ
  pub prepares : Bool

-- No thread lives twice, and only the three live.
pub record IsState (live : List ℕ) : Type 0 where
  pub distinct : AreDistinct live
  pub known : (t : ℕ) → has live t ≡ true → is_thread t ≡ true

-- those that live behind the end of a thread
abbrev pub others : ℕ → List ℕ → List ℕ
others t live = filter (λ (u : ℕ). not (u == t)) live

-- each id has eight bytes
abbrev pub eight : Widths
eight = record { field = 8; method = 8; object = 8; reference = 8; frame = 8 }

-- the class, of id 1 and without a signature
abbrev pub class_prepared : PreparedMeaning
class_prepared = record { tag = Class; id = 1; status = pos 7; class = record { signature = []; reaches = [] } }

abbrev pub happens : Bool → OccurrenceMeaning
happens true = Prepared class_prepared
happens false = RanOut

-- no question is answered
abbrev pub falling : Meaning Three
falling = record {
  is_state = λ m. IsState m.live;
  sizes = λ m. eight;
  live = λ m. m.live;
  ever = λ m t. true;
  next = λ m t. record { thread = t; occurrence = happens m.prepares };
  stepped = λ m t. record m { prepares = false };
  ended = λ m t. record m { live = others t m.live };
  query = λ m q. Error INVALID_LOCATION;
  write_answer = λ m t f values. Error INVALID_LOCATION;
  written = λ m t f values. m;
  made_answer = λ m text. Error NOT_IMPLEMENTED;
  made = λ m text. m;
}
