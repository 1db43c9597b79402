-- A machine of one thread, 1, that makes one step: what it means, state by state.
use Rattle.std.specs.Prelude.{ℕ, pos, ◌==◌, Bool, true, false, ⊤, List, [], ◌∷◌, codes}
use Rattle.milunovesk.specs.Event.Occurrences.{OccurrenceMeaning, PreparedMeaning, Prepared, RanOut}
use Rattle.milunovesk.specs.Layout.Answer.TheVariants.{Error}
use Rattle.milunovesk.specs.Machine.Meanings.{Meaning}
use Rattle.milunovesk.specs.Value.TypeTag.TheVariants.{Class}
use Rattle.milunovesk.specs.Wire.ErrorCodes.{INVALID_LOCATION, NOT_IMPLEMENTED}
use Rattle.milunovesk.specs.Wire.Widths.{Widths}

-- whether the thread lives, and whether its step is still to come
pub record State : Type 0 where
  pub lives : Bool
  pub is_new : Bool

-- before its step
abbrev pub begun : State
begun = record { lives = true; is_new = true }

-- the threads that live
abbrev pub live_where : Bool → List ℕ
live_where true = 1 ∷ []
live_where false = []

-- the class of id 1, which is prepared and verified
abbrev pub main_class : PreparedMeaning
main_class = record { tag = Class; id = 1; status = pos 3; class = record { signature = codes "LMain;"; reaches = 1 ∷ [] } }

-- the step prepares it, and behind that there is none
abbrev pub happens : Bool → OccurrenceMeaning
happens true = Prepared main_class
happens false = RanOut

-- each id has eight bytes
abbrev pub eight : Widths
eight = record { field = 8; method = 8; object = 8; reference = 8; frame = 8 }

-- The class has no methods, so no location is one, and no question is answered in another way.
abbrev pub one_step : Meaning State
one_step = record {
  is_state = λ s. ⊤;
  sizes = λ s. eight;
  live = λ s. live_where s.lives;
  ever = λ s t. 1 == t;
  next = λ s t. record { thread = t; occurrence = happens s.is_new };
  stepped = λ s t. record s { is_new = false };
  ended = λ s t. record s { lives = false };
  query = λ s q. Error INVALID_LOCATION;
  write_answer = λ s t f values. Error INVALID_LOCATION;
  written = λ s t f values. s;
  made_answer = λ s text. Error NOT_IMPLEMENTED;
  made = λ s text. s;
}
