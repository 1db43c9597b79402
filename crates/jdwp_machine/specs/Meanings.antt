-- What a machine means: its states, and what its threads and its answers are at each of them.
use Rattle.std.specs.Prelude.{ℕ, ℤ, Bool, false, ◌==◌, ◌||◌, List, [], ◌∷◌, map}
use Rattle.jdwp_wire.specs.Widths.{Widths}
use Rattle.jdwp_value.specs.declared.id.ObjectId.{ObjectId}
use Rattle.jdwp_value.specs.declared.value.Value.{Value}
use Rattle.jdwp_layout.specs.declared.answer.Answer.{Answer}
use Rattle.jdwp_event.specs.Occurrences.{HappeningMeaning}
use Rattle.jdwp_machine.specs.declared.query.Query.{Query}

-- the numbers of ids
abbrev pub numbers : List ObjectId → List ℕ
numbers ids = map (λ (id : ObjectId). id.0) ids

-- whether a list has a number
abbrev pub has : List ℕ → ℕ → Bool
has [] n = false
has (x ∷ xs) n = (x == n) || has xs n

-- A machine over its states `S`. Threads, frames and slots are named by the numbers of their ids.
pub record Meaning (S : Type 0) : Type 1 where
  -- which values are states of a machine
  pub is_state : S → Type 0
  -- how many bytes each kind of id has
  pub sizes : S → Widths
  -- the threads that live, in the machine's order
  pub live : S → List ℕ
  -- whether a thread lives or has lived
  pub ever : S → ℕ → Bool
  -- what the next step of a live thread makes happen
  pub next : S → ℕ → HappeningMeaning
  -- the state after a step of a thread that has not run out, and after the end of a thread
  pub stepped : S → ℕ → S
  pub ended : S → ℕ → S
  -- what a command that changes nothing is answered
  pub query : S → Query → Answer
  -- what writing these slots of a frame of a thread is answered, and the state after it
  pub write_answer : S → ℕ → ℕ → List (ℤ × Value) → Answer
  pub written : S → ℕ → ℕ → List (ℤ × Value) → S
  -- what making a string of this text is answered, and the state after it
  pub made_answer : S → List ℕ → Answer
  pub made : S → List ℕ → S
