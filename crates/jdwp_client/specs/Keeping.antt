-- What is kept of what turns of a debugger tell, until somebody takes it (JDWP specification, "JDWP Overview": replies and events come in
-- any order; "Protocol Details": the command Composite of the set Event, whose events begin with a kind and the id of their request).
use Rattle.std.specs.Prelude.{◌≡◌, ℕ, ℤ, ◌<◌, ◌≤◌, ◌==◌, ◌-◌, nat_lt, Bool, false, List, [], ◌∷◌, length, remove, slice_get, slice_index_or, Option, Some, None, MatchOption}
use Rattle.std.specs.List.{list_any, position}
use Rattle.std.specs.Ordering.{int_eq}
use Rattle.jdwp_debugger.specs.declared.pending.Ticket.{Ticket}
use Rattle.jdwp_debugger.specs.DebuggerTurns.{Told, Nothing, Hello, Parked, Sizes, Answered, Seen}
use Rattle.jdwp_event.specs.Composites.{CompositeMeaning}
use Rattle.jdwp_layout.specs.Meanings.{ScalarMeaning, Int}
use Rattle.jdwp_layout.specs.declared.answer.Answer.{Answer}

-- ---- what turns tell

-- the composites that a turn told, in order
abbrev pub composites_in : Told → List CompositeMeaning
composites_in Nothing = []
composites_in Hello = []
composites_in Parked = []
composites_in (Sizes composites) = composites
composites_in (Answered ticket answer) = []
composites_in (Seen composite) = composite ∷ []

-- the answer that it told, with its ticket
abbrev pub answers_in : Told → List (Ticket × Answer)
answers_in Nothing = []
answers_in Hello = []
answers_in Parked = []
answers_in (Sizes composites) = []
answers_in (Answered ticket answer) = (record { 0 = ticket }, answer) ∷ []
answers_in (Seen composite) = []

-- ---- what is looked for

-- an answer is under this ticket
abbrev pub is_under : ℕ → Ticket × Answer → Bool
is_under ticket kept = kept.0.0 == ticket

-- an event is of this request
abbrev pub is_of_request : ℤ → List ScalarMeaning → Bool
is_of_request request (kind ∷ Int id ∷ details) = int_eq id request
is_of_request request event = false

-- a composite has an event of this request
abbrev pub has_request : ℤ → CompositeMeaning → Bool
has_request request c = list_any (is_of_request request) c.events

-- So many answers, from the first on, have tickets that rise.
abbrev pub Rises : ℕ → List (Ticket × Answer) → Type 0
Rises n kept = (n ≤ length kept) × ((i j : ℕ) (d : Ticket × Answer) → i < j → j < n → (slice_index_or kept i d).0.0 < (slice_index_or kept j d).0.0)

-- ---- what is handed out

-- The first item that passes was handed out, and the others stay in order.
pub record HandsOut {X : Type 0} (passes : X → Bool) (old : List X) (item : X) (new : List X) : Type 0 where
  pub place : ℕ
  pub first : position passes old ≡ Some place
  pub is : slice_get old place ≡ Some item
  pub others : new ≡ remove old place

-- one that passes was handed out, or none does and all stay
abbrev pub Takes : {X : Type 0} → (X → Bool) → List X → Option X → List X → Type 0
Takes passes old result new = MatchOption result ((position passes old ≡ None) × (new ≡ old)) (λ item. HandsOut passes old item new)

-- fewer than four more may be kept, as many as one turn may tell
abbrev pub is_full : {X : Type 0} → ℕ → List X → Bool
is_full most kept = nat_lt (most - length kept) 4
