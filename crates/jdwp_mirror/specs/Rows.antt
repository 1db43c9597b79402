-- How the event requests of a mirror are kept and found by their ids: each stands in a map under a number, these rise in the order asked;
-- the numbers of the breakpoints are kept besides, and a second map has the number of each id.
use Rattle.std.specs.Prelude.{◌≡◌, ℕ, ℤ, ◌==◌, Bool, false, not, List, [], ◌∷◌, Option, Some, None, if◌then◌else◌}
use Rattle.std.specs.BTreeMap.{BTreeMap, get, is_at}
use Rattle.std.specs.List.{AllByRecursion, filter}
use Rattle.std.specs.List.Sorted.{IsStrictlySortedBy}
use Rattle.std.specs.Map.{keys_of, lookup}
use Rattle.std.specs.Option.{option_map}
use Rattle.std.specs.Ordering.{int_cmp, nat_cmp}
use Rattle.jdwp_mirror.specs.Mirror.{Kept, is_no_kept_breakpoint}

-- requests under their numbers
abbrev pub Row : Type 0
Row = List (ℕ × Kept)

abbrev pub request_at : ℕ × Kept → Kept
request_at e = e.1

-- ---- breakpoints

abbrev pub is_no_breakpoint_at : ℕ × Kept → Bool
is_no_breakpoint_at e = is_no_kept_breakpoint e.1

abbrev pub is_breakpoint_at : ℕ × Kept → Bool
is_breakpoint_at e = not (is_no_breakpoint_at e)

-- their numbers
abbrev pub breakpoints_in : Row → List ℕ
breakpoints_in row = keys_of (filter is_breakpoint_at row)

-- all but the first that does not stay
abbrev pub without_first : {X : Type 0} → (X → Bool) → List X → List X
without_first stays [] = []
without_first stays (x ∷ xs) = if stays x then x ∷ without_first stays xs else xs

-- what holds of a row and of the numbers of its breakpoints
pub record IsMarked (row : Row) (breakpoints : List ℕ) : Type 0 where
  pub ordered : IsStrictlySortedBy nat_cmp (keys_of row)
  pub marked : breakpoints ≡ breakpoints_in row

-- ---- numbers by id

abbrev pub number_in : BTreeMap ℤ ℕ → ℤ → Option ℕ
number_in numbers id = get int_cmp numbers id

abbrev pub request_id : Kept → ℤ
request_id r = r.id

abbrev pub request_kind : Kept → ℕ
request_kind r = r.kind

abbrev pub kind_at : Row → ℕ → Option ℕ
kind_at row n = option_map request_kind (lookup (is_at (nat_cmp n)) row)

-- whether it is this kind
abbrev pub is_of_kind : ℕ → Option ℕ → Bool
is_of_kind kind None = false
is_of_kind kind (Some k) = k == kind

abbrev pub HasNumber : (ℤ → Option ℕ) → ℕ × Kept → Type 0
HasNumber number e = number e.1.id ≡ Some e.0

-- each request is found by its id, and what is found by an id is a request of that id
pub record AreNamed (row : Row) (number : ℤ → Option ℕ) : Type 0 where
  pub found : AllByRecursion (HasNumber number) row
  pub named : (id : ℤ) (n : ℕ) → number id ≡ Some n → option_map request_id (lookup (is_at (nat_cmp n)) row) ≡ Some id
