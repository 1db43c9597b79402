-- Lists of event requests by rising id, and what is added and removed (JDWP specification, "Protocol Details": the commands Set,
-- Clear and ClearAllBreakpoints of the set EventRequest).
use Rattle.std.specs.Prelude.{ℕ, ℤ, pos, ◌<◌, ◌≤◌, ◌==◌, nat_lt, Bool, ◌&&◌, not, List, [], ◌∷◌, if◌then◌else◌}
use Rattle.std.specs.Ordering.{int_eq}
use Rattle.std.specs.List.{filter, list_any}
use Rattle.jdwp_event.specs.declared.kind.EventKind.TheVariants as kind
use Rattle.jdwp_event.specs.EventKinds.{kind_byte}
use Rattle.jdwp_event.specs.Requests.{Request}

-- every id is above this one; below it
abbrev pub AllAbove : ℕ → List Request → Type 0
AllAbove id [] = Unit {0}
AllAbove id (r ∷ rs) = (id < r.asked.id) × AllAbove id rs

abbrev pub AllBelow : ℕ → List Request → Type 0
AllBelow id [] = Unit {0}
AllBelow id (r ∷ rs) = (r.asked.id < id) × AllBelow id rs

-- the first id is this one or above it
abbrev pub StartsAbove : ℕ → List Request → Type 0
StartsAbove id [] = Unit {0}
StartsAbove id (r ∷ rs) = id ≤ r.asked.id

abbrev pub AreRising : List Request → Type 0
AreRising [] = Unit {0}
AreRising (r ∷ rs) = AllAbove r.asked.id rs × AreRising rs

-- with a request under its id, in place of an older one of that id
abbrev pub placed : Request → List Request → List Request
placed r [] = r ∷ []
placed r (x ∷ xs) =
    if nat_lt x.asked.id r.asked.id then x ∷ placed r xs else (
    if x.asked.id == r.asked.id then r ∷ xs else
    r ∷ x ∷ xs)

-- whether there is a request of this id
abbrev pub has_id : ℕ → List Request → Bool
has_id id requests = list_any (λ (r : Request). r.asked.id == id) requests

-- Whether the command Clear of this kind and id leaves a request, by the request's kind and id: all but the one of both.
abbrev pub is_left : ℕ → ℤ → ℕ → ℤ → Bool
is_left byte id request_kind request_id = not ((request_kind == byte) && int_eq request_id id)

-- Whether the command ClearAllBreakpoints leaves a request, by the request's kind: all but those of the kind BREAKPOINT.
abbrev pub is_left_by_all : ℕ → Bool
is_left_by_all request_kind = not (request_kind == kind_byte kind.Breakpoint)

-- what Clear leaves of a list
abbrev pub is_another : ℕ → ℤ → Request → Bool
is_another byte id r = is_left byte id r.asked.kind (pos r.asked.id)

abbrev pub without : ℕ → ℤ → List Request → List Request
without byte id requests = filter (is_another byte id) requests

-- what ClearAllBreakpoints leaves of a list
abbrev pub is_no_breakpoint : Request → Bool
is_no_breakpoint r = is_left_by_all r.asked.kind

abbrev pub without_breakpoints : List Request → List Request
without_breakpoints requests = filter is_no_breakpoint requests
