-- Which kinds of events requests ask for, and whether a Count (JDWP specification, "Protocol Details": the command Set of the set EventRequest).
use Rattle.std.specs.Prelude.{ℕ, ◌≡◌, ◌==◌, Bool, List}
use Rattle.std.specs.List.{list_any}
use Rattle.jdwp_event.specs.declared.kind.EventKind.{EventKind}
use Rattle.jdwp_event.specs.declared.kinds_asked.KindsAsked.{KindsAsked}
use Rattle.jdwp_event.specs.EventKinds.{kind_byte}
use Rattle.jdwp_event.specs.Occurrences.{OccurrenceMeaning, Moved, Entered, Left, Threw, Prepared, Started, RanOut}
use Rattle.jdwp_event.specs.Requests.{Request}
use Rattle.jdwp_event.specs.Filters.{is_count, kinds_of}

-- a request is of the kind of this byte
abbrev pub has_kind : ℕ → List Request → Bool
has_kind byte requests = list_any (λ (r : Request). byte == r.asked.kind) requests

-- a request is of a kind of what happened
abbrev pub asks_for : OccurrenceMeaning → List Request → Bool
asks_for o requests = list_any (λ (k : EventKind). has_kind (kind_byte k) requests) (kinds_of o)

-- a modifier of the request is a Count
abbrev pub has_count : Request → Bool
has_count r = list_any is_count r.asked.modifiers

abbrev pub any_has_count : List Request → Bool
any_has_count requests = list_any has_count requests

-- what is kept of the kinds
abbrev pub is_asked : KindsAsked → OccurrenceMeaning → Bool
is_asked kinds (Moved p) = kinds.moved
is_asked kinds (Entered p) = kinds.entered
is_asked kinds (Left p v) = kinds.left
is_asked kinds (Threw p t) = kinds.threw
is_asked kinds (Prepared p) = kinds.prepared
is_asked kinds Started = kinds.started
is_asked kinds RanOut = kinds.ran_out

-- it is of these requests
abbrev pub AreAsked : KindsAsked → List Request → Type 0
AreAsked kinds requests = ((o : OccurrenceMeaning) → is_asked kinds o ≡ asks_for o requests) × (kinds.counts ≡ any_has_count requests)
