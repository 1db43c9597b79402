-- Event requests: what was asked for, and what has become of it (JDWP specification, "Protocol Details": the set EventRequest).
use Rattle.std.specs.Prelude.{ℕ, List, map, Option}
use Rattle.jdwp_event.specs.Modifiers.{ModifierMeaning}

-- A request as it was asked for: its id, its kind and policy as bytes, and its modifiers in the order sent.
pub record AskedRequest : Type 0 where
  pub id : ℕ
  pub kind : ℕ
  pub policy : ℕ
  pub modifiers : List ModifierMeaning

-- Where a thread was: how many frames it had, and the line of its place, if one was known.
pub record Origin : Type 0 where
  pub frames : ℕ
  pub line : Option ℕ

-- A request, how often each of its modifiers was reached where that is a Count and else 0, and from where its steps are measured.
pub record Request : Type 0 where
  pub asked : AskedRequest
  pub reached : List ℕ
  pub origin : Origin

-- a request before anything happened
abbrev pub new_request : AskedRequest → Origin → Request
new_request asked origin = record { asked = asked; reached = map (λ (m : ModifierMeaning). 0) asked.modifiers; origin = origin }

-- all requests as asked
abbrev pub all_asked : List Request → List AskedRequest
all_asked requests = map (λ (r : Request). r.asked) requests
