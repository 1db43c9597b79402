-- Composite events (JDWP specification, "Protocol Details": the command Composite of the set Event).
use Rattle.std.specs.Prelude.{ℕ, pos, ◌==◌, max, List, [], ◌∷◌, map, Option, Some, None, if◌then◌else◌}
use Rattle.jdwp_value.specs.Locations.{type_tag_byte}
use Rattle.jdwp_layout.specs.Meanings.{ScalarMeaning, Byte, Int, Text, Object, ReferenceType, Located, Valued, Tagged, DatumMeaning, One, Many}
use Rattle.jdwp_event.specs.declared.kind.EventKind.TheVariants as kind
use Rattle.jdwp_event.specs.declared.policy.Policy.TheVariants as policy
use Rattle.jdwp_event.specs.Constants.{policy_byte}
use Rattle.jdwp_event.specs.EventKinds.{kind_byte}
use Rattle.jdwp_event.specs.Occurrences.{OccurrenceMeaning, Moved, Entered, Left, Threw, Prepared, Started, RanOut, HappeningMeaning}
use Rattle.jdwp_event.specs.Requests.{Request}
use Rattle.jdwp_event.specs.Filters.{passing}

-- the suspend policies as bytes; the greater one is the more suspending
abbrev pub POLICY_NONE : ℕ
POLICY_NONE = policy_byte policy.None

abbrev pub POLICY_EVENT_THREAD : ℕ
POLICY_EVENT_THREAD = policy_byte policy.EventThread

abbrev pub POLICY_ALL : ℕ
POLICY_ALL = policy_byte policy.All

-- A composite: its policy, and its events, each with its kind as a byte, the id of its request, and what follows them.
pub record CompositeMeaning : Type 0 where
  pub policy : ℕ
  pub events : List (List ScalarMeaning)

-- its data, in the layout of its row
abbrev pub composite_data : CompositeMeaning → List DatumMeaning
composite_data c = One (Byte c.policy) ∷ Many c.events ∷ []

-- what an event of a kind tells of an occurrence, behind its thread
abbrev pub details : ℕ → OccurrenceMeaning → List ScalarMeaning
details byte (Moved p) = Located p.location ∷ []
details byte (Entered p) = Located p.location ∷ []
details byte (Left p value) = Located p.location ∷ (if byte == kind_byte kind.MethodExitWithReturnValue then Valued value ∷ [] else [])
details byte (Threw p t) = Located p.location ∷ Tagged t.exception ∷ Located t.caught_at ∷ []
details byte (Prepared p) = Byte (type_tag_byte p.tag) ∷ ReferenceType p.id ∷ Text p.class.signature ∷ Int p.status ∷ []
details byte Started = []
details byte RanOut = []

-- the event by which a request reports a happening
abbrev pub event_for : HappeningMeaning → Request → List ScalarMeaning
event_for h r = Byte r.asked.kind ∷ Int (pos r.asked.id) ∷ Object h.thread ∷ details r.asked.kind h.occurrence

abbrev pub greatest_policy : List Request → ℕ
greatest_policy [] = POLICY_NONE
greatest_policy (r ∷ rs) = max r.asked.policy (greatest_policy rs)

-- the composite of these requests, if there are any
abbrev pub composite_by : HappeningMeaning → List Request → Option CompositeMeaning
composite_by h [] = None
composite_by h (r ∷ rs) = Some (record { policy = greatest_policy (r ∷ rs); events = map (event_for h) (r ∷ rs) })

-- All requests that pass report together, with the most suspending of their policies.
abbrev pub gathered : HappeningMeaning → List Request → Option CompositeMeaning
gathered h requests = composite_by h (passing h requests)

-- ---- what the target reports by itself, under request id 0

abbrev pub vm_start : ℕ → ℕ → CompositeMeaning
vm_start policy thread = record { policy = policy; events = (Byte (kind_byte kind.VmStart) ∷ Int (pos 0) ∷ Object thread ∷ []) ∷ [] }

abbrev pub vm_death : CompositeMeaning
vm_death = record { policy = POLICY_NONE; events = (Byte (kind_byte kind.VmDeath) ∷ Int (pos 0) ∷ []) ∷ [] }
