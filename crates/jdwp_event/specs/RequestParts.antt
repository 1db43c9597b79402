-- What requests in memory say.
use Rattle.std.specs.Prelude.{ℕ, ℤ, pos, negsuc, ◌+◌, ◌-◌, zero, suc, Bool, false, ◌&&◌, List, [], ◌∷◌, map, Option, Some, None, if◌then◌else◌}
use Rattle.std.specs.Borrow.{Bor}
use Rattle.std.specs.Global.{Vec}
use Rattle.jdwp_event.specs.declared.modifier.Modifier.{Modifier}
use Rattle.jdwp_event.specs.declared.request.StepOrigin.{StepOrigin}
use Rattle.jdwp_event.specs.Modifiers.{ModifierMeaning, Count, Conditional, ThreadOnly, ClassOnly, ClassMatch, ClassExclude, LocationOnly, ExceptionOnly, FieldOnly, Step, InstanceOnly, SourceNameMatch}
use Rattle.jdwp_event.specs.ModifierMeanings.{modifier_meaning}
use Rattle.jdwp_value.specs.declared.id.ReferenceTypeId.{ReferenceTypeId}
use Rattle.jdwp_event.specs.declared.happening.ClassSeen.{ClassSeen}
use Rattle.jdwp_event.specs.declared.happening.Place.{Place}
use Rattle.jdwp_event.specs.Occurrences.{ClassMeaning, PlaceMeaning, HappeningMeaning, class_meaning, place_meaning}
use Rattle.jdwp_event.specs.Requests.{Origin}
use Rattle.jdwp_event.specs.Filters.{passes_modifier, passes_depth, passes_size, once_more}

abbrev pub origin_meaning : StepOrigin → Origin
origin_meaning o = record { frames = o.frames; line = o.line }

abbrev pub modifiers_meaning : Vec Modifier → List ModifierMeaning
modifiers_meaning modifiers = map modifier_meaning modifiers.items

-- A modifier of a request, and how often it was reached where it is a Count.
pub record LimitMeaning : Type 0 where
  pub modifier : ModifierMeaning
  pub reached : ℕ

-- how many reachings a Count is away from its last
abbrev pub left_by : ℤ → ℕ → ℕ
left_by (pos n) reached = n - reached
left_by (negsuc n) reached = 0

abbrev pub left_of : ModifierMeaning → ℕ → ℕ
left_of (Count n) reached = left_by n reached
left_of (Conditional n) reached = 0
left_of (ThreadOnly n) reached = 0
left_of (ClassOnly n) reached = 0
left_of (ClassMatch n) reached = 0
left_of (ClassExclude n) reached = 0
left_of (LocationOnly n) reached = 0
left_of (ExceptionOnly n c u) reached = 0
left_of (FieldOnly n f) reached = 0
left_of (Step t s d) reached = 0
left_of (InstanceOnly n) reached = 0
left_of (SourceNameMatch n) reached = 0

abbrev pub new_limit : ModifierMeaning → LimitMeaning
new_limit m = record { modifier = m; reached = 0 }

abbrev pub limit_passes : Origin → HappeningMeaning → LimitMeaning → Bool
limit_passes origin h l = passes_modifier origin h l.modifier (l.reached + 1)

abbrev pub limit_counted : LimitMeaning → LimitMeaning
limit_counted l = record { modifier = l.modifier; reached = once_more l.modifier l.reached }

abbrev pub asked_modifiers : List LimitMeaning → List ModifierMeaning
asked_modifiers limits = map (λ (l : LimitMeaning). l.modifier) limits

abbrev pub times_reached : List LimitMeaning → List ℕ
times_reached limits = map (λ (l : LimitMeaning). l.reached) limits

-- what a happening leaves of them: each Count that it reaches is counted
abbrev pub limits_after : Origin → HappeningMeaning → List LimitMeaning → List LimitMeaning
limits_after origin h [] = []
limits_after origin h (l ∷ ls) = limit_counted l ∷ (if limit_passes origin h l then limits_after origin h ls else ls)

-- the modifier at a place, counted from 0
abbrev pub nth_modifier : List ModifierMeaning → ℕ → Option ModifierMeaning
nth_modifier [] place = None
nth_modifier (m ∷ ms) zero = Some m
nth_modifier (m ∷ ms) (suc place) = nth_modifier ms place

-- ---- what a happening shows

abbrev pub ids_meaning : List ReferenceTypeId → List ℕ
ids_meaning ids = map (λ (id : ReferenceTypeId). id.0) ids

abbrev pub seen_class : Option (Bor ClassSeen) → Option ClassMeaning
seen_class None = None
seen_class (Some c) = Some (class_meaning c.now)

abbrev pub seen_place : Option (Bor Place) → Option PlaceMeaning
seen_place None = None
seen_place (Some p) = Some (place_meaning p.now)

-- a step of the thread to a place
abbrev pub passes_step_at : Origin → ℤ → ℤ → Option PlaceMeaning → Bool
passes_step_at origin size depth None = false
passes_step_at origin size depth (Some p) = passes_depth depth origin.frames p.frames && passes_size size origin p
