-- What a composite tells whoever reads it (JDWP specification, "Protocol Details": the command Composite of the set Event).
use Rattle.std.specs.Prelude.{ℕ, ◌==◌, Bool, false, List, [], ◌∷◌, Option, Some, None}
use Rattle.std.specs.List.{list_any}
use Rattle.jdwp_value.specs.declared.id.ObjectId.{ObjectId}
use Rattle.jdwp_layout.specs.Meanings.{ScalarMeaning, Byte, Int, Object}
use Rattle.jdwp_event.specs.declared.kind.EventKind.{EventKind}
use Rattle.jdwp_event.specs.declared.kind.EventKind.TheVariants as kind
use Rattle.jdwp_event.specs.EventKinds.{kind_byte}
use Rattle.jdwp_event.specs.Composites.{CompositeMeaning}

-- an id by its number
abbrev pub object_id : ℕ → ObjectId
object_id n = record { 0 = n }

abbrev pub id_found : Option ℕ → Option ObjectId
id_found None = None
id_found (Some n) = Some (object_id n)

-- the thread of an event: the object behind its request's id
abbrev pub event_thread : List ScalarMeaning → Option ℕ
event_thread (Byte kind ∷ Int request ∷ Object t ∷ details) = Some t
event_thread event = None

-- a composite is of the thread that one of its events has
abbrev pub or_thread : Option ℕ → Option ℕ → Option ℕ
or_thread (Some t) other = Some t
or_thread None other = other

abbrev pub events_thread : List (List ScalarMeaning) → Option ℕ
events_thread [] = None
events_thread (event ∷ events) = or_thread (event_thread event) (events_thread events)

abbrev pub composite_thread : CompositeMeaning → Option ℕ
composite_thread c = events_thread c.events

abbrev pub is_event_of : EventKind → List ScalarMeaning → Bool
is_event_of k (Byte byte ∷ fields) = byte == kind_byte k
is_event_of k fields = false

abbrev pub has_event : EventKind → CompositeMeaning → Bool
has_event k c = list_any (is_event_of k) c.events

-- the end of the target's machine
abbrev pub is_vm_death : CompositeMeaning → Bool
is_vm_death c = has_event kind.VmDeath c
