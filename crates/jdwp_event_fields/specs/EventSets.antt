-- What a composite says by the fields of its events (JDWP specification, "Protocol Details": the command Composite of the set Event; "SuspendPolicy Constants").
use Rattle.std.specs.Prelude.{List, map, IsSome}
use Rattle.std.specs.List.{AllByRecursion}
use Rattle.jdwp_layout.specs.Meanings.{ScalarMeaning}
use Rattle.jdwp_event.specs.CompositeBytes.{with_policy}
use Rattle.jdwp_event.specs.Composites.{CompositeMeaning}
use Rattle.jdwp_event.specs.Constants.{policy_byte, policy_of_byte}
use Rattle.jdwp_event_fields.specs.declared.event_set.EventSet.{EventSet}
use Rattle.jdwp_event_fields.specs.Events.{event_says, IsEvent}

abbrev pub set_says : EventSet → CompositeMeaning
set_says s = with_policy (policy_byte s.policy) (map event_says s.events.items)

abbrev pub AreEvents : List (List ScalarMeaning) → Type 0
AreEvents events = AllByRecursion IsEvent events

-- the byte is a suspend policy's, and each event has the fields of its kind
abbrev pub IsEventSet : CompositeMeaning → Type 0
IsEventSet c = IsSome (policy_of_byte c.policy) × AreEvents c.events
