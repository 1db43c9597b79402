-- What events and sets of them say is of their kinds.
use Rattle.std.proofs.Common.{List, [], ◌∷◌, map, IsSome, refl}
use Rattle.jdwp_event.specs.declared.policy.Policy.{Policy}
use Rattle.jdwp_event.specs.declared.policy.Policy.TheVariants as policy
use Rattle.jdwp_event.specs.Constants.{policy_byte, policy_of_byte}
use Rattle.jdwp_event_fields.specs.declared.event.Event.{Event}
use Rattle.jdwp_event_fields.specs.declared.event.Event.TheVariants as event
use Rattle.jdwp_event_fields.specs.Events.{event_says, IsEvent}
use Rattle.jdwp_event_fields.specs.EventSets.{AreEvents}

pub events_have : (e : Event) → IsEvent (event_says e)
events_have (event.VmStart a b) = refl
events_have (event.SingleStep a b c) = refl
events_have (event.Breakpoint a b c) = refl
events_have (event.MethodEntry a b c) = refl
events_have (event.MethodExit a b c) = refl
events_have (event.MethodExitWithReturnValue a b c d) = refl
events_have (event.MonitorContendedEnter a b c d) = refl
events_have (event.MonitorContendedEntered a b c d) = refl
events_have (event.MonitorWait a b c d e) = refl
events_have (event.MonitorWaited a b c d e) = refl
events_have (event.Exception a b c d e) = refl
events_have (event.ThreadStart a b) = refl
events_have (event.ThreadDeath a b) = refl
events_have (event.ClassPrepare a b c d e f) = refl
events_have (event.ClassUnload a b) = refl
events_have (event.FieldAccess a b c d e f g) = refl
events_have (event.FieldModification a b c d e f g h) = refl
events_have (event.VmDeath a) = refl

pub each_has : (es : List Event) → AreEvents (map event_says es)
each_has [] = tt
each_has (e ∷ es) = (events_have e, each_has es)

pub is_policy : (p : Policy) → IsSome (policy_of_byte (policy_byte p))
is_policy policy.None = refl
is_policy policy.EventThread = refl
is_policy policy.All = refl
