-- What events say: a kind byte, and the fields of that kind in the order in which they stand
-- (JDWP specification, "Protocol Details": the command Composite of the set Event).
use Rattle.std.specs.Prelude.{◌≡◌, ℤ, List, [], ◌∷◌, map, Option, Some, None}
use Rattle.std.specs.String.{string_bytes}
use Rattle.jdwp_layout.specs.EventKindNumbers as number
use Rattle.jdwp_layout.specs.Grammar.{kind_of}
use Rattle.jdwp_layout.specs.Meanings.{ScalarMeaning, Byte, Boolean, Int, Long, Text, Object, ReferenceType, OfField, Located, Valued, Tagged}
use Rattle.jdwp_layout.specs.ModifiersAndEvents.{event_fields}
use Rattle.jdwp_event_fields.specs.declared.event.Event.{Event}
use Rattle.jdwp_event_fields.specs.declared.event.Event.TheVariants as event

abbrev pub event_says : Event → List ScalarMeaning
event_says (event.VmStart request thread) = Byte number.VM_START ∷ Int request ∷ Object thread.0 ∷ []
event_says (event.SingleStep request thread location) = Byte number.SINGLE_STEP ∷ Int request ∷ Object thread.0 ∷ Located location ∷ []
event_says (event.Breakpoint request thread location) = Byte number.BREAKPOINT ∷ Int request ∷ Object thread.0 ∷ Located location ∷ []
event_says (event.MethodEntry request thread location) = Byte number.METHOD_ENTRY ∷ Int request ∷ Object thread.0 ∷ Located location ∷ []
event_says (event.MethodExit request thread location) = Byte number.METHOD_EXIT ∷ Int request ∷ Object thread.0 ∷ Located location ∷ []
event_says (event.MethodExitWithReturnValue request thread location value) =
    Byte number.METHOD_EXIT_WITH_RETURN_VALUE ∷ Int request ∷ Object thread.0 ∷ Located location ∷ Valued value ∷ []
event_says (event.MonitorContendedEnter request thread object location) =
    Byte number.MONITOR_CONTENDED_ENTER ∷ Int request ∷ Object thread.0 ∷ Tagged object ∷ Located location ∷ []
event_says (event.MonitorContendedEntered request thread object location) =
    Byte number.MONITOR_CONTENDED_ENTERED ∷ Int request ∷ Object thread.0 ∷ Tagged object ∷ Located location ∷ []
event_says (event.MonitorWait request thread object location timeout) =
    Byte number.MONITOR_WAIT ∷ Int request ∷ Object thread.0 ∷ Tagged object ∷ Located location ∷ Long timeout ∷ []
event_says (event.MonitorWaited request thread object location timed_out) =
    Byte number.MONITOR_WAITED ∷ Int request ∷ Object thread.0 ∷ Tagged object ∷ Located location ∷ Boolean timed_out ∷ []
event_says (event.Exception request thread location exception catch_location) =
    Byte number.EXCEPTION ∷ Int request ∷ Object thread.0 ∷ Located location ∷ Tagged exception ∷ Located catch_location ∷ []
event_says (event.ThreadStart request thread) = Byte number.THREAD_START ∷ Int request ∷ Object thread.0 ∷ []
event_says (event.ThreadDeath request thread) = Byte number.THREAD_DEATH ∷ Int request ∷ Object thread.0 ∷ []
event_says (event.ClassPrepare request thread ref_type_tag type_id signature status) =
    Byte number.CLASS_PREPARE ∷ Int request ∷ Object thread.0 ∷ Byte ref_type_tag ∷ ReferenceType type_id.0 ∷ Text (string_bytes signature) ∷ Int status ∷ []
event_says (event.ClassUnload request signature) = Byte number.CLASS_UNLOAD ∷ Int request ∷ Text (string_bytes signature) ∷ []
event_says (event.FieldAccess request thread location ref_type_tag type_id field_id object) =
    Byte number.FIELD_ACCESS ∷ Int request ∷ Object thread.0 ∷ Located location ∷ Byte ref_type_tag ∷ ReferenceType type_id.0 ∷ OfField field_id.0 ∷ Tagged object ∷ []
event_says (event.FieldModification request thread location ref_type_tag type_id field_id object value_to_be) =
    Byte number.FIELD_MODIFICATION ∷ Int request ∷ Object thread.0 ∷ Located location ∷ Byte ref_type_tag ∷ ReferenceType type_id.0 ∷ OfField field_id.0
    ∷ Tagged object ∷ Valued value_to_be ∷ []
event_says (event.VmDeath request) = Byte number.VM_DEATH ∷ Int request ∷ []

-- these are the kind byte of an event and the fields of that kind
abbrev pub IsEvent : List ScalarMeaning → Type 0
IsEvent (Byte kind ∷ fields) = event_fields kind ≡ Some (map kind_of fields)
IsEvent xs = ⊥

-- the id of an event's request
abbrev pub event_request : List ScalarMeaning → Option ℤ
event_request (Byte kind ∷ Int request ∷ fields) = Some request
event_request xs = None

-- a text is among them
abbrev pub HasText : List ScalarMeaning → Type 0
HasText [] = ⊥
HasText (Text bytes ∷ xs) = Unit {0}
HasText (x ∷ xs) = HasText xs

-- What was read says just what stands there, and nothing was read only where what stands there is none.
abbrev pub ReadAs : {X M : Type 0} → (X → M) → (M → Type 0) → M → Option X → Type 0
ReadAs says is m (Some x) = says x ≡ m
ReadAs says is m None = is m → ⊥
