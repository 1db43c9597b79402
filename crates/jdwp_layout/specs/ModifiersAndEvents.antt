-- Which fields follow the kind byte of a modifier and of an event
-- (JDWP specification, "Protocol Details": the command Set of the set EventRequest, and the command Composite of the set Event).
use Rattle.std.specs.Prelude.{ℕ, ◌==◌, ◌||◌, if◌then◌else◌, List, [], ◌∷◌, Option, Some, None}
use Rattle.jdwp_layout.specs.Shapes.{EntryShape, Fields, Modifiers, Events}
use Rattle.jdwp_layout.specs.declared.item.Field.{Field}
use Rattle.jdwp_layout.specs.declared.item.Field.TheVariants.{Byte, Boolean, Int, Long, String, ObjectId, ReferenceTypeId, FieldId, Location, Value, TaggedId}
use Rattle.jdwp_layout.specs.EventKindNumbers as event
use Rattle.jdwp_layout.specs.ModifierKindNumbers as modifier

abbrev pub modifier_fields : ℕ → Option (List Field)
modifier_fields kind =
    if (kind == modifier.COUNT) || (kind == modifier.CONDITIONAL) then Some (Int ∷ []) else (
    if (kind == modifier.THREAD_ONLY) || (kind == modifier.INSTANCE_ONLY) then Some (ObjectId ∷ []) else (
    if kind == modifier.CLASS_ONLY then Some (ReferenceTypeId ∷ []) else (
    if (kind == modifier.CLASS_MATCH) || ((kind == modifier.CLASS_EXCLUDE) || (kind == modifier.SOURCE_NAME_MATCH)) then Some (String ∷ []) else (
    if kind == modifier.LOCATION_ONLY then Some (Location ∷ []) else (
    -- the exception's class, whether caught ones pass, whether uncaught ones pass
    if kind == modifier.EXCEPTION_ONLY then Some (ReferenceTypeId ∷ Boolean ∷ Boolean ∷ []) else (
    -- the declaring class and the field
    if kind == modifier.FIELD_ONLY then Some (ReferenceTypeId ∷ FieldId ∷ []) else (
    -- the thread, the size and the depth
    if kind == modifier.STEP then Some (ObjectId ∷ Int ∷ Int ∷ []) else (
    None))))))))

-- The first field is the id of the request, 0 where the target reports by itself. The kinds FRAME_POP, USER_DEFINED,
-- CLASS_LOAD and EXCEPTION_CATCH of the specification's table of event kinds are no events of a composite.
abbrev pub event_fields : ℕ → Option (List Field)
event_fields kind =
    if (kind == event.SINGLE_STEP) || ((kind == event.BREAKPOINT) || ((kind == event.METHOD_ENTRY) || (kind == event.METHOD_EXIT))) then Some (Int ∷ ObjectId ∷ Location ∷ []) else (
    -- where it was thrown, the exception, where it is caught
    if kind == event.EXCEPTION then Some (Int ∷ ObjectId ∷ Location ∷ TaggedId ∷ Location ∷ []) else (
    if (kind == event.THREAD_START) || ((kind == event.THREAD_DEATH) || (kind == event.VM_START)) then Some (Int ∷ ObjectId ∷ []) else (
    -- the class's kind and id, its signature and its status
    if kind == event.CLASS_PREPARE then Some (Int ∷ ObjectId ∷ Byte ∷ ReferenceTypeId ∷ String ∷ Int ∷ []) else (
    -- the class's signature
    if kind == event.CLASS_UNLOAD then Some (Int ∷ String ∷ []) else (
    -- the field's class and id, and the object
    if kind == event.FIELD_ACCESS then Some (Int ∷ ObjectId ∷ Location ∷ Byte ∷ ReferenceTypeId ∷ FieldId ∷ TaggedId ∷ []) else (
    -- the same, and the value to be
    if kind == event.FIELD_MODIFICATION then Some (Int ∷ ObjectId ∷ Location ∷ Byte ∷ ReferenceTypeId ∷ FieldId ∷ TaggedId ∷ Value ∷ []) else (
    -- the value that is returned
    if kind == event.METHOD_EXIT_WITH_RETURN_VALUE then Some (Int ∷ ObjectId ∷ Location ∷ Value ∷ []) else (
    if (kind == event.MONITOR_CONTENDED_ENTER) || (kind == event.MONITOR_CONTENDED_ENTERED) then Some (Int ∷ ObjectId ∷ TaggedId ∷ Location ∷ []) else (
    -- how long it waits
    if kind == event.MONITOR_WAIT then Some (Int ∷ ObjectId ∷ TaggedId ∷ Location ∷ Long ∷ []) else (
    -- whether the time ran out
    if kind == event.MONITOR_WAITED then Some (Int ∷ ObjectId ∷ TaggedId ∷ Location ∷ Boolean ∷ []) else (
    if kind == event.VM_DEATH then Some (Int ∷ []) else (
    None))))))))))))

-- those of an entry that has a kind byte
abbrev pub kind_fields : EntryShape → ℕ → Option (List Field)
kind_fields (Fields fields) kind = None
kind_fields Modifiers kind = modifier_fields kind
kind_fields Events kind = event_fields kind
