-- The data of commands, by the families of their layouts (JDWP specification, "Protocol Details").
use Rattle.std.specs.Prelude.{ℕ, ℤ, List, [], ◌∷◌, map}
use Rattle.jdwp_value.specs.declared.id.FieldId.{FieldId}
use Rattle.jdwp_value.specs.declared.id.FrameId.{FrameId}
use Rattle.jdwp_value.specs.declared.id.MethodId.{MethodId}
use Rattle.jdwp_value.specs.declared.id.ObjectId.{ObjectId}
use Rattle.jdwp_value.specs.declared.id.ReferenceTypeId.{ReferenceTypeId}
use Rattle.jdwp_value.specs.declared.tag.Tag.{Tag}
use Rattle.jdwp_value.specs.declared.value.Value.{Value}
use Rattle.jdwp_value.specs.Tags.{tag_byte}
use Rattle.jdwp_layout.specs.Meanings.{ScalarMeaning, Byte, Int, Text, Object, ReferenceType, Method, OfField, Frame, Valued, DatumMeaning, One, Many}
use Rattle.jdwp_event.specs.declared.kind.EventKind.{EventKind}
use Rattle.jdwp_event.specs.declared.policy.Policy.{Policy}
use Rattle.jdwp_event.specs.Constants.{policy_byte}
use Rattle.jdwp_event.specs.EventKinds.{kind_byte}
use Rattle.jdwp_event.specs.ModifierBytes.{modifier_entry}
use Rattle.jdwp_event.specs.Modifiers.{ModifierMeaning}

-- ---- what commands are about

-- an object, and so a thread, a thread group, a string, an array or a module
abbrev pub of_object : ObjectId → List DatumMeaning
of_object object = One (Object object.0) ∷ []

-- a class, an interface or an array type
abbrev pub of_class : ReferenceTypeId → List DatumMeaning
of_class class = One (ReferenceType class.0) ∷ []

-- a method of a class
abbrev pub of_method : ReferenceTypeId → MethodId → List DatumMeaning
of_method class method = One (ReferenceType class.0) ∷ One (Method method.0) ∷ []

-- a frame of a thread
abbrev pub of_frame : ObjectId → FrameId → List DatumMeaning
of_frame thread frame = One (Object thread.0) ∷ One (Frame frame.0) ∷ []

-- some of what an object has, in a row: from which one on, and how many
abbrev pub of_range : ObjectId → ℤ → ℤ → List DatumMeaning
of_range object first count = One (Object object.0) ∷ One (Int first) ∷ One (Int count) ∷ []

abbrev pub of_int : ℤ → List DatumMeaning
of_int n = One (Int n) ∷ []

-- the text's bytes of UTF-8
abbrev pub of_text : List ℕ → List DatumMeaning
of_text text = One (Text text) ∷ []

-- ---- lists

-- a field whose value is asked
abbrev pub field_entry : FieldId → List ScalarMeaning
field_entry field = OfField field.0 ∷ []

-- a slot whose value is asked, with the tag that the value is to have
abbrev pub slot_entry : ℤ × Tag → List ScalarMeaning
slot_entry slot = Int slot.0 ∷ Byte (tag_byte slot.1) ∷ []

-- a slot and the value that it gets
abbrev pub written_entry : ℤ × Value → List ScalarMeaning
written_entry slot = Int slot.0 ∷ Valued slot.1 ∷ []

-- an object, and how many times it was told of and is given up
abbrev pub disposed_entry : ObjectId × ℤ → List ScalarMeaning
disposed_entry given = Object given.0.0 ∷ Int given.1 ∷ []

-- fields of a class
abbrev pub of_static_fields : ReferenceTypeId → List FieldId → List DatumMeaning
of_static_fields class fields = One (ReferenceType class.0) ∷ Many (map field_entry fields) ∷ []

-- fields of an object
abbrev pub of_fields : ObjectId → List FieldId → List DatumMeaning
of_fields object fields = One (Object object.0) ∷ Many (map field_entry fields) ∷ []

-- slots of a frame, which are read or written
abbrev pub of_slots : ObjectId → FrameId → List (ℤ × Tag) → List DatumMeaning
of_slots thread frame slots = One (Object thread.0) ∷ One (Frame frame.0) ∷ Many (map slot_entry slots) ∷ []

abbrev pub of_written : ObjectId → FrameId → List (ℤ × Value) → List DatumMeaning
of_written thread frame values = One (Object thread.0) ∷ One (Frame frame.0) ∷ Many (map written_entry values) ∷ []

abbrev pub of_disposed : List (ObjectId × ℤ) → List DatumMeaning
of_disposed objects = Many (map disposed_entry objects) ∷ []

-- ---- event requests

-- what is asked for: a kind, a policy, and the modifiers in the order in which they are tried
abbrev pub of_request : EventKind → Policy → List ModifierMeaning → List DatumMeaning
of_request kind policy modifiers = One (Byte (kind_byte kind)) ∷ One (Byte (policy_byte policy)) ∷ Many (map modifier_entry modifiers) ∷ []

-- a request, by its kind and its id
abbrev pub of_request_id : EventKind → ℤ → List DatumMeaning
of_request_id kind id = One (Byte (kind_byte kind)) ∷ One (Int id) ∷ []
