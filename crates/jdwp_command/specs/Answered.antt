-- What answers say, by the shape of their data (JDWP specification, "Protocol Details": the replies of the commands).
use Rattle.std.specs.Prelude.{ℕ, ℤ, Bool, true, false, List, [], ◌∷◌, Option, Some, None}
use Rattle.jdwp_value.specs.declared.id.FrameId.{FrameId}
use Rattle.jdwp_value.specs.declared.id.ObjectId.{ObjectId}
use Rattle.jdwp_value.specs.declared.id.ReferenceTypeId.{ReferenceTypeId}
use Rattle.jdwp_value.specs.declared.location.Location.{Location}
use Rattle.jdwp_value.specs.declared.value.TaggedId.{TaggedId}
use Rattle.jdwp_value.specs.declared.value.Value.{Value}
use Rattle.jdwp_value.specs.Regions.{Region}
use Rattle.jdwp_layout.specs.declared.answer.Answer.{Answer}
use Rattle.jdwp_layout.specs.declared.answer.Answer.TheVariants as answer
use Rattle.jdwp_layout.specs.Meanings.{ScalarMeaning, Byte, Boolean, Int, Text, Object, ReferenceType, Frame, Located, Valued, Tagged, DatumMeaning, One, Many, Elements}

-- an error has no data
abbrev pub content_of : Answer → Option (List DatumMeaning)
content_of (answer.Data content) = Some content
content_of (answer.Error e) = None

abbrev pub read_in : {X : Type 0} → (List DatumMeaning → Option X) → Option (List DatumMeaning) → Option X
read_in reading None = None
read_in reading (Some content) = reading content

-- what an answer says that is read so
abbrev pub read_of : {X : Type 0} → (List DatumMeaning → Option X) → Answer → Option X
read_of reading a = read_in reading (content_of a)

-- ---- data of one item

abbrev pub only_int : List DatumMeaning → Option ℤ
only_int (One (Int n) ∷ []) = Some n
only_int content = None

-- its bytes of UTF-8
abbrev pub only_text : List DatumMeaning → Option (List ℕ)
only_text (One (Text text) ∷ []) = Some text
only_text content = None

abbrev pub only_boolean : List DatumMeaning → Option Bool
only_boolean (One (Boolean b) ∷ []) = Some b
only_boolean content = None

abbrev pub only_object : List DatumMeaning → Option ObjectId
only_object (One (Object n) ∷ []) = Some (record { 0 = n })
only_object content = None

abbrev pub only_class : List DatumMeaning → Option ReferenceTypeId
only_class (One (ReferenceType n) ∷ []) = Some (record { 0 = n })
only_class content = None

abbrev pub only_tagged : List DatumMeaning → Option TaggedId
only_tagged (One (Tagged t) ∷ []) = Some t
only_tagged content = None

abbrev pub only_region : List DatumMeaning → Option Region
only_region (Elements region ∷ []) = Some region
only_region content = None

abbrev pub only_list : List DatumMeaning → Option (List (List ScalarMeaning))
only_list (Many entries ∷ []) = Some entries
only_list content = None

-- ---- data of two items, and of none

abbrev pub two_ints : List DatumMeaning → Option (ℤ × ℤ)
two_ints (One (Int m) ∷ One (Int n) ∷ []) = Some (m, n)
two_ints content = None

abbrev pub two_texts : List DatumMeaning → Option (List ℕ × List ℕ)
two_texts (One (Text first) ∷ One (Text second) ∷ []) = Some (first, second)
two_texts content = None

-- a type tag's byte and a class
abbrev pub type_and_class : List DatumMeaning → Option (ℕ × ReferenceTypeId)
type_and_class (One (Byte tag) ∷ One (ReferenceType n) ∷ []) = Some (tag, record { 0 = n })
type_and_class content = None

abbrev pub two_lists : List DatumMeaning → Option (List (List ScalarMeaning) × List (List ScalarMeaning))
two_lists (Many first ∷ Many second ∷ []) = Some (first, second)
two_lists content = None

-- whether an answer is data without an item
abbrev pub is_empty_content : Option (List DatumMeaning) → Bool
is_empty_content (Some []) = true
is_empty_content content = false

-- ---- entries of lists

abbrev pub object_in : List ScalarMeaning → Option ObjectId
object_in (Object n ∷ []) = Some (record { 0 = n })
object_in entry = None

abbrev pub class_in : List ScalarMeaning → Option ReferenceTypeId
class_in (ReferenceType n ∷ []) = Some (record { 0 = n })
class_in entry = None

abbrev pub value_in : List ScalarMeaning → Option Value
value_in (Valued v ∷ []) = Some v
value_in entry = None

-- a frame and where it stands
abbrev pub frame_in : List ScalarMeaning → Option (FrameId × Location)
frame_in (Frame n ∷ Located place ∷ []) = Some (record { 0 = n }, place)
frame_in entry = None
