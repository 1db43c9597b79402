-- What data say, apart from where they lie in memory.
use Rattle.std.specs.Prelude.{ℕ, ℤ, List, [], ◌∷◌, Bool, Option, Some, None, map}
use Rattle.std.specs.Global.{Vec}
use Rattle.std.specs.String.{string_bytes}
use Rattle.jdwp_value.specs.declared.location.Location.{Location}
use Rattle.jdwp_value.specs.declared.value.TaggedId.{TaggedId}
use Rattle.jdwp_value.specs.declared.value.Value.{Value}
use Rattle.jdwp_value.specs.Regions.{Region}
use Rattle.jdwp_layout.specs.declared.datum.Scalar.{Scalar}
use Rattle.jdwp_layout.specs.declared.datum.Scalar.TheVariants as scalar
use Rattle.jdwp_layout.specs.declared.datum.Datum.{Datum}
use Rattle.jdwp_layout.specs.declared.datum.Datum.TheVariants as datum

-- What a field holds. A text is its bytes of UTF-8, and an id its number.
pub data ScalarMeaning : Type 0 where
  Byte : ℕ → ScalarMeaning
  Boolean : Bool → ScalarMeaning
  Int : ℤ → ScalarMeaning
  Long : ℤ → ScalarMeaning
  Text : List ℕ → ScalarMeaning
  Object : ℕ → ScalarMeaning
  ReferenceType : ℕ → ScalarMeaning
  Method : ℕ → ScalarMeaning
  OfField : ℕ → ScalarMeaning
  Frame : ℕ → ScalarMeaning
  Located : Location → ScalarMeaning
  Valued : Value → ScalarMeaning
  Tagged : TaggedId → ScalarMeaning

-- What an item holds: a field's, a list's entries, of which each holds what its fields do, or a region; or the bytes of data that are not
-- read, which are no item's.
pub data DatumMeaning : Type 0 where
  One : ScalarMeaning → DatumMeaning
  Many : List (List ScalarMeaning) → DatumMeaning
  Elements : Region → DatumMeaning
  Raw : List ℕ → DatumMeaning

abbrev pub scalar_meaning : Scalar → ScalarMeaning
scalar_meaning (scalar.Byte n) = Byte n
scalar_meaning (scalar.Boolean b) = Boolean b
scalar_meaning (scalar.Int z) = Int z
scalar_meaning (scalar.Long z) = Long z
scalar_meaning (scalar.String s) = Text (string_bytes s)
scalar_meaning (scalar.ObjectId n) = Object n.0
scalar_meaning (scalar.ReferenceTypeId n) = ReferenceType n.0
scalar_meaning (scalar.MethodId n) = Method n.0
scalar_meaning (scalar.FieldId n) = OfField n.0
scalar_meaning (scalar.FrameId n) = Frame n.0
scalar_meaning (scalar.Location p) = Located p
scalar_meaning (scalar.Value v) = Valued v
scalar_meaning (scalar.TaggedId t) = Tagged t

abbrev pub scalar_meanings : List Scalar → List ScalarMeaning
scalar_meanings xs = map scalar_meaning xs

abbrev pub entry_meaning : Vec Scalar → List ScalarMeaning
entry_meaning entry = scalar_meanings entry.items

abbrev pub entry_meanings : List (Vec Scalar) → List (List ScalarMeaning)
entry_meanings entries = map entry_meaning entries

abbrev pub datum_meaning : Datum → DatumMeaning
datum_meaning (datum.One x) = One (scalar_meaning x)
datum_meaning (datum.Many entries) = Many (entry_meanings entries.items)
datum_meaning (datum.Region region) = Elements region
datum_meaning (datum.Raw bytes) = Raw bytes.items

abbrev pub meanings : List Datum → List DatumMeaning
meanings xs = map datum_meaning xs

-- the bytes of data that are not read
abbrev pub raw_bytes : List DatumMeaning → Option (List ℕ)
raw_bytes (Raw bytes ∷ []) = Some bytes
raw_bytes xs = None
