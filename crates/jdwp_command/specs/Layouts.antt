-- When data are in a layout, however wide ids are (JDWP specification, "Protocol Details").
use Rattle.std.specs.Prelude.{◌≡◌, ℕ, nat_lt, Bool, List, [], ◌∷◌, map, Option, Some, None, if◌then◌else◌}
use Rattle.std.specs.List.{AllByRecursion}
use Rattle.jdwp_layout.specs.declared.item.Field.{Field}
use Rattle.jdwp_layout.specs.CommandNumbers.{EVENT}
use Rattle.jdwp_layout.specs.CommandTable.{row_at}
use Rattle.jdwp_layout.specs.Grammar.{kind_of}
use Rattle.jdwp_layout.specs.Meanings.{ScalarMeaning, Byte, DatumMeaning, One, Many, Elements}
use Rattle.jdwp_layout.specs.ModifiersAndEvents.{modifier_fields, event_fields}
use Rattle.jdwp_layout.specs.Rows.{Row, RowShapes}
use Rattle.jdwp_layout.specs.Shapes.{EntryShape, Fields, Modifiers, Events, ItemShape, OneOf, ListOf, RegionOf}

-- the kinds of the values are the fields
abbrev pub HasFields : List Field → List ScalarMeaning → Type 0
HasFields fields xs = map kind_of xs ≡ fields

-- a kind byte, and the fields of that kind
abbrev pub HasKind : (ℕ → Option (List Field)) → List ScalarMeaning → Type 0
HasKind fields_of (Byte kind ∷ xs) = fields_of kind ≡ Some (map kind_of xs)
HasKind fields_of xs = ⊥

abbrev pub HasEntry : EntryShape → List ScalarMeaning → Type 0
HasEntry (Fields fields) xs = HasFields fields xs
HasEntry Modifiers xs = HasKind modifier_fields xs
HasEntry Events xs = HasKind event_fields xs

abbrev pub HasItem : ItemShape → DatumMeaning → Type 0
HasItem (OneOf field) (One x) = kind_of x ≡ field
HasItem (ListOf entry) (Many entries) = AllByRecursion (HasEntry entry) entries
HasItem RegionOf (Elements region) = Unit {0}
HasItem item x = ⊥

abbrev pub HasItems : List ItemShape → List DatumMeaning → Type 0
HasItems [] [] = Unit {0}
HasItems (item ∷ items) (x ∷ xs) = HasItem item x × HasItems items xs
HasItems items xs = ⊥

-- ---- the layout of a request

-- of a row that a target of this layer carries out
abbrev pub request_where : Option RowShapes → Bool → Option (List ItemShape)
request_where None starred = None
request_where (Some shapes) starred = if starred then None else Some shapes.request

abbrev pub request_in : Option Row → Option (List ItemShape)
request_in None = None
request_in (Some row) = request_where row.shapes row.starred

-- of a command that goes to a target
abbrev pub request_of : ℕ → ℕ → Option (List ItemShape)
request_of set number = if nat_lt set EVENT then request_in (row_at set number) else None

abbrev pub HasRequest : Option (List ItemShape) → List DatumMeaning → Type 0
HasRequest None content = ⊥
HasRequest (Some items) content = HasItems items content

-- the data are in the layout of the request of a command of this set and this number
abbrev pub HasLayout : ℕ → ℕ → List DatumMeaning → Type 0
HasLayout set number content = HasRequest (request_of set number) content
