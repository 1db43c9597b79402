-- When data are in a layout, however wide ids are (JDWP specification, "Protocol Details"), and when a struct says what data say.
use Rattle.std.specs.Prelude.{◌≡◌, ℕ, Bool, List, [], ◌∷◌, map, Option, Some, None}
use Rattle.std.specs.List.{AllByRecursion}
use Rattle.jdwp_layout.specs.declared.item.Field.{Field}
use Rattle.jdwp_layout.specs.declared.item.Field.TheVariants as field
use Rattle.jdwp_layout.specs.Grammar.{kind_of}
use Rattle.jdwp_layout.specs.Meanings.{ScalarMeaning, Boolean, Byte, DatumMeaning, One, Many, Elements}
use Rattle.jdwp_layout.specs.ModifiersAndEvents.{modifier_fields, event_fields}
use Rattle.jdwp_layout.specs.Shapes.{EntryShape, Fields, Modifiers, Events, ItemShape, OneOf, ListOf, RegionOf}

-- the kinds of the values are the fields
abbrev pub HasFields : List Field → List ScalarMeaning → Type 0
HasFields fields xs = map kind_of xs ≡ fields

-- a kind byte, and the fields of that kind
abbrev pub HasKind : (ℕ → Option (List Field)) → List ScalarMeaning → Type 0
HasKind fields_of (Byte kind ∷ xs) = fields_of kind ≡ Some (map kind_of xs)
HasKind fields_of xs = ⊥

abbrev pub HasEntry : EntryShape → List ScalarMeaning → Type 0
HasEntry (Fields fields) xs = HasFields fields xs
HasEntry Modifiers xs = HasKind modifier_fields xs
HasEntry Events xs = HasKind event_fields xs

abbrev pub HasItem : ItemShape → DatumMeaning → Type 0
HasItem (OneOf field) (One x) = kind_of x ≡ field
HasItem (ListOf entry) (Many entries) = AllByRecursion (HasEntry entry) entries
HasItem RegionOf (Elements region) = Unit {0}
HasItem item x = ⊥

abbrev pub HasItems : List ItemShape → List DatumMeaning → Type 0
HasItems [] [] = Unit {0}
HasItems (item ∷ items) (x ∷ xs) = HasItem item x × HasItems items xs
HasItems items xs = ⊥

-- What was made of data says just what they say, and nothing was made of them only where they are not in the layout.
abbrev pub Converted : {X M : Type 0} → (X → M) → (M → Type 0) → M → Option X → Type 0
Converted says fits m (Some x) = says x ≡ m
Converted says fits m None = fits m → ⊥

-- ---- data without a list: one value an item

abbrev pub one_each : List Field → List ItemShape
one_each fields = map (λ f. OneOf f) fields

abbrev pub ones : List ScalarMeaning → List DatumMeaning
ones xs = map (λ x. One x) xs

-- values that are booleans
abbrev pub booleans : List Bool → List ScalarMeaning
booleans truths = map (λ b. Boolean b) truths

-- an item of one value
abbrev pub IsOne : DatumMeaning → Type 0
IsOne (One x) = Unit {0}
IsOne item = ⊥

abbrev pub AreOnes : List DatumMeaning → Type 0
AreOnes xs = AllByRecursion IsOne xs

-- ---- data item by item

-- an item that is a list
abbrev pub IsList : DatumMeaning → Type 0
IsList (Many entries) = Unit {0}
IsList item = ⊥

-- no items
abbrev pub AreNone : List DatumMeaning → Type 0
AreNone [] = Unit {0}
AreNone xs = ⊥

-- an item, whatever comes after it
abbrev pub Begins : (DatumMeaning → Type 0) → List DatumMeaning → Type 0
Begins First [] = ⊥
Begins First (x ∷ xs) = First x

-- an item, and others after it
abbrev pub Are : (DatumMeaning → Type 0) → (List DatumMeaning → Type 0) → List DatumMeaning → Type 0
Are First Others [] = ⊥
Are First Others (x ∷ xs) = First x × Others xs

-- ---- data that are one list

abbrev pub one_list : List (List ScalarMeaning) → List DatumMeaning
one_list entries = Many entries ∷ []

abbrev pub IsOneList : List DatumMeaning → Type 0
IsOneList xs = Are IsList AreNone xs

-- ---- data that end with a list

abbrev pub IsRangeAndList : List DatumMeaning → Type 0
IsRangeAndList xs = Are (HasItem (OneOf field.Long)) (Are (HasItem (OneOf field.Long)) (Are IsList AreNone)) xs

abbrev pub IsCountAndList : List DatumMeaning → Type 0
IsCountAndList xs = Are (HasItem (OneOf field.Int)) (Are IsList AreNone) xs

abbrev pub AreTwoLists : List DatumMeaning → Type 0
AreTwoLists xs = Are IsList (Are IsList AreNone) xs

abbrev pub IsRegion : List DatumMeaning → Type 0
IsRegion xs = Are (HasItem RegionOf) AreNone xs
