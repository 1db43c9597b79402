-- What has to be kept of data that are read. Where nothing of it stands in front, reading wants no memory.
use Rattle.std.specs.Prelude.{◌≡◌, ℕ, ◌≤◌, ◌<◌, List, ◌∷◌, ◌++◌, Option, Some, ◌⊎◌}
use Rattle.byteorder.specs.Endian.{big_bytes}
use Rattle.jdwp_wire.specs.Widths.{Widths}
use Rattle.jdwp_wire.specs.Reading.{BeginsWith}
use Rattle.jdwp_wire.specs.Numbers.{greatest_int}
use Rattle.jdwp_wire.specs.Text.{TextIsKept}
use Rattle.jdwp_wire.specs.Each.{FirstIsKept}
use Rattle.jdwp_value.specs.Regions.{RegionIsKept}
use Rattle.jdwp_layout.specs.declared.item.Field.{Field}
use Rattle.jdwp_layout.specs.declared.item.Field.TheVariants as field
use Rattle.jdwp_layout.specs.ModifiersAndEvents.{modifier_fields, event_fields}
use Rattle.jdwp_layout.specs.Shapes.{EntryShape, Fields, Modifiers, Events, ItemShape, OneOf, ListOf, RegionOf}
use Rattle.jdwp_layout.specs.Grammar.{EncodesField, EncodesEntry, EncodesItem}

-- of one field, the bytes of a string
abbrev pub FieldIsKept : Field → List ℕ → Type 0
FieldIsKept field.String bytes = TextIsKept bytes
FieldIsKept other bytes = ⊥

-- of an entry, what its first field holds, or the kind of a modifier or an event
abbrev pub FieldsAreKept : Widths → List Field → List ℕ → Type 0
FieldsAreKept w = FirstIsKept FieldIsKept (EncodesField w)

abbrev pub KindIsKept : (ℕ → Option (List Field)) → List ℕ → Type 0
KindIsKept fields_of bytes = (kind : ℕ) × (fields : List Field) × (rest : List ℕ) × (fields_of kind ≡ Some fields) × (bytes ≡ kind ∷ rest)

abbrev pub EntryIsKept : Widths → EntryShape → List ℕ → Type 0
EntryIsKept w (Fields fields) = FieldsAreKept w fields
EntryIsKept w Modifiers = KindIsKept modifier_fields
EntryIsKept w Events = KindIsKept event_fields

-- of a list, what its count says there is and its first entry
abbrev pub EntriesAreKept : Widths → EntryShape → ℕ → List ℕ → Type 0
EntriesAreKept w entry n bytes = (0 < n) × (EntryIsKept w entry bytes ⊎ BeginsWith (EncodesEntry w entry) bytes)

abbrev pub ListIsKept : Widths → EntryShape → List ℕ → Type 0
ListIsKept w entry bytes = (n : ℕ) × (entries : List ℕ) × (n ≤ greatest_int) × (bytes ≡ big_bytes 4 n ++ entries) × EntriesAreKept w entry n entries

abbrev pub ItemIsKept : Widths → ItemShape → List ℕ → Type 0
ItemIsKept w (OneOf field) = FieldIsKept field
ItemIsKept w (ListOf entry) = ListIsKept w entry
ItemIsKept w RegionOf = RegionIsKept w

-- Of data, the first item's: all of it, or what has to be kept before all of it is read. Data of no items want no memory.
abbrev pub DataAreKept : Widths → List ItemShape → List ℕ → Type 0
DataAreKept w = FirstIsKept (ItemIsKept w) (EncodesItem w)
