-- Items of data, and their places.
use Rattle.std.specs.Prelude.{ℕ, ◌==◌, Bool, true, false, List, [], ◌∷◌, Option, Some, None, slice_get, if◌then◌else◌}
use Rattle.std.specs.Option.{option_map}
use Rattle.jdwp_layout.specs.Meanings.{ScalarMeaning, Valued, DatumMeaning, One, Many, Elements, Raw}
use Rattle.jdwp_plan.specs.declared.plan_line.Path.{Path}
use Rattle.jdwp_plan.specs.declared.plan_line.Path.TheVariants.{Item, Entry, EntryOf}

-- the item that this is, where it is no list
abbrev pub alone : Option DatumMeaning → Option ScalarMeaning
alone (Some (One x)) = Some x
alone datum = None

abbrev pub is_list : DatumMeaning → Bool
is_list (One x) = false
is_list (Many entries) = true
is_list (Elements region) = true
is_list (Raw bytes) = false

abbrev pub first_list : List DatumMeaning → Option DatumMeaning
first_list [] = None
first_list (datum ∷ items) = if is_list datum then Some datum else first_list items

abbrev pub in_entry : ℕ → List ScalarMeaning → Option ScalarMeaning
in_entry place entry = slice_get entry place

abbrev pub in_found : ℕ → Option (List ScalarMeaning) → Option ScalarMeaning
in_found place None = None
in_found place (Some entry) = in_entry place entry

-- the item of this place of an entry; an element of an array region is an entry of one item
abbrev pub in_list : ℕ → ℕ → Option DatumMeaning → Option ScalarMeaning
in_list entry place (Some (Many entries)) = in_found place (slice_get entries entry)
in_list entry place (Some (Elements region)) = if place == 0 then option_map (λ v. Valued v) (slice_get region.elements entry) else None
in_list entry place datum = None

-- the item at a path
abbrev pub item_at : Path → List DatumMeaning → Option ScalarMeaning
item_at (Item item) items = alone (slice_get items item)
item_at (Entry entry place) items = in_list entry place (first_list items)
item_at (EntryOf item entry place) items = in_list entry place (slice_get items item)
