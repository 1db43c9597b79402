-- Data in the layout of a command are refused only where one of their values can't be written.
use Rattle.std.proofs.Common.{◌≡◌, ℕ, nat_lt, ◌==◌, Bool, true, false, ◌&&◌, not, List, [], ◌∷◌, map, length, Option, Some, None, is_none, if◌then◌else◌, refl, ◌∙◌, subst, arith}
use Rattle.std.specs.List.{AllByRecursion, list_all}
use Rattle.std.specs.Cmp.Derive.{both_true}
use Rattle.std.proofs.lemmas.Bool.{ltb-true, ne_eqb}
use Rattle.jdwp_wire.specs.declared.data_fault.DataFault.{DataFault}
use Rattle.jdwp_wire.specs.declared.data_fault.DataFault.TheVariants.{BadSize}
use Rattle.jdwp_wire.specs.Listed.{first_refusal}
use Rattle.jdwp_wire.specs.Numbers.{fits_int}
use Rattle.jdwp_wire.specs.Reading.{first_of_two}
use Rattle.jdwp_wire.specs.Widths.{Widths}
use Rattle.jdwp_layout.specs.declared.item.Field.{Field}
use Rattle.jdwp_layout.specs.CommandNumbers.{EVENT}
use Rattle.jdwp_layout.specs.CommandTable.{row_at}
use Rattle.jdwp_layout.specs.Grammar.{kind_of}
use Rattle.jdwp_layout.specs.Meanings.{ScalarMeaning, Byte, DatumMeaning, One, Many, Elements}
use Rattle.jdwp_layout.specs.ModifiersAndEvents.{modifier_fields, event_fields}
use Rattle.jdwp_layout.specs.Rows.{Row, RowShapes}
use Rattle.jdwp_layout.specs.Shapes.{EntryShape, Fields, Modifiers, Events, ItemShape, OneOf, ListOf, RegionOf}
use Rattle.jdwp_layout.specs.Writes.{data_refusal, entry_refusal, field_refusal, fields_refusal, item_refusal, kind_refusal}
use Rattle.jdwp_action.specs.Actions.{Command, Content, carries_out, is_some_shapes}
use Rattle.jdwp_action.specs.CommandPackets.{fits_row, fits_shapes}
use Rattle.jdwp_command.specs.Asks.{Asks, command_with, is_entry_writable, is_item_writable, is_scalar_writable, is_writable}
use Rattle.jdwp_command.specs.Layouts.{HasEntry, HasItem, HasItems, HasKind, HasLayout, HasRequest, request_in, request_where}

-- ---- values

neither : (first second : Option DataFault) → is_none (first_of_two first second) ≡ (is_none first && is_none second)
neither None second = refl
neither (Some fault) second = refl

both : (a b c d : Bool) → a ≡ b → c ≡ d → (a && c) ≡ (b && d)
both a b c d first second = rw (first, second) refl

-- each value in a field of its kind
fields_fit : (w : Widths) (xs : List ScalarMeaning) → is_none (fields_refusal w (map kind_of xs) xs) ≡ is_entry_writable w xs
fields_fit w [] = refl
fields_fit w (x ∷ xs) =
    neither (field_refusal w (kind_of x) x) (fields_refusal w (map kind_of xs) xs)
    ∙ both (is_scalar_writable w x) (is_scalar_writable w x) (is_none (fields_refusal w (map kind_of xs) xs)) (is_entry_writable w xs) refl (fields_fit w xs)

kind_fits : (w : Widths) (fields_of : ℕ → Option (List Field)) (xs : List ScalarMeaning) → HasKind fields_of xs → is_none (kind_refusal w fields_of xs) ≡ is_entry_writable w xs
kind_fits w fields_of (Byte kind ∷ xs) has = rw has (fields_fit w xs)
kind_fits w fields_of xs has = absurd has

entry_fits : (w : Widths) (entry : EntryShape) (xs : List ScalarMeaning) → HasEntry entry xs → is_none (entry_refusal w entry xs) ≡ is_entry_writable w xs
entry_fits w (Fields fields) xs has = subst (λ (ks : List Field). is_none (fields_refusal w ks xs) ≡ is_entry_writable w xs) has (fields_fit w xs)
entry_fits w Modifiers xs has = kind_fits w modifier_fields xs has
entry_fits w Events xs has = kind_fits w event_fields xs has

-- ---- items

entries_fit : (w : Widths) (entry : EntryShape) (entries : List (List ScalarMeaning)) → AllByRecursion (HasEntry entry) entries
    → is_none (first_refusal (entry_refusal w entry) entries) ≡ list_all (is_entry_writable w) entries
entries_fit w entry [] has = refl
entries_fit w entry (xs ∷ others) has =
    neither (entry_refusal w entry xs) (first_refusal (entry_refusal w entry) others)
    ∙ both (is_none (entry_refusal w entry xs)) (is_entry_writable w xs) (is_none (first_refusal (entry_refusal w entry) others)) (list_all (is_entry_writable w) others)
    (entry_fits w entry xs has.0) (entries_fit w entry others has.1)

list_fits : (w : Widths) (entry : EntryShape) (counted : Bool) (entries : List (List ScalarMeaning)) → AllByRecursion (HasEntry entry) entries
    → is_none (if counted then first_refusal (entry_refusal w entry) entries else Some BadSize) ≡ (counted && list_all (is_entry_writable w) entries)
list_fits w entry true entries has = entries_fit w entry entries has
list_fits w entry false entries has = refl

item_fits : (w : Widths) (item : ItemShape) (x : DatumMeaning) → HasItem item x → is_none (item_refusal w item x) ≡ is_item_writable w x
item_fits w (OneOf field) (One x) has = subst (λ (k : Field). is_none (field_refusal w k x) ≡ is_scalar_writable w x) has refl
item_fits w (ListOf entry) (Many entries) has = list_fits w entry (fits_int (length entries)) entries has
item_fits w RegionOf (Elements region) has = refl
item_fits w item x has = absurd has

items_fit : (w : Widths) (items : List ItemShape) (xs : List DatumMeaning) → HasItems items xs → is_none (data_refusal w items xs) ≡ is_writable w xs
items_fit w [] [] has = refl
items_fit w (item ∷ items) (x ∷ xs) has =
    neither (item_refusal w item x) (data_refusal w items xs)
    ∙ both (is_none (item_refusal w item x)) (is_item_writable w x) (is_none (data_refusal w items xs)) (is_writable w xs) (item_fits w item x has.0) (items_fit w items xs has.1)
items_fit w items xs has = absurd has

-- ---- commands

shapes_fit : (w : Widths) (shapes : Option RowShapes) (starred : Bool) (content : List DatumMeaning) → HasRequest (request_where shapes starred) content
    → fits_shapes w shapes (Content content) ≡ is_writable w content
shapes_fit w None starred content has = absurd has
shapes_fit w (Some shapes) true content has = absurd has
shapes_fit w (Some shapes) false content has = items_fit w shapes.request content has

row_fits : (w : Widths) (row : Option Row) (content : List DatumMeaning) → HasRequest (request_in row) content → fits_row w row (Content content) ≡ is_writable w content
row_fits w None content has = absurd has
row_fits w (Some row) content has = shapes_fit w row.shapes row.starred content has

set_fits : (w : Widths) (goes : Bool) (row : Option Row) (content : List DatumMeaning) → HasRequest (if goes then request_in row else None) content
    → (goes && fits_row w row (Content content)) ≡ is_writable w content
set_fits w true row content has = row_fits w row content has
set_fits w false row content has = absurd has

shapes_carried : (shapes : Option RowShapes) (starred : Bool) (content : List DatumMeaning) → HasRequest (request_where shapes starred) content → (not starred && is_some_shapes shapes) ≡ true
shapes_carried None starred content has = absurd has
shapes_carried (Some shapes) true content has = absurd has
shapes_carried (Some shapes) false content has = refl

row_carried : (row : Option Row) (content : List DatumMeaning) → HasRequest (request_in row) content → carries_out row ≡ true
row_carried None content has = absurd has
row_carried (Some row) content has = shapes_carried row.shapes row.starred content has

set_carried : (goes : Bool) (row : Option Row) (content : List DatumMeaning) → HasRequest (if goes then request_in row else None) content → (goes ≡ true) × (carries_out row ≡ true)
set_carried true row content has = (refl, row_carried row content has)
set_carried false row content has = absurd has

-- a command that goes to a target is no event
no_event : (set : ℕ) → nat_lt set EVENT ≡ true → not (set == EVENT) ≡ true
no_event set goes =
    let below = ltb-true set EVENT goes in
    let other : (set == EVENT) ≡ false = ne_eqb set EVENT (λ is. omega arith) in
    rw other refl

pub asks : (set number : ℕ) (content : List DatumMeaning) (command : Command) → HasLayout set number content → command ≡ command_with (record { set = set; number = number }) content
    → Asks (record { set = set; number = number }) content command
asks set number content command has is =
    let carried = set_carried (nat_lt set EVENT) (row_at set number) content has in
    record {
      is = is;
      fits = λ w. rw is (set_fits w (nat_lt set EVENT) (row_at set number) content has);
      implemented = rw is (both_true carried.1 (no_event set carried.0));
    }
