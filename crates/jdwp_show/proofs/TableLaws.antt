-- What the tables of commands have in common.
use Rattle.std.proofs.Common.{◌≡◌, ℕ, ◌==◌, ◌&&◌, Bool, true, false, Option, Some, None, is_some, refl, sym, ap, ◌∙◌, inl, inr}
use Rattle.std.specs.Option.{option_or}
use Rattle.std.proofs.lemmas.Bool.{cases_Bool, eqb-true}
use Rattle.jdwp_layout.specs.CommandNumbers.{is_command, CLASS_INVOKE, CLASS_PATHS, INTERFACE_INVOKE, OBJECT_INVOKE}
use Rattle.jdwp_layout.specs.CommandNumbers as numbers
use Rattle.jdwp_layout.specs.CommandTable.{row_at}
use Rattle.jdwp_layout.specs.Rows.{Row, RowShapes}
use Rattle.jdwp_show.specs.declared.command_number.CommandNumber.{CommandNumber}
use Rattle.jdwp_show.specs.declared.table.Table.{Table}
use Rattle.jdwp_show.specs.declared.table.Table.TheVariants.{Standard, Jdi}
use Rattle.jdwp_show.specs.Data.{shapes_in}
use Rattle.jdwp_show.specs.MessageLines.{name_in}
use Rattle.jdwp_show.specs.Tables.{jdi_row_at, row_under}

both : (a b : Bool) → (a && b) ≡ true → (a ≡ true) × (b ≡ true)
both true b h = (refl, h)
both false b h = absurd cc

place : (k : numbers.CommandNumber) (set number : ℕ) → is_command k set number ≡ true → (set ≡ k.set) × (number ≡ k.number)
place k set number h = let is = both (set == k.set) (number == k.number) h in (eqb-true set k.set is.0, eqb-true number k.number is.1)

-- a row that is raw in the standard's table has no layouts there
raw : (k : numbers.CommandNumber) (set number : ℕ) (shapes : RowShapes) (P : Type 0) → shapes_in (row_at k.set k.number) ≡ None → is_command k set number ≡ true → shapes_in (row_at set number) ≡ Some shapes → P
raw k set number shapes P none h e =
    let is = place k set number h in
    let some : shapes_in (row_at k.set k.number) ≡ Some shapes = rw (is.0, is.1) at e in
    let apart : None ≡ Some shapes = rw none at some in
    absurd cc

-- a row whose data the standard's table reads has no other in the table `jdi`
own_none : (set number : ℕ) (shapes : RowShapes) → shapes_in (row_at set number) ≡ Some shapes → jdi_row_at set number ≡ None
own_none set number shapes e = elim (cases_Bool (is_command CLASS_PATHS set number)) [
  | inl h ↦ raw CLASS_PATHS set number shapes _ refl h e
  | inr a ↦ elim (cases_Bool (is_command CLASS_INVOKE set number)) [
    | inl h ↦ raw CLASS_INVOKE set number shapes _ refl h e
    | inr b ↦ elim (cases_Bool (is_command INTERFACE_INVOKE set number)) [
      | inl h ↦ raw INTERFACE_INVOKE set number shapes _ refl h e
      | inr c ↦ elim (cases_Bool (is_command OBJECT_INVOKE set number)) [
        | inl h ↦ raw OBJECT_INVOKE set number shapes _ refl h e
        | inr d ↦ rw (a, b, c, d) refl
      ]
    ]
  ]
]

jdi_same : (set number : ℕ) (shapes : RowShapes) → shapes_in (row_at set number) ≡ Some shapes → row_under Jdi set number ≡ row_at set number
jdi_same set number shapes e = ap (λ (own : Option Row). option_or own (row_at set number)) (own_none set number shapes e)

same_by : (set number : ℕ) (shapes : Option RowShapes) → is_some shapes ≡ true → shapes_in (row_at set number) ≡ shapes → row_under Jdi set number ≡ row_at set number
same_by set number None some e = absurd cc
same_by set number (Some shapes) some e = jdi_same set number shapes e

-- the same for a row that was found
pub jdi_stays : (set number : ℕ) (found : Option Row) → found ≡ row_at set number → is_some (shapes_in found) ≡ true → found ≡ row_under Jdi set number
jdi_stays set number found is some =
    is ∙ sym (same_by set number (shapes_in (row_at set number)) (ap (λ (r : Option Row). is_some (shapes_in r)) (sym is) ∙ some) refl)

pub layouts_alike : (table : Table) (set number : ℕ) (shapes : RowShapes) → shapes_in (row_at set number) ≡ Some shapes → shapes_in (row_under table set number) ≡ Some shapes
layouts_alike Standard set number shapes e = e
layouts_alike Jdi set number shapes e = ap (λ (r : Option Row). shapes_in r) (jdi_same set number shapes e) ∙ e

jdi_named : (set number : ℕ) (command : CommandNumber) → name_in (row_under Jdi set number) command ≡ name_in (row_at set number) command
jdi_named set number command = elim (cases_Bool (is_command CLASS_PATHS set number)) [
  | inl h ↦ let is = place CLASS_PATHS set number h in rw (is.0, is.1) refl
  | inr a ↦ elim (cases_Bool (is_command CLASS_INVOKE set number)) [
    | inl h ↦ let is = place CLASS_INVOKE set number h in rw (is.0, is.1) refl
    | inr b ↦ elim (cases_Bool (is_command INTERFACE_INVOKE set number)) [
      | inl h ↦ let is = place INTERFACE_INVOKE set number h in rw (is.0, is.1) refl
      | inr c ↦ elim (cases_Bool (is_command OBJECT_INVOKE set number)) [
        | inl h ↦ let is = place OBJECT_INVOKE set number h in rw (is.0, is.1) refl
        | inr d ↦ rw (a, b, c, d) refl
      ]
    ]
  ]
]

pub named_alike : (table : Table) (set number : ℕ) (command : CommandNumber) → name_in (row_under table set number) command ≡ name_in (row_at set number) command
named_alike Standard set number command = refl
named_alike Jdi set number command = jdi_named set number command
