-- What was asked is read by the layout of its row in each profile.
use Rattle.std.proofs.Common.{◌≡◌, ℕ, ◌∙◌, ◌||◌, ◌&&◌, ◌==◌, Bool, true, false, Option, Some, None, Result, Ok, refl, ap, inl, inr, ◌⊎◌}
use Rattle.std.proofs.lemmas.Bool.{cases_Bool, eqb-true, false≢true}
use Rattle.jdwp_wire.specs.declared.error_code.ErrorCode.{ErrorCode}
use Rattle.jdwp_wire.specs.Widths.{Widths}
use Rattle.jdwp_layout.specs.CommandNumbers.{CommandNumber, is_command, CONTENDED_MONITOR, CREATE_STRING, OWNED_MONITORS, SOURCE_DEBUG_EXTENSION}
use Rattle.jdwp_layout.specs.CommandTable.{row_at}
use Rattle.jdwp_layout.specs.Reads.{data_at}
use Rattle.jdwp_layout.specs.Rows.{Row, RowShapes}
use Rattle.jdwp_layout.specs.Writes.{data_canonical}
use Rattle.jdwp_layout.proofs.GrammarLaws.{data_again}
use Rattle.jdwp_machine.specs.declared.profile.Profile.{Profile}
use Rattle.jdwp_machine.specs.declared.profile.Profile.TheVariants.{Standard, Jdi}
use Rattle.jdwp_machine.specs.Profiles.{adds, adds_raw}
use Rattle.jdwp_action.specs.Actions.{Carried, Content, Raw, Command, is_implemented, is_some_shapes}
use Rattle.jdwp_action.specs.CommandPackets.{carried_bytes}
use Rattle.jdwp_action.specs.CommandReads.{content_read}
use Rattle.jdwp_action.specs.RowLayouts.{row_request, shapes_request}
use Rattle.jdwp_debugger.specs.Asking.{EncodesCommand, EncodesRow, EncodesShapes, ReadsAsAsked, read_where}
use Rattle.jdwp_debuggee.specs.Answering.{is_answered, read_as}
use Rattle.jdwp_debuggee.proofs.Read.{raw_cases}

-- ---- rows that a profile adds have layouts

abbrev has_shapes : Option Row → Bool
has_shapes None = false
has_shapes (Some row) = is_some_shapes row.shapes

both : (a b : Bool) → (a && b) ≡ true → (a ≡ true) × (b ≡ true)
both true true h = (refl, refl)
both true false h = absurd (false≢true h)
both false b h = absurd (false≢true h)

either : (a b : Bool) → (a || b) ≡ true → (a ≡ true) ⊎ (b ≡ true)
either true b h = inl refl
either false b h = inr h

at_row : (k : CommandNumber) (set number : ℕ) → has_shapes (row_at k.set k.number) ≡ true → is_command k set number ≡ true → has_shapes (row_at set number) ≡ true
at_row k set number shapes h =
    let is = both (set == k.set) (number == k.number) h in
    rw (eqb-true set k.set is.0, eqb-true number k.number is.1) shapes

added_row : (p : Profile) (set number : ℕ) → adds p set number ≡ true → has_shapes (row_at set number) ≡ true
added_row Standard set number h = absurd (false≢true h)
added_row Jdi set number h = elim (either (is_command CREATE_STRING set number || is_command SOURCE_DEBUG_EXTENSION set number) _ h) [
  | inl first ↦ elim (either (is_command CREATE_STRING set number) _ first) [
    | inl k ↦ at_row CREATE_STRING set number refl k
    | inr k ↦ at_row SOURCE_DEBUG_EXTENSION set number refl k
  ]
  | inr other ↦ elim (either (is_command OWNED_MONITORS set number) _ other) [
    | inl k ↦ at_row OWNED_MONITORS set number refl k
    | inr k ↦ at_row CONTENDED_MONITOR set number refl k
  ]
]

-- ---- what is encoded by a layout is read by it

abbrev this : ℕ → ℕ → Carried → Command
this set number carried = record { set = set; number = number; carried = carried }

by_shapes : (w : Widths) (set number : ℕ) (shapes : Option RowShapes) (carried : Carried) → is_some_shapes shapes ≡ true → EncodesShapes w shapes carried
    → content_read set number (data_at w (shapes_request shapes) (carried_bytes w carried)) ≡ Ok (this set number carried)
by_shapes w set number None carried some h = absurd (false≢true some)
by_shapes w set number (Some shapes) (Content content) some h = rw (data_again w shapes.request (data_canonical w content) content h) refl
by_shapes w set number (Some shapes) (Raw bytes) some h = absurd h

by_row : (w : Widths) (set number : ℕ) (row : Option Row) (carried : Carried) → has_shapes row ≡ true → EncodesRow w row carried
    → content_read set number (data_at w (row_request row) (carried_bytes w carried)) ≡ Ok (this set number carried)
by_row w set number None carried some h = absurd h
by_row w set number (Some row) carried some h = by_shapes w set number row.shapes carried some h

-- what a raw command carries is its bytes
raw_row : (p : Profile) (set number : ℕ) → adds_raw p set number ≡ true → has_shapes (row_at set number) ≡ false
raw_row p set number h = raw_cases p set number (λ (s n : ℕ). has_shapes (row_at s n) ≡ false) refl refl refl refl h

raw_by : (w : Widths) (shapes : Option RowShapes) (carried : Carried) → is_some_shapes shapes ≡ false → EncodesShapes w shapes carried → Raw (carried_bytes w carried) ≡ carried
raw_by w None (Raw bytes) none h = refl
raw_by w None (Content content) none h = absurd h
raw_by w (Some shapes) carried none h = absurd cc

raw_carried : (w : Widths) (row : Option Row) (carried : Carried) → has_shapes row ≡ false → EncodesRow w row carried → Raw (carried_bytes w carried) ≡ carried
raw_carried w None carried none h = absurd h
raw_carried w (Some row) carried none h = raw_by w row.shapes carried none h

abbrev read_ok : Command → Result Command ErrorCode
read_ok c = Ok c

-- ---- in each profile

pub asked_as : (p : Profile) (w : Widths) (c : Command) → EncodesCommand w c → ReadsAsAsked w c → read_as p w c.set c.number (carried_bytes w c.carried) ≡ read_where c (is_answered p c)
asked_as p w c h reads = elim (cases_Bool (is_implemented c)) [
  | inl i ↦ let standard = rw i at reads in rw i standard
  | inr i ↦ elim (cases_Bool (adds p c.set c.number)) [
    | inl a ↦ rw (i, a) (by_row w c.set c.number (row_at c.set c.number) c.carried (added_row p c.set c.number a) h)
    | inr a ↦ elim (cases_Bool (adds_raw p c.set c.number)) [
      | inl r ↦ rw (i, a, r) (ap (λ (x : Carried). read_ok (this c.set c.number x)) (raw_carried w (row_at c.set c.number) c.carried (raw_row p c.set c.number r) h))
      | inr r ↦ rw (i, a, r) refl
    ]
  ]
]
