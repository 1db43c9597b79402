-- What is read under a layout is what bytes encode, and the fault that is answered is the first.
use Rattle.std.proofs.Common.{◌≡◌, ℕ, ◌-◌, ◌+◌, ◌≤◌, true, false, cond, eqb, List, [], ◌++◌, length, None, Result, Ok, Err, refl, sym, ap, subst, ◌∙◌, arith, inl, inr}
use Rattle.std.specs.Prelude.{◌↔◌, IsOk, IfOk, IfErr}
use Rattle.std.proofs.lemmas.Bool.{eqb-true}
use Rattle.std.proofs.lemmas.Bool.Decides.{eqb_tells}
use Rattle.std.proofs.lemmas.List.{append-nil, nil_from_length, length-append}
use Rattle.std.specs.Global.{Vec}
use Rattle.jdwp_wire.specs.declared.data_fault.DataFault.{DataFault}
use Rattle.jdwp_wire.specs.declared.data_fault.DataFault.TheVariants.{Short, BadTag, NegativeCount, NotUtf8, BadSize, IdTooWide, NoMemory, Extra}
use Rattle.jdwp_wire.specs.Widths.{Widths}
use Rattle.jdwp_wire.specs.Bytes.{IsBytes}
use Rattle.jdwp_wire.specs.Reading.{Encoding, Gives, Fails, Blames}
use Rattle.jdwp_wire.specs.Sequence.{Made}
use Rattle.jdwp_wire.specs.EachLaws.{each_codes}
use Rattle.jdwp_wire.specs.Listed.{EncodesList}
use Rattle.jdwp_wire.specs.ListedLaws.{list_codes, list_unrefused}
use Rattle.jdwp_wire.specs.Codes.{Codes, mapped_codes, codes_as, bind_ok, bind_err, must_ok, ok_is, err_is}
use Rattle.jdwp_value.specs.Regions.{EncodesRegion}
use Rattle.jdwp_value.specs.RegionLaws.{region_codes, region_unrefused}
use Rattle.jdwp_layout.specs.declared.datum.Datum.{Datum}
use Rattle.jdwp_layout.specs.Shapes.{ItemShape, OneOf, ListOf, RegionOf}
use Rattle.jdwp_layout.specs.Meanings.{DatumMeaning, One, Many, Elements, Raw, meanings}
use Rattle.jdwp_layout.specs.Grammar.{EncodesField, EncodesEntry, EncodesItem, ItemFault, EncodesData, ItemsFault, DataFaults}
use Rattle.jdwp_layout.specs.Reads.{item_at, items_at, data_at}
use Rattle.jdwp_layout.specs.Skips.{Judges}
use Rattle.jdwp_layout.specs.Writes.{entry_refusal, item_refusal, data_refusal}
use Rattle.jdwp_layout.specs.EntryLaws.{field_codes, entry_codes, each_unrefused, field_unrefused, entry_unrefused}

-- ---- items

abbrev HeldItem : Widths → ItemShape → Encoding DatumMeaning
HeldItem w (OneOf field) = Made (λ x. One x) (EncodesField w field)
HeldItem w (ListOf entry) = Made (λ xs. Many xs) (EncodesList (EncodesEntry w entry))
HeldItem w RegionOf = Made (λ region. Elements region) (EncodesRegion w)

held_item_codes : (w : Widths) (whole : ℕ) (item : ItemShape) → Codes (item_at w whole item) (HeldItem w item) (ItemFault w whole item)
held_item_codes w whole (OneOf field) = mapped_codes (λ x. One x) (field_codes w whole field)
held_item_codes w whole (ListOf entry) = mapped_codes (λ xs. Many xs) (list_codes (entry_codes w whole entry) whole)
held_item_codes w whole RegionOf = mapped_codes (λ region. Elements region) (region_codes w whole)

item_encoded : (w : Widths) (item : ItemShape) (x : DatumMeaning) (code : List ℕ) → HeldItem w item x code → EncodesItem w item x code
item_encoded w (OneOf field) x code (y, is, s) = rw is s
item_encoded w (ListOf entry) x code (ys, is, s) = rw is s
item_encoded w RegionOf x code (region, is, s) = rw is s

item_held : (w : Widths) (item : ItemShape) (x : DatumMeaning) (code : List ℕ) → EncodesItem w item x code → HeldItem w item x code
item_held w (OneOf field) (One x) code s = (x, refl, s)
item_held w (ListOf entry) (Many xs) code s = (xs, refl, s)
item_held w RegionOf (Elements region) code s = (region, refl, s)
item_held w (OneOf field) (Many xs) code s = absurd s
item_held w (ListOf entry) (One x) code s = absurd s
item_held w RegionOf (One x) code s = absurd s
item_held w RegionOf (Many xs) code s = absurd s
item_held w (OneOf field) (Elements region) code s = absurd s
item_held w (ListOf entry) (Elements region) code s = absurd s
item_held w (OneOf field) (Raw bytes) code s = absurd s
item_held w (ListOf entry) (Raw bytes) code s = absurd s
item_held w RegionOf (Raw bytes) code s = absurd s

pub item_codes : (w : Widths) (whole : ℕ) (item : ItemShape) → Codes (item_at w whole item) (EncodesItem w item) (ItemFault w whole item)
item_codes w whole item = codes_as (EncodesItem w item) (item_encoded w item) (item_held w item) (held_item_codes w whole item)

pub items_codes : (w : Widths) (whole : ℕ) (items : List ItemShape) → Codes (items_at w whole items) (EncodesData w items) (ItemsFault w whole items)
items_codes w whole items = each_codes (item_codes w whole) items

-- ---- all of the bytes

abbrev whole_of : List ℕ → List DatumMeaning × List ℕ → Result (List DatumMeaning) DataFault
whole_of bytes x = cond (eqb (length x.1) 0) (Ok x.0) (Err (Extra (length bytes - length x.1)))

-- where nothing is left, all was read
pub whole_read : (w : Widths) (items : List ItemShape) (bytes : List ℕ) (xs : List DatumMeaning) (rest : List ℕ) → items_at w (length bytes) items bytes ≡ Ok (xs, rest) → eqb (length rest) 0 ≡ true → data_at w items bytes ≡ Ok xs
whole_read w items bytes xs rest e none = rw (e, none) refl

-- what is read is encoded by all of the bytes
pub data_found : (w : Widths) (items : List ItemShape) (bytes : List ℕ) (xs : List DatumMeaning) → IsBytes bytes → data_at w items bytes ≡ Ok xs → EncodesData w items xs bytes
data_found w items bytes xs fits e =
    let a = bind_ok (items_at w (length bytes) items bytes) (whole_of bytes) xs e in
    let g = must_ok (eqb (length a.0.1) 0) (Extra (length bytes - length a.0.1)) (Ok a.0.0) xs a.2 in
    let nil : a.0.1 ≡ [] = nil_from_length a.0.1 (eqb-true _ _ g.0) in
    let t = (items_codes w (length bytes) items).found bytes a.0.0 a.0.1 fits a.1 in
    let whole : bytes ≡ t.0 = t.2 ∙ ap (λ (x : List ℕ). t.0 ++ x) nil ∙ append-nil t.0 in
    subst (λ (ys : List DatumMeaning). EncodesData w items ys bytes) (ok_is a.0.0 xs g.1) (subst (λ (code : List ℕ). EncodesData w items a.0.0 code) (sym whole) t.1)

-- what all of the bytes encode is read
pub data_again : (w : Widths) (items : List ItemShape) (bytes : List ℕ) (xs : List DatumMeaning) → EncodesData w items xs bytes → data_at w items bytes ≡ Ok xs
data_again w items bytes xs s =
    let r : items_at w (length bytes) items bytes ≡ Ok (xs, []) = ap (items_at w (length bytes) items) (sym (append-nil bytes)) ∙ (items_codes w (length bytes) items).again bytes xs [] s in
    rw r refl

-- no more is left than there was
pub rest_within : (w : Widths) (whole : ℕ) (items : List ItemShape) (bytes : List ℕ) (xs : List DatumMeaning) (rest : List ℕ) → IsBytes bytes → items_at w whole items bytes ≡ Ok (xs, rest) → length rest ≤ length bytes
rest_within w whole items bytes xs rest fits e =
    let t = (items_codes w whole items).found bytes xs rest fits e in
    let both : length bytes ≡ length t.0 + length rest = ap (λ (ys : List ℕ). length ys) t.2 ∙ length-append t.0 rest in
    omega (arith, both)

-- bytes encode one list of data at most
pub data_once : (w : Widths) (items : List ItemShape) (xs ys : List DatumMeaning) (code : List ℕ) → EncodesData w items xs code → EncodesData w items ys code → xs ≡ ys
data_once w items xs ys code p q = ok_is xs ys (sym (data_again w items code xs p) ∙ data_again w items code ys q)

-- how many bytes stand before the rest
front_length : (bytes front rest : List ℕ) → bytes ≡ front ++ rest → length bytes - length rest ≡ length front
front_length bytes front rest parts = let both : length bytes ≡ length front + length rest = ap (λ (ys : List ℕ). length ys) parts ∙ length-append front rest in omega (arith, both)

-- the fault that is answered is the first
pub data_blamed : (w : Widths) (items : List ItemShape) (bytes : List ℕ) (f : DataFault) → IsBytes bytes → data_at w items bytes ≡ Err f → DataFaults w items bytes f
data_blamed w items bytes f fits e = elim (bind_err (items_at w (length bytes) items bytes) (whole_of bytes) f e) [
  | inl first ↦ inl ((items_codes w (length bytes) items).blamed bytes f fits first)
  | inr (x, ok, later) ↦
      let t = (items_codes w (length bytes) items).found bytes x.0 x.1 fits ok in
      elim (eqb_tells (length x.1) 0) [
        | inl (none, zero-is) ↦ let h = rw none at later in absurd cc
        | inr (some, more) ↦
            let is : Extra (length bytes - length x.1) ≡ f = err_is (List DatumMeaning) (Extra (length bytes - length x.1)) f (rw some at later) in
            inr (x.0, t.0, x.1, t.1, t.2, omega arith, sym is ∙ ap (λ (n : ℕ). Extra n) (front_length bytes t.0 x.1 t.2))
      ]
]

-- the first fault is answered
pub data_judged : (w : Widths) (items : List ItemShape) (bytes : List ℕ) (f : DataFault) → DataFaults w items bytes f → data_at w items bytes ≡ Err f
data_judged w items bytes f (inl first) = rw ((items_codes w (length bytes) items).judged bytes f first) refl
data_judged w items bytes f (inr (xs, front, rest, s, parts, left, is)) =
    let r : items_at w (length bytes) items bytes ≡ Ok (xs, rest) = ap (items_at w (length bytes) items) parts ∙ (items_codes w (length bytes) items).again front xs rest s in
    let some : eqb (length rest) 0 ≡ false = grind arith in
    rw (r, some, front_length bytes front rest parts, is) refl

-- ---- what a call answers

pub is_found : (w : Widths) (items : List ItemShape) (bytes : List ℕ) (r : Result (Vec Datum) DataFault) → IsBytes bytes → Gives (λ v. meanings v.items) r (data_at w items bytes) → IfOk r (λ v. EncodesData w items (meanings v.items) bytes)
is_found w items bytes (Ok v) fits e = data_found w items bytes (meanings v.items) fits e
is_found w items bytes (Err f) fits e = tt

pub is_blamed_by : (w : Widths) (items : List ItemShape) (bytes : List ℕ) (f : DataFault) → IsBytes bytes → Fails f (data_at w items bytes) → Blames (DataFaults w items) bytes f
is_blamed_by w items bytes (Short n) fits e = data_blamed w items bytes (Short n) fits e
is_blamed_by w items bytes (Extra n) fits e = data_blamed w items bytes (Extra n) fits e
is_blamed_by w items bytes BadTag fits e = data_blamed w items bytes BadTag fits e
is_blamed_by w items bytes NegativeCount fits e = data_blamed w items bytes NegativeCount fits e
is_blamed_by w items bytes NotUtf8 fits e = data_blamed w items bytes NotUtf8 fits e
is_blamed_by w items bytes BadSize fits e = data_blamed w items bytes BadSize fits e
is_blamed_by w items bytes IdTooWide fits e = data_blamed w items bytes IdTooWide fits e
is_blamed_by w items bytes NoMemory fits e = tt

-- what judging answers is what reading would
pub fails_as : {X : Type 0} (f : DataFault) (read : Result X DataFault) → read ≡ Err f → Fails f read
fails_as (Short n) read e = e
fails_as (Extra n) read e = e
fails_as BadTag read e = e
fails_as NegativeCount read e = e
fails_as NotUtf8 read e = e
fails_as BadSize read e = e
fails_as IdTooWide read e = e
fails_as NoMemory read e = tt

pub is_blamed : (w : Widths) (items : List ItemShape) (bytes : List ℕ) (r : Result (Vec Datum) DataFault) → IsBytes bytes → Gives (λ v. meanings v.items) r (data_at w items bytes) → IfErr r (λ f. Blames (DataFaults w items) bytes f)
is_blamed w items bytes (Ok v) fits e = tt
is_blamed w items bytes (Err f) fits e = is_blamed_by w items bytes f fits e

pub is_accepted : {U : Type 0} (w : Widths) (items : List ItemShape) (bytes : List ℕ) (r : Result U DataFault) → IsBytes bytes → Judges r (data_at w items bytes)
    → IsOk r ↔ ((xs : List DatumMeaning) × EncodesData w items xs bytes)
is_accepted w items bytes (Ok u) fits (xs, e) = (λ _. (xs, data_found w items bytes xs fits e), λ _. refl)
is_accepted w items bytes (Err f) fits e = (λ h. absurd cc, λ (xs, s). let both : Err f ≡ Ok xs = sym e ∙ data_again w items bytes xs s in absurd cc)

pub is_first : {U : Type 0} (w : Widths) (items : List ItemShape) (bytes : List ℕ) (r : Result U DataFault) → IsBytes bytes → Judges r (data_at w items bytes) → IfErr r (λ f. DataFaults w items bytes f)
is_first w items bytes (Ok u) fits e = tt
is_first w items bytes (Err f) fits e = data_blamed w items bytes f fits e

-- ---- what bytes encode is not refused

held_unrefused : (w : Widths) (item : ItemShape) (code : List ℕ) (x : DatumMeaning) → HeldItem w item x code → item_refusal w item x ≡ None
held_unrefused w (OneOf field) code x (y, is, s) = rw is (field_unrefused w field code y s)
held_unrefused w (ListOf entry) code x (ys, is, s) = rw is (list_unrefused (EncodesEntry w entry) (entry_refusal w entry) (entry_unrefused w entry) code ys s)
held_unrefused w RegionOf code x (region, is, s) = rw is (region_unrefused w code region s)

pub item_unrefused : (w : Widths) (item : ItemShape) (code : List ℕ) (x : DatumMeaning) → EncodesItem w item x code → item_refusal w item x ≡ None
item_unrefused w item code x s = held_unrefused w item code x (item_held w item x code s)

pub data_unrefused : (w : Widths) (items : List ItemShape) (code : List ℕ) (xs : List DatumMeaning) → EncodesData w items xs code → data_refusal w items xs ≡ None
data_unrefused w items code xs s = each_unrefused (EncodesItem w) (item_refusal w) (item_unrefused w) items xs code s
