-- The widths that a reply to VirtualMachine.IDSizes tells, by the layout of its data.
use Rattle.std.proofs.Common.{◌≡◌, ℕ, zero, suc, ◌+◌, ◌-◌, ◌*◌, ◌^◌, ◌<◌, ◌≤◌, Bool, true, false, ◌&&◌, cond, eqb, ltb, leb, List, [], ◌∷◌, length, drop, Some, Result, Ok, Err, refl, sym, subst, arith, ◌∙◌}
use Rattle.std.specs.Int.{w32, cast_signed}
use Rattle.std.proofs.lemmas.Bool.{ltb-true, ltb-false, lt-ltb, le-ltb, lt-leb, ne_eqb, and_right}
use Rattle.std.proofs.lemmas.List.{length-drop, drop-drop}
use Rattle.std.proofs.lemmas.Option.{same_Some}
use Rattle.byteorder.specs.Endian.{big_number}
use Rattle.jdwp_wire.specs.declared.data_fault.DataFault.{DataFault}
use Rattle.jdwp_wire.specs.declared.data_fault.DataFault.TheVariants.{Short, Extra, BadSize}
use Rattle.jdwp_wire.specs.Basic.{int_at}
use Rattle.jdwp_wire.specs.Reading.{◌>>=◌}
use Rattle.jdwp_wire.specs.Widths.{Widths}
use Rattle.jdwp_layout.specs.declared.item.Field.TheVariants as field
use Rattle.jdwp_layout.specs.Meanings.{DatumMeaning, One, Int}
use Rattle.jdwp_layout.specs.Reads.{items_at}
use Rattle.jdwp_layout.specs.Rows.{RowShapes}
use Rattle.jdwp_layout.specs.Shapes.{ItemShape, OneOf}
use Rattle.jdwp_layout.specs.CommandNumbers.{ID_SIZES}
use Rattle.jdwp_show.specs.Data.{shapes_of, is_width, widths_in, width_of, widths_of_data, widths_by, NO_IDS}

-- ---- ints one after another

abbrev ints : ℕ → List ItemShape
ints zero = []
ints (suc n) = OneOf field.Int ∷ ints n

abbrev int_in : ℕ → List ℕ → ℕ
int_in place body = big_number 4 (drop place body)

abbrev numbers : ℕ → ℕ → List ℕ → List DatumMeaning
numbers zero place body = []
numbers (suc n) place body = One (Int (cast_signed w32 (int_in place body))) ∷ numbers n (place + 4) body

int_there : (whole : ℕ) (bytes : List ℕ) → 4 ≤ length bytes → int_at whole bytes ≡ Ok (cast_signed w32 (big_number 4 bytes), drop 4 bytes)
int_there whole bytes le = rw (le-ltb (length bytes) 4 le) refl

int_short : (whole : ℕ) (bytes : List ℕ) → length bytes < 4 → int_at whole bytes ≡ Err (Short whole)
int_short whole bytes lt = rw (lt-ltb (length bytes) 4 lt) refl

ints_there : (widths : Widths) (whole n place : ℕ) (body : List ℕ) → place + 4 * n ≤ length body → items_at widths whole (ints n) (drop place body) ≡ Ok (numbers n place body, drop (place + 4 * n) body)
ints_there widths whole zero place body le = (let none : place + 4 * 0 ≡ place = omega arith in rw none refl)
ints_there widths whole (suc n) place body le =
    let at : int_at whole (drop place body) ≡ Ok (cast_signed w32 (int_in place body), drop 4 (drop place body)) = int_there whole (drop place body) (omega (arith, length-drop place body)) in
    let behind : drop 4 (drop place body) ≡ drop (place + 4) body = drop-drop 4 place body in
    let sum : place + 4 * suc n ≡ place + 4 + 4 * n = omega arith in
    rw (at, behind, sum, ints_there widths whole n (place + 4) body (omega arith)) refl

step_short : (widths : Widths) (whole n place : ℕ) (body : List ℕ) (short : Bool) → ltb (length (drop place body)) 4 ≡ short
    → (4 ≤ length (drop place body) → items_at widths whole (ints n) (drop (place + 4) body) ≡ Err (Short whole)) → items_at widths whole (ints (suc n)) (drop place body) ≡ Err (Short whole)
step_short widths whole n place body true e later = rw (int_short whole (drop place body) (ltb-true _ _ e)) refl
step_short widths whole n place body false e later =
    let four : 4 ≤ length (drop place body) = ltb-false _ _ e in
    let behind : drop 4 (drop place body) ≡ drop (place + 4) body = drop-drop 4 place body in
    rw (int_there whole (drop place body) four, behind, later four) refl

ints_short : (widths : Widths) (whole n place : ℕ) (body : List ℕ) → length body < place + 4 * n → place ≤ length body → items_at widths whole (ints n) (drop place body) ≡ Err (Short whole)
ints_short widths whole zero place body lt le = absurd (omega arith)
ints_short widths whole (suc n) place body lt le = step_short widths whole n place body (ltb (length (drop place body)) 4) refl
    (λ four. ints_short widths whole n (place + 4) body (omega arith) (omega (arith, length-drop place body)))

-- ---- the widths

is_width_high : (n : ℕ) → 8 < n → is_width n ≡ false
is_width_high n high = and_right (leb 1 n) (leb n 8) (lt-leb n 8 high)

width_is : (n : ℕ) → width_of (cast_signed w32 n) ≡ cond (is_width n) (Ok n) (Err BadSize)
width_is n = by (ltb n (2 ^ 31)) refl
  where
    by : (low : Bool) → ltb n (2 ^ 31) ≡ low → width_of (cast_signed w32 n) ≡ cond (is_width n) (Ok n) (Err BadSize)
    by true e = rw e refl
    by false e =
        let high : 2 ^ 31 ≤ n = ltb-false _ _ e in
        rw (e, is_width_high n (omega arith)) refl

abbrev are_widths : Widths → Bool
are_widths w = is_width w.field && (is_width w.method && (is_width w.object && (is_width w.reference && is_width w.frame)))

abbrev checked_widths : Widths → Result Widths DataFault
checked_widths widths = cond (are_widths widths) (Ok widths) (Err BadSize)

-- the five ints where they lie
abbrev pub widths_at_places : List ℕ → Result Widths DataFault
widths_at_places body =
    cond (ltb (length body) 20) (Err (Short (length body))) (
    cond (ltb 20 (length body)) (Err (Extra 20)) (
    checked_widths (record { field = int_in 0 body; method = int_in 4 body; object = int_in 8 body; reference = int_in 12 body; frame = int_in 16 body })))

abbrev checked : ℕ → Result ℕ DataFault
checked n = cond (is_width n) (Ok n) (Err BadSize)

five_checked : (a b c d e : ℕ) (is_a is_b is_c is_d is_e : Bool) → is_width a ≡ is_a → is_width b ≡ is_b → is_width c ≡ is_c → is_width d ≡ is_d → is_width e ≡ is_e
    → checked_widths (record { field = a; method = b; object = c; reference = d; frame = e })
    ≡ (checked a >>= λ field. checked b >>= λ method. checked c >>= λ object. checked d >>= λ reference. checked e >>= λ frame.
    Ok (record { field = field; method = method; object = object; reference = reference; frame = frame }))
five_checked a b c d e false is_b is_c is_d is_e p q r s t = rw p refl
five_checked a b c d e true false is_c is_d is_e p q r s t = rw (p, q) refl
five_checked a b c d e true true false is_d is_e p q r s t = rw (p, q, r) refl
five_checked a b c d e true true true false is_e p q r s t = rw (p, q, r, s) refl
five_checked a b c d e true true true true false p q r s t = rw (p, q, r, s, t) refl
five_checked a b c d e true true true true true p q r s t = rw (p, q, r, s, t) refl

told : (body : List ℕ)
    → checked_widths (record { field = int_in 0 body; method = int_in 4 body; object = int_in 8 body; reference = int_in 12 body; frame = int_in 16 body }) ≡ widths_of_data (numbers 5 0 body)
told body =
    rw (width_is (int_in 0 body), width_is (int_in 4 body), width_is (int_in 8 body), width_is (int_in 12 body), width_is (int_in 16 body))
    (five_checked (int_in 0 body) (int_in 4 body) (int_in 8 body) (int_in 12 body) (int_in 16 body) (is_width (int_in 0 body)) (is_width (int_in 4 body)) (is_width (int_in 8 body)) (is_width (int_in 12 body)) (is_width (int_in 16 body)) refl refl refl refl refl)

-- ---- by how many bytes there are

short_same : (widths : Widths) (body : List ℕ) → length body < 20 → widths_at_places body ≡ widths_by widths (ints 5) body
short_same widths body lt = rw (lt-ltb (length body) 20 lt, ints_short widths (length body) 5 0 body lt (omega arith)) refl

extra_same : (widths : Widths) (body : List ℕ) → 20 < length body → widths_at_places body ≡ widths_by widths (ints 5) body
extra_same widths body lt =
    let left : length (drop 20 body) ≡ length body - 20 = length-drop 20 body in
    let some : eqb (length body - 20) 0 ≡ false = ne_eqb _ _ (λ e. omega arith) in
    let used : length body - (length body - 20) ≡ 20 = omega arith in
    rw (le-ltb (length body) 20 (omega arith), lt-ltb 20 (length body) lt, ints_there widths (length body) 5 0 body (omega arith), left, some, used) refl

twenty_same : (widths : Widths) (body : List ℕ) → length body ≡ 20 → widths_at_places body ≡ widths_by widths (ints 5) body
twenty_same widths body is =
    let left : length (drop 20 body) ≡ 0 = omega (arith, length-drop 20 body) in
    rw (le-ltb (length body) 20 (omega arith), le-ltb 20 (length body) (omega arith), ints_there widths (length body) 5 0 body (omega arith), left) (told body)

same : (widths : Widths) (body : List ℕ) → widths_at_places body ≡ widths_by widths (ints 5) body
same widths body = by (ltb (length body) 20) (ltb 20 (length body)) refl refl
  where
    by : (short extra : Bool) → ltb (length body) 20 ≡ short → ltb 20 (length body) ≡ extra → widths_at_places body ≡ widths_by widths (ints 5) body
    by true extra p q = short_same widths body (ltb-true _ _ p)
    by false true p q = extra_same widths body (ltb-true _ _ q)
    by false false p q =
        let low = ltb-false _ _ p in
        let high = ltb-false _ _ q in
        twenty_same widths body (omega arith)

pub at_places : (body : List ℕ) → widths_at_places body ≡ widths_in body
unfolding widths_in
at_places body = same NO_IDS body

pub told_by_layout : (widths : Widths) (shapes : RowShapes) (body : List ℕ) → shapes_of (record { set = ID_SIZES.set; number = ID_SIZES.number }) ≡ Some shapes → widths_in body ≡ widths_by widths shapes.reply body
told_by_layout widths shapes body is = subst (λ (s : RowShapes). widths_in body ≡ widths_by widths s.reply body) (same_Some _ shapes is) (sym (at_places body) ∙ same widths body)
