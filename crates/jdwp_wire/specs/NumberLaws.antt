-- The readers of numbers give exactly what bytes encode.
use Rattle.std.specs.Prelude.{◌≡◌, ℕ, suc, ◌≤◌, ◌<◌, ◌^◌, List, ◌++◌, length, take, drop, Bool, true, false, cond, Result, Ok, Err, None, refl}
use Rattle.std.proofs.Common.{ap, sym, arith, subst, inl, inr, ltb}
use Rattle.std.proofs.lemmas.Bool.{ltb-false, ltb-true, le-ltb, lt-ltb}
use Rattle.std.proofs.lemmas.List.{take-append-drop, drop_at, length-append}
use Rattle.byteorder.specs.Endian.{big_number, big_bytes}
use Rattle.byteorder.specs.Numbers.{big_from-lt, big_number-reads_back, length-bytes_high_first}
use Rattle.jdwp_wire.specs.declared.data_fault.DataFault.{DataFault}
use Rattle.jdwp_wire.specs.declared.data_fault.DataFault.TheVariants.{Short, NegativeCount}
use Rattle.jdwp_wire.specs.BigEndian.{bytes_again}
use Rattle.jdwp_wire.specs.Numbers.{EncodesNumber, NumberFault, number_at, greatest_int, fits_int, EncodesCount, CountFault, count_at, id_refusal}
use Rattle.jdwp_wire.specs.Codes.{Found, Again, Blamed, Judged, Codes, bind_ok, bind_err, guard_ok, must_ok, guard_err, ok_is, err_is}

number_found : (width whole : ℕ) → Found (number_at width whole) (EncodesNumber width)
number_found width whole bytes n rest fits e =
    let g = guard_ok (ltb (length bytes) width) (Short whole) (Ok (big_number width bytes, drop width bytes)) (n, rest) e in
    let long : width ≤ length bytes = ltb-false _ _ g.0 in
    let both = ok_is (big_number width bytes, drop width bytes) (n, rest) g.1 in
    let made : (code : List ℕ) × EncodesNumber width (big_number width bytes) code × (bytes ≡ code ++ drop width bytes) =
    (take width bytes, (big_from-lt 0 width bytes fits, sym (bytes_again width bytes fits long)), sym (take-append-drop width bytes)) in
    subst (λ (p : ℕ × List ℕ). (code : List ℕ) × EncodesNumber width p.0 code × (bytes ≡ code ++ p.1)) both made

number_again : (width whole : ℕ) → Again (number_at width whole) (EncodesNumber width)
number_again width whole code n rest (lt, e) =
    let len : length (big_bytes width n) ≡ width = length-bytes_high_first width n in
    let long : ltb (length (big_bytes width n ++ rest)) width ≡ false = le-ltb _ _ (omega (arith, length-append (big_bytes width n) rest)) in
    rw (e, long, drop_at (big_bytes width n) rest width len, big_number-reads_back width n rest lt) refl

number_blamed : (width whole : ℕ) → Blamed (number_at width whole) (NumberFault width whole)
number_blamed width whole bytes f fits e =
    elim (guard_err (ltb (length bytes) width) (Short whole) (Ok (big_number width bytes, drop width bytes)) f e) [
      | inl (short, is) ↦ (is, ltb-true _ _ short)
      | inr (long, later) ↦ absurd cc
    ]

number_judged : (width whole : ℕ) → Judged (number_at width whole) (NumberFault width whole)
number_judged width whole bytes f (is, short) = rw (lt-ltb _ _ short, is) refl

pub number_codes : (width whole : ℕ) → Codes (number_at width whole) (EncodesNumber width) (NumberFault width whole)
number_codes width whole = record { found = number_found width whole; again = number_again width whole; blamed = number_blamed width whole; judged = number_judged width whole }

-- ---- counts and lengths

pub counts : (n : ℕ) → n ≤ greatest_int → fits_int n ≡ true
counts n le = lt-ltb n (suc greatest_int) (omega arith)

int_fits : (n : ℕ) → fits_int n ≡ true → n ≤ greatest_int
int_fits n e = let lt = ltb-true n (suc greatest_int) e in omega arith

abbrev counted : ℕ × List ℕ → Result (ℕ × List ℕ) DataFault
counted n = cond (fits_int n.0) (Ok n) (Err NegativeCount)

count_found : (whole : ℕ) → Found (count_at whole) EncodesCount
count_found whole bytes n rest fits e =
    let a = bind_ok (number_at 4 whole bytes) counted (n, rest) e in
    let g = must_ok (fits_int a.0.0) NegativeCount (Ok a.0) (n, rest) a.2 in
    let t = number_found 4 whole bytes a.0.0 a.0.1 fits a.1 in
    let made : (code : List ℕ) × EncodesCount a.0.0 code × (bytes ≡ code ++ a.0.1) = (t.0, (int_fits a.0.0 g.0, t.1.1), t.2) in
    subst (λ (p : ℕ × List ℕ). (code : List ℕ) × EncodesCount p.0 code × (bytes ≡ code ++ p.1)) (ok_is a.0 (n, rest) g.1) made

count_again : (whole : ℕ) → Again (count_at whole) EncodesCount
count_again whole code n rest (lt, e) = rw (number_again 4 whole code n rest (omega arith, e), counts n lt) refl

negative : (b : Bool) (x : ℕ × List ℕ) (f : DataFault) → cond b (Ok x) (Err NegativeCount) ≡ Err f → (b ≡ false) × (f ≡ NegativeCount)
negative true x f e = absurd cc
negative false x f e = (refl, sym (err_is (ℕ × List ℕ) NegativeCount f e))

number_is : (whole : ℕ) (bytes : List ℕ) (x : ℕ × List ℕ) → number_at 4 whole bytes ≡ Ok x → (4 ≤ length bytes) × (x.0 ≡ big_number 4 bytes)
number_is whole bytes x e =
    let g = guard_ok (ltb (length bytes) 4) (Short whole) (Ok (big_number 4 bytes, drop 4 bytes)) x e in
    (ltb-false _ _ g.0, ap (λ (p : ℕ × List ℕ). p.0) (sym (ok_is (big_number 4 bytes, drop 4 bytes) x g.1)))

count_blamed : (whole : ℕ) → Blamed (count_at whole) (CountFault whole)
count_blamed whole bytes f fits e = elim (bind_err (number_at 4 whole bytes) counted f e) [
  | inl first ↦ inl (number_blamed 4 whole bytes f fits first)
  | inr (x, ok, later) ↦
      let n = negative (fits_int x.0) x f later in
      let is = number_is whole bytes x ok in
      inr (n.1, is.0, subst (λ (m : ℕ). greatest_int < m) is.1 (let le = ltb-false x.0 (suc greatest_int) n.0 in omega arith))
]

count_judged : (whole : ℕ) → Judged (count_at whole) (CountFault whole)
count_judged whole bytes f (inl (is, short)) = rw (lt-ltb (length bytes) 4 short, is) refl
count_judged whole bytes f (inr (is, long, big)) = rw (le-ltb (length bytes) 4 long, le-ltb (big_number 4 bytes) (suc greatest_int) (omega arith), is) refl

pub count_codes : (whole : ℕ) → Codes (count_at whole) EncodesCount (CountFault whole)
count_codes whole = record { found = count_found whole; again = count_again whole; blamed = count_blamed whole; judged = count_judged whole }

-- ---- ids

pub id_unrefused : (width : ℕ) (code : List ℕ) (n : ℕ) → EncodesNumber width n code → id_refusal width n ≡ None
id_unrefused width code n s = rw (lt-ltb n (256 ^ width) s.0) refl
