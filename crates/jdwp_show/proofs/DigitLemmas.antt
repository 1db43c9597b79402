-- Hex digits, pair by pair, where none is skipped.
use Rattle.std.proofs.Common.{◌≡◌, ℕ, ◌+◌, ◌*◌, ◌%◌, ◌<◌, ◌≤◌, true, false, ltb, List, length, take, drop, slice_index, slice_set, Option, Some, None, unwrap_or, is_some, Ok, Err, refl, sym, ap, ◌∙◌, arith, inl, inr, zero, suc, [], get_or}
use Rattle.std.specs.Prelude.{MatchResult}
use Rattle.std.proofs.lemmas.Bool.{cases_lt, lt-ltb}
use Rattle.std.proofs.lemmas.Bool.Decides.{nat_tests}
use Rattle.std.proofs.lemmas.List.{get_or-take, get_or-drop}
use Rattle.std.specs.Simd.{first_chunks}
use Rattle.hex.specs.Hex.{decode_of, decode_pairs, hex_digit_value, pair_value}
use Rattle.hex.specs.declared.error.FromHexError.{FromHexError}
use Rattle.hex.specs.declared.error.FromHexError.TheVariants.{InvalidHexCharacter}
use Rattle.hex.proofs.Pairs.{prepend, decode_step, decode_err, decode_done, decode_start}
use Rattle.hex.proofs.HexLemmas.{decode_of-even}

-- the digits of a pair
pub digit_at : (k : ℕ) (s : List ℕ) (i j : ℕ) → i < k → j < 2 → get_or (get_or (first_chunks 2 k s) i []) j 0 ≡ get_or s (2 * i + j) 0
digit_at zero s i j inside low = absurd (omega arith)
digit_at (suc k) s zero j inside low = get_or-take 2 s j 0 low ∙ ap (λ (n : ℕ). get_or s n 0) (omega arith)
digit_at (suc k) s (suc i) j inside low =
    let here : 2 + (2 * i + j) ≡ 2 * suc i + j = omega arith in
    digit_at k (drop 2 s) i j (omega arith) low ∙ get_or-drop 2 s (2 * i + j) 0 ∙ ap (λ (n : ℕ). get_or s n 0) here

-- what is known of a digit of this value, 255 for what is none
pub record IsValue (digit v : ℕ) : Type 0 where
  pub value : v ≡ unwrap_or (hex_digit_value digit) 255
  pub is_digit : is_some (hex_digit_value digit) ≡ ltb v 16

some_of : (o : Option ℕ) (v : ℕ) → v ≡ unwrap_or o 255 → v < 16 → o ≡ Some v
some_of (Some w) v is lt = ap Some (sym is)
some_of None v is lt = absurd (omega arith)

none_of : (o : Option ℕ) (v : ℕ) → is_some o ≡ ltb v 16 → 16 ≤ v → o ≡ None
none_of (Some w) v some ge =
    let past : ltb v 16 ≡ false = grind (arith, nat_tests) in
    cc
none_of None v some ge = refl

pair_reads : (a b h l i : ℕ) → hex_digit_value a ≡ Some h → hex_digit_value b ≡ Some l → pair_value a b i ≡ Ok (h * 16 + l)
pair_reads a b h l i p q = rw (p, q) refl

first_fails : (a b i : ℕ) → hex_digit_value a ≡ None → pair_value a b i ≡ Err (InvalidHexCharacter a i)
first_fails a b i p = rw p refl

second_fails : (a b h i : ℕ) → hex_digit_value a ≡ Some h → hex_digit_value b ≡ None → pair_value a b i ≡ Err (InvalidHexCharacter b (i + 1))
second_fails a b h i p q = rw (p, q) refl

-- after so many pairs, of which the greatest value is this
pub record Decoding (worst : ℕ) (s out : List ℕ) (i : ℕ) : Type 0 where
  pub so_far : worst < 16 → decode_pairs 0 s ≡ prepend (take i out) (decode_pairs (2 * i) (drop (2 * i) s))
  pub wrong : 16 ≤ worst → (e : FromHexError) × (decode_pairs 0 s ≡ Err e)

pub decoding_none : (s out : List ℕ) → Decoding 0 s out 0
decoding_none s out = record { so_far = λ lt. decode_start s out; wrong = λ ge. absurd (omega arith) }

bad_pair : (s out : List ℕ) (i worst high low new : ℕ) → 2 * i + 1 < length s → (worst < 16 → high < 16 → low < 16 → new < 16) → 16 ≤ new
    → IsValue (slice_index s (2 * i)) high → IsValue (slice_index s (2 * i + 1)) low → Decoding worst s out i → (e : FromHexError) × (decode_pairs 0 s ≡ Err e)
bad_pair s out i worst high low new fits up past p q h =
    let a : ℕ = slice_index s (2 * i) in
    let b : ℕ = slice_index s (2 * i + 1) in
    elim (cases_lt worst 16) [
      | inr ge ↦ h.wrong ge
      | inl lt ↦
          elim (cases_lt high 16) [
            | inr first ↦ (InvalidHexCharacter a (2 * i), decode_err s out i (InvalidHexCharacter a (2 * i)) fits (first_fails a b (2 * i) (none_of (hex_digit_value a) high p.is_digit first)) (h.so_far lt))
            | inl digit ↦
                elim (cases_lt low 16) [
                  | inr second ↦
                      (InvalidHexCharacter b (2 * i + 1), decode_err s out i (InvalidHexCharacter b (2 * i + 1)) fits (second_fails a b high (2 * i) (some_of (hex_digit_value a) high p.value digit) (none_of (hex_digit_value b) low q.is_digit second)) (h.so_far lt))
                  | inl other ↦ (let below : new < 16 = up lt digit other in absurd (omega arith))
                ]
          ]
    ]

-- one pair more
pub decoding_more : (s out : List ℕ) (i worst high low v new : ℕ) → 2 * i + 1 < length s → i < length out → v ≡ high % 16 * 16 + low % 16
    → (new < 16 → (worst < 16) × (high < 16) × (low < 16)) → (worst < 16 → high < 16 → low < 16 → new < 16)
    → IsValue (slice_index s (2 * i)) high → IsValue (slice_index s (2 * i + 1)) low → Decoding worst s out i → Decoding new s (slice_set out i v) (i + 1)
decoding_more s out i worst high low v new fits room is down up p q h =
    let a : ℕ = slice_index s (2 * i) in
    let b : ℕ = slice_index s (2 * i + 1) in
    record {
      so_far = λ lt.
          let before : worst < 16 = (down lt).0 in
          let one : high < 16 = (down lt).1 in
          let two : low < 16 = (down lt).2 in
          let here : high * 16 + low ≡ v = omega arith in
          decode_step s out i v fits room (pair_reads a b high low (2 * i) (some_of (hex_digit_value a) high p.value one) (some_of (hex_digit_value b) low q.value two) ∙ ap (λ (n : ℕ). Ok n) here) (h.so_far before);
      wrong = λ ge. bad_pair s out i worst high low new fits up ge p q h;
    }

-- all pairs
pub decoded : (s out : List ℕ) (i worst : ℕ) → length out ≤ i → length s ≡ 2 * length out → Decoding worst s out i → MatchResult (decode_of s) (λ bytes. (ltb worst 16 ≡ true) × (out ≡ bytes)) (λ e. ltb worst 16 ≡ false)
decoded s out i worst past twice h =
    let even : length s % 2 ≡ 0 = omega arith in
    elim (cases_lt worst 16) [
      | inl lt ↦
          let is : decode_of s ≡ Ok out = decode_of-even s even ∙ decode_done s out i past (omega arith) (h.so_far lt) in
          rw is (lt-ltb worst 16 lt, refl)
      | inr ge ↦
          let bad = h.wrong ge in
          let is : decode_of s ≡ Err bad.0 = decode_of-even s even ∙ bad.1 in
          let over : ltb worst 16 ≡ false = grind (arith, nat_tests) in
          rw is over
    ]
