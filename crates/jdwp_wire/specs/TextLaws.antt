-- The reader of strings gives exactly what bytes encode.
use Rattle.std.specs.Prelude.{◌≡◌, ℕ, ◌≤◌, List, ◌++◌, length, take, drop, Bool, true, false, cond, None, Ok, Err, refl}
use Rattle.std.specs.Str.{IsUtf8, is_utf8}
use Rattle.std.proofs.Common.{sym, ◌∙◌, arith, subst, ltb, inl, inr}
use Rattle.std.proofs.lemmas.Bool.{ltb-false, ltb-true, le-ltb, lt-ltb, false_from_ne_true}
use Rattle.std.proofs.lemmas.List.{take_at, drop_at, take-append-drop, length-append, length-take}
use Rattle.std.proofs.lemmas.Str.{IsUtf8-from_is_utf8, is_utf8-from_IsUtf8}
use Rattle.byteorder.specs.Endian.{big_bytes}
use Rattle.jdwp_wire.specs.declared.data_fault.DataFault.{DataFault}
use Rattle.jdwp_wire.specs.declared.data_fault.DataFault.TheVariants.{Short, NotUtf8}
use Rattle.jdwp_wire.specs.Reading.{Encoding}
use Rattle.jdwp_wire.specs.NumberLaws.{count_codes, counts}
use Rattle.jdwp_wire.specs.Text.{EncodesText, CharactersFault, TextFault, characters_at, text_at, text_refusal}
use Rattle.jdwp_wire.specs.Codes.{Found, Again, Blamed, Judged, Codes, seq_codes, codes_as, guard_ok, must_ok, guard_err, ok_is, err_is}

-- n bytes of UTF-8
abbrev Characters : ℕ → Encoding (List ℕ)
Characters n s code = IsUtf8 s × (length s ≡ n) × (code ≡ s)

pub not_utf8 : (bs : List ℕ) → (IsUtf8 bs → ⊥) → is_utf8 bs ≡ false
not_utf8 bs bad = false_from_ne_true (is_utf8 bs) (λ e. bad (IsUtf8-from_is_utf8 bs e))

is_not_utf8 : (bs : List ℕ) → is_utf8 bs ≡ false → IsUtf8 bs → ⊥
is_not_utf8 bs off good = let on = is_utf8-from_IsUtf8 bs good in absurd (let both : true ≡ false = sym on ∙ off in cc)

unfit : (b : Bool) (x : List ℕ × List ℕ) (f : DataFault) → cond b (Ok x) (Err NotUtf8) ≡ Err f → (b ≡ false) × (f ≡ NotUtf8)
unfit true x f e = absurd cc
unfit false x f e = (refl, sym (err_is (List ℕ × List ℕ) NotUtf8 f e))

characters_found : (whole n : ℕ) → Found (characters_at whole n) (Characters n)
characters_found whole n bytes s rest fits e =
    let g = guard_ok (ltb (length bytes) n) (Short whole) (cond (is_utf8 (take n bytes)) (Ok (take n bytes, drop n bytes)) (Err NotUtf8)) (s, rest) e in
    let h = must_ok (is_utf8 (take n bytes)) NotUtf8 (Ok (take n bytes, drop n bytes)) (s, rest) g.1 in
    let long : n ≤ length bytes = ltb-false _ _ g.0 in
    let len : length (take n bytes) ≡ n = omega (arith, length-take n bytes) in
    let made : (code : List ℕ) × Characters n (take n bytes) code × (bytes ≡ code ++ drop n bytes) =
    (take n bytes, (IsUtf8-from_is_utf8 _ h.0, len, refl), sym (take-append-drop n bytes)) in
    subst (λ (p : List ℕ × List ℕ). (code : List ℕ) × Characters n p.0 code × (bytes ≡ code ++ p.1)) (ok_is (take n bytes, drop n bytes) (s, rest) h.1) made

characters_again : (whole n : ℕ) → Again (characters_at whole n) (Characters n)
characters_again whole n code s rest (utf8, len, e) =
    let long : ltb (length (s ++ rest)) n ≡ false = le-ltb _ _ (omega (arith, length-append s rest, len)) in
    rw (e, long, take_at s rest n len, drop_at s rest n len, is_utf8-from_IsUtf8 s utf8) refl

characters_blamed : (whole n : ℕ) → Blamed (characters_at whole n) (CharactersFault whole n)
characters_blamed whole n bytes f fits e =
    elim (guard_err (ltb (length bytes) n) (Short whole) (cond (is_utf8 (take n bytes)) (Ok (take n bytes, drop n bytes)) (Err NotUtf8)) f e) [
      | inl (short, is) ↦ inl (is, ltb-true _ _ short)
      | inr (long, later) ↦
          let bad = unfit (is_utf8 (take n bytes)) (take n bytes, drop n bytes) f later in
          inr (bad.1, ltb-false _ _ long, is_not_utf8 (take n bytes) bad.0)
    ]

characters_judged : (whole n : ℕ) → Judged (characters_at whole n) (CharactersFault whole n)
characters_judged whole n bytes f (inl (is, short)) = rw (lt-ltb (length bytes) n short, is) refl
characters_judged whole n bytes f (inr (is, long, bad)) = rw (le-ltb (length bytes) n long, not_utf8 (take n bytes) bad, is) refl

characters_codes : (whole n : ℕ) → Codes (characters_at whole n) (Characters n) (CharactersFault whole n)
characters_codes whole n = record { found = characters_found whole n; again = characters_again whole n; blamed = characters_blamed whole n; judged = characters_judged whole n }

pub text_codes : (whole : ℕ) → Codes (text_at whole) EncodesText (TextFault whole)
text_codes whole = codes_as EncodesText
    (λ s code (n, front, back, (lt, front-is), (utf8, len, back-is), e). (utf8, (omega (arith, len, lt)), rw (e, front-is, back-is, len) refl))
    (λ s code (utf8, lt, e). (length s, big_bytes 4 (length s), s, (lt, refl), (utf8, refl, refl), e))
    (seq_codes (count_codes whole) (characters_codes whole))

pub text_unrefused : (code s : List ℕ) → EncodesText s code → text_refusal s ≡ None
text_unrefused code s h = rw (counts (length s) h.1) refl
