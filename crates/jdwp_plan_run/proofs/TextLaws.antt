-- Digits are text.
use Rattle.std.proofs.Common.{◌≡◌, ◌<◌, ℕ, zero, suc, Bool, true, false, ◌&&◌, List, [], ◌∷◌, length, get_or, None, Some, cond, refl, arith}
use Rattle.std.specs.Str.{IsUtf8, all_ascii_digits}
use Rattle.std.specs.Char.{is_ascii_digit}
use Rattle.std.specs.Prelude.{nat_lt}
use Rattle.std.specs.Str.Parse.{digits_value}
use Rattle.std.proofs.lemmas.Str.{IsUtf8-from_ascii}
use Rattle.std.proofs.lemmas.Bool.Decides.{nat_tests}
use Rattle.jdwp_plan.specs.Cuts.{number_of}

digit-below : (c : ℕ) (rest : Bool) → is_ascii_digit c && rest ≡ true → (c < 128) × (rest ≡ true)
digit-below c rest h = grind (arith, nat_tests)

digits-ascii : (ds : List ℕ) (i : ℕ) → all_ascii_digits ds ≡ true → get_or ds i 0 < 128
digits-ascii [] i h = omega arith
digits-ascii (c ∷ ds) zero h = (digit-below c (all_ascii_digits ds) h).0
digits-ascii (c ∷ ds) (suc i) h = digits-ascii ds i (digit-below c (all_ascii_digits ds) h).1

no-number : (limit : ℕ) (ds : List ℕ) (digits : Bool) → digits ≡ false
    → None ≡ cond (digits && (nat_lt 0 (length ds) && nat_lt (digits_value 10 ds) limit)) (Some (digits_value 10 ds)) None
no-number limit ds digits h = rw h refl

-- what is no text is no number
pub not-number : (limit : ℕ) (ds : List ℕ) (digits : Bool) → digits ≡ all_ascii_digits ds → ¬ (IsUtf8 ds) → None ≡ number_of limit ds
not-number limit ds true same unlike = absurd (unlike (IsUtf8-from_ascii ds (λ i. digits-ascii ds i (let h = same in cc))))
not-number limit ds false same unlike = no-number limit ds (all_ascii_digits ds) (let h = same in cc)
