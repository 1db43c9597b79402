-- Numbers in a line.
use Rattle.std.proofs.Common.{◌≡◌, ◌≢◌, ◌^◌, ℕ, ◌<◌, true, false, ◌&&◌, List, length, get_or, Some, Result, Ok, Err, refl, ap}
use Rattle.std.specs.Bool.{Decides}
use Rattle.std.specs.Prelude.{nat_lt}
use Rattle.std.specs.Result.{OkIff, result_ok}
use Rattle.std.specs.Str.{all_ascii_digits}
use Rattle.std.specs.Str.Parse.{digits_value, ParsesUnsigned}
use Rattle.std.proofs.lemmas.Bool.Decides.{same_from_decides, Decides-and, Decides-like, Decides-ltb}
use Rattle.std.proofs.lemmas.Str.Parse.{numerals_by_value, tells_all_ascii_digits, parse_plain}
use Rattle.jdwp_plan.specs.Cuts.{number_of}

abbrev IsNumber : ℕ → List ℕ → Type 0
IsNumber limit text = (all_ascii_digits text ≡ true) × (0 < length text) × (digits_value 10 text < limit)

tells_number : (text : List ℕ) (limit : ℕ) → Decides (all_ascii_digits text && (nat_lt 0 (length text) && nat_lt (digits_value 10 text) limit)) (IsNumber limit text)
tells_number text limit =
    Decides-like _ (λ p. (p.0, p.1.0, p.1.1)) (λ p. (p.0, (p.1, p.2)))
    (Decides-and (all_ascii_digits text) (nat_lt 0 (length text) && nat_lt (digits_value 10 text) limit) (λ h. h, λ h. h)
    (Decides-and (nat_lt 0 (length text)) (nat_lt (digits_value 10 text) limit) (Decides-ltb 0 (length text)) (Decides-ltb (digits_value 10 text) limit)))

as_number : {E : Type 0} (text : List ℕ) (limit : ℕ) (r : Result ℕ E) → OkIff r (IsNumber limit text) (digits_value 10 text) → result_ok r ≡ number_of limit text
as_number text limit (Ok x) h =
    let yes : all_ascii_digits text && (nat_lt 0 (length text) && nat_lt (digits_value 10 text) limit) ≡ true = (tells_number text limit).1 h.0 in
    rw yes (ap (λ (n : ℕ). Some n) h.1)
as_number text limit (Err e) h =
    let no : false ≡ (all_ascii_digits text && (nat_lt 0 (length text) && nat_lt (digits_value 10 text) limit)) = same_from_decides false _ (λ same. cc, λ p. absurd (h p)) (tells_number text limit) in
    rw (← no) refl

-- what `parse` reads of a text that no plus begins
pub parsed : {E : Type 0} (k : ℕ) (text : List ℕ) (r : Result ℕ E) → ParsesUnsigned k 10 text r → get_or text 0 0 ≢ 43 → result_ok r ≡ number_of (2 ^ k) text
parsed k text r h plain = as_number text (2 ^ k) r (parse_plain (numerals_by_value (λ ds. all_ascii_digits ds ≡ true) tells_all_ascii_digits) k text r h plain)
