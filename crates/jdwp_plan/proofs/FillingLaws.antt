-- Values in the place of names.
use Rattle.std.proofs.Common.{◌≡◌, ℕ, ◌+◌, ◌≤◌, true, false, List, [], ◌∷◌, ◌++◌, length, drop, take, suc, zero, Some, None, Result, Ok, Err, refl, sym, ap, ◌∙◌, append_assoc, arith}
use Rattle.std.proofs.lemmas.List.{append-nil}
use Rattle.jdwp_plan.specs.declared.quoting.Place.{Place}
use Rattle.jdwp_plan.specs.declared.quoting.Place.TheVariants.{Outside, Inside, Escaped}
use Rattle.jdwp_plan.specs.Filling.{filled_behind, joined, name_in, value_of}
use Rattle.jdwp_plan.specs.Names.{name_length}
use Rattle.jdwp_plan.specs.Quotes.{place_behind, stands}

-- what belongs to a name is passed
pub passed : (values : List (List ℕ × List ℕ)) (n : ℕ) (place : Place) (text : List ℕ) → n ≤ length text → filled_behind values n place text ≡ filled_behind values 0 place (drop n text)
passed values zero place text short = refl
passed values (suc n) place [] short = absurd (omega arith)
passed values (suc n) place (b ∷ text) short = passed values n place text (omega arith)

-- with two things in front
joined-append : {E : Type 0} (xs ys : List ℕ) (r : Result (List ℕ) E) → joined (xs ++ ys) r ≡ joined xs (joined ys r)
joined-append xs ys (Ok text) = ap (λ (t : List ℕ). Ok t) (append_assoc xs ys text)
joined-append xs ys (Err e) = refl

-- a value in the place of its name
pub name_step : (values : List (List ℕ × List ℕ)) (place : Place) (b : ℕ) (text out value : List ℕ) (whole : Result (List ℕ) ℕ) → stands place 36 b ≡ true → name_length text ≤ length text
    → value_of (name_in text) values ≡ Some value → joined out (filled_behind values 0 place (b ∷ text)) ≡ whole
    → joined (out ++ value) (filled_behind values 0 place (drop (name_length text) text)) ≡ whole
name_step values Outside b text out value whole is short bound so =
    let so_far = rw (is, bound) at so in
    joined-append out value (filled_behind values 0 Outside (drop (name_length text) text))
    ∙ ap (λ (r : Result (List ℕ) ℕ). joined out (joined value r)) (sym (passed values (name_length text) Outside text short)) ∙ so_far
name_step values Inside b text out value whole is short bound so = absurd (cc)
name_step values Escaped b text out value whole is short bound so = absurd (cc)

-- another byte
pub byte_step : (values : List (List ℕ × List ℕ)) (place : Place) (b : ℕ) (text out : List ℕ) (whole : Result (List ℕ) ℕ) → stands place 36 b ≡ false
    → joined out (filled_behind values 0 place (b ∷ text)) ≡ whole → joined (out ++ b ∷ []) (filled_behind values 0 (place_behind place b) text) ≡ whole
byte_step values place b text out whole is so =
    let so_far = rw is at so in joined-append out (b ∷ []) (filled_behind values 0 (place_behind place b) text) ∙ so_far

-- a name without a value
pub fault_step : (values : List (List ℕ × List ℕ)) (place : Place) (b : ℕ) (text out : List ℕ) (whole : Result (List ℕ) ℕ) → stands place 36 b ≡ true
    → value_of (name_in text) values ≡ None → joined out (filled_behind values 0 place (b ∷ text)) ≡ whole → whole ≡ Err (length text + 1)
fault_step values place b text out whole is none so = sym (rw (is, none) at so)

-- the end
pub end_step : (values : List (List ℕ × List ℕ)) (place : Place) (out : List ℕ) (whole : Result (List ℕ) ℕ) → joined out (filled_behind values 0 place []) ≡ whole → whole ≡ Ok out
end_step values place out whole so = sym so ∙ ap (λ (t : List ℕ). Ok t) (append-nil out)

-- the same by the slices of the text
pub slice_step : (values : List (List ℕ × List ℕ)) (place : Place) (b : ℕ) (rest tail out value name back : List ℕ) (n : ℕ) (whole : Result (List ℕ) ℕ) → rest ≡ b ∷ tail → stands place 36 b ≡ true
    → n ≡ name_length tail → n ≤ length tail → name ≡ take n tail → value_of name values ≡ Some value → back ≡ drop n tail → joined out (filled_behind values 0 place rest) ≡ whole
    → joined (out ++ value) (filled_behind values 0 place back) ≡ whole
slice_step values place b rest tail out value name back n whole is stands-so long short named bound behind so =
    let bound' : value_of (take (name_length tail) tail) values ≡ Some value = rw (← long, ← named) bound in
    let so' = rw is at so in
    rw (behind, long) (name_step values place b tail out value whole stands-so (omega (arith, long, short)) bound' so')
