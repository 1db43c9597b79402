-- What is answered of a part of a list is the answer of the part that is asked for.
use Rattle.std.proofs.Common.{◌≡◌, ℤ, pos, negsuc, zero, suc, Bool, true, false, nat_lt, List, [], ◌∷◌, length, take, drop, map, refl}
use Rattle.std.specs.Prelude.{if◌then◌else◌, Result, Err, Ok}
use Rattle.std.proofs.lemmas.List.{length-map, take-map, drop-map}
use Rattle.jdwp_wire.specs.declared.error_code.ErrorCode.{ErrorCode}
use Rattle.jdwp_wire.specs.ErrorCodes.{INVALID_INDEX, INVALID_LENGTH}
use Rattle.jdwp_layout.specs.declared.answer.Answer.{Answer}
use Rattle.jdwp_layout.specs.declared.answer.Answer.TheVariants.{Error}
use Rattle.jdwp_layout.specs.Meanings.{DatumMeaning, One, Int}
use Rattle.jdwp_script_machine.specs.Requests.{part_from, part_of, of_part}
use Rattle.jdwp_script_machine.specs.Parts.{counted, part, of_found_part, range_asked, of_range}

unless_error : {A : Type 0} (answer : List A → Answer) (e : ErrorCode) (x : Answer) (r : Result (List A) ErrorCode) (b : Bool) → x ≡ of_found_part answer r
    → (if b then Error e else x) ≡ of_found_part answer (if b then Err e else r)
unless_error answer e x r true h = refl
unless_error answer e x r false h = h

counted_is : {A B : Type 0} (f : A → B) (or_rest : Bool) (answer : List B → Answer) (xs : List A) (count : ℤ) → part_from or_rest answer (map f xs) count ≡ of_found_part (λ ys. answer (map f ys)) (counted or_rest xs count)
counted_is f or_rest answer xs (pos n) = rw (length-map, take-map) (unless_error (λ ys. answer (map f ys)) INVALID_LENGTH (answer (map f (take n xs))) (Ok (take n xs)) (nat_lt (length xs) n) refl)
counted_is f true answer xs (negsuc zero) = refl
counted_is f false answer xs (negsuc zero) = refl
counted_is f or_rest answer xs (negsuc (suc n)) = refl

pub part_is : {A B : Type 0} (f : A → B) (or_rest : Bool) (answer : List B → Answer) (xs : List A) (from count : ℤ) → part_of or_rest answer (map f xs) from count ≡ of_found_part (λ ys. answer (map f ys)) (part or_rest xs from count)
part_is f or_rest answer xs (pos from) count =
    rw (length-map, drop-map) (unless_error (λ ys. answer (map f ys)) INVALID_INDEX (part_from or_rest answer (map f (drop from xs)) count) (counted or_rest (drop from xs) count) (nat_lt (length xs) from) (counted_is f or_rest answer (drop from xs) count))
part_is f or_rest answer xs (negsuc n) count = refl

counted_plain : {A : Type 0} (or_rest : Bool) (answer : List A → Answer) (xs : List A) (count : ℤ) → part_from or_rest answer xs count ≡ of_found_part answer (counted or_rest xs count)
counted_plain or_rest answer xs (pos n) = unless_error answer INVALID_LENGTH (answer (take n xs)) (Ok (take n xs)) (nat_lt (length xs) n) refl
counted_plain true answer xs (negsuc zero) = refl
counted_plain false answer xs (negsuc zero) = refl
counted_plain or_rest answer xs (negsuc (suc n)) = refl

pub plain_part_is : {A : Type 0} (or_rest : Bool) (answer : List A → Answer) (xs : List A) (from count : ℤ) → part_of or_rest answer xs from count ≡ of_found_part answer (part or_rest xs from count)
plain_part_is or_rest answer xs (pos from) count =
    unless_error answer INVALID_INDEX (part_from or_rest answer (drop from xs) count) (counted or_rest (drop from xs) count) (nat_lt (length xs) from) (counted_plain or_rest answer (drop from xs) count)
plain_part_is or_rest answer xs (negsuc n) count = refl

pub range_is : {A : Type 0} (or_rest : Bool) (answer : List A → Answer) (xs : List A) (content : List DatumMeaning) → of_part or_rest answer xs content ≡ of_range or_rest answer xs (range_asked content)
range_is or_rest answer xs (One (Int from) ∷ One (Int count) ∷ []) = refl
range_is or_rest answer xs content = refl
