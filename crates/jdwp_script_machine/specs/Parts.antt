-- Parts of lists that commands ask for, apart from what is answered.
use Rattle.std.specs.Prelude.{ℤ, pos, negsuc, zero, suc, Bool, true, false, List, [], ◌∷◌, length, take, drop, nat_lt, if◌then◌else◌, Result, Ok, Err, Option, Some, None}
use Rattle.jdwp_wire.specs.declared.error_code.ErrorCode.{ErrorCode}
use Rattle.jdwp_wire.specs.ErrorCodes.{INVALID_INDEX, INVALID_LENGTH, ILLEGAL_ARGUMENT}
use Rattle.jdwp_layout.specs.declared.answer.Answer.{Answer}
use Rattle.jdwp_layout.specs.declared.answer.Answer.TheVariants.{Error}
use Rattle.jdwp_layout.specs.Meanings.{DatumMeaning, One, Int}
use Rattle.jdwp_script_machine.specs.Requests.{part_of}

-- how many are asked, from a place that is there
abbrev pub counted : {A : Type 0} → Bool → List A → ℤ → Result (List A) ErrorCode
counted or_rest xs (pos n) = if nat_lt (length xs) n then Err INVALID_LENGTH else Ok (take n xs)
counted true xs (negsuc zero) = Ok xs
counted false xs (negsuc zero) = Err INVALID_LENGTH
counted or_rest xs (negsuc (suc n)) = Err INVALID_LENGTH

-- the part that is asked for, or why there is none
abbrev pub part : {A : Type 0} → Bool → List A → ℤ → ℤ → Result (List A) ErrorCode
part or_rest xs (pos from) count = if nat_lt (length xs) from then Err INVALID_INDEX else counted or_rest (drop from xs) count
part or_rest xs (negsuc n) count = Err INVALID_INDEX

-- what is answered of a part
abbrev pub of_found_part : {A : Type 0} → (List A → Answer) → Result (List A) ErrorCode → Answer
of_found_part answer (Ok xs) = answer xs
of_found_part answer (Err e) = Error e

-- the place and the count that are asked for, where nothing else is
abbrev pub range_asked : List DatumMeaning → Option (ℤ × ℤ)
range_asked (One (Int from) ∷ One (Int count) ∷ []) = Some (from, count)
range_asked content = None

abbrev pub of_range : {A : Type 0} → Bool → (List A → Answer) → List A → Option (ℤ × ℤ) → Answer
of_range or_rest answer xs None = Error ILLEGAL_ARGUMENT
of_range or_rest answer xs (Some range) = part_of or_rest answer xs range.0 range.1
