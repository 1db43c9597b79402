-- Parts of a line, and the numbers in them.
use Rattle.std.specs.Prelude.{ℕ, ◌==◌, ◌&&◌, nat_lt, Bool, List, length, Option, Some, None, if◌then◌else◌}
use Rattle.std.specs.List.{after_first, before_first, position_or_len}
use Rattle.std.specs.Str.{all_ascii_digits}
use Rattle.std.specs.Str.Parse.{digits_value}

-- there is such a byte
abbrev pub has : ℕ → List ℕ → Bool
has c text = nat_lt (position_or_len (λ b. b == c) text) (length text)

-- what stands before the first of it, or all
abbrev pub front : ℕ → List ℕ → List ℕ
front c text = if has c text then before_first (λ b. b == c) text else text

-- what stands behind the first of it, if there is one
abbrev pub behind : ℕ → List ℕ → Option (List ℕ)
behind c text = if has c text then Some (after_first (λ b. b == c) text) else None

-- a number below the limit in decimal: digits alone, at least one
abbrev pub number_of : ℕ → List ℕ → Option ℕ
number_of limit word =
    if all_ascii_digits word && (nat_lt 0 (length word) && nat_lt (digits_value 10 word) limit) then Some (digits_value 10 word) else None
