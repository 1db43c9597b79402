-- The names of values.
use Rattle.std.specs.Prelude.{ℕ, ◌+◌, ◌==◌, ◌&&◌, ◌||◌, nat_le, nat_lt, Bool, List, [], ◌∷◌, length, if◌then◌else◌}

-- a letter, a digit or `_`
abbrev pub is_of_name : ℕ → Bool
is_of_name b = (nat_le 97 b && nat_le b 122) || ((nat_le 65 b && nat_le b 90) || ((nat_le 48 b && nat_le b 57) || (b == 95)))

-- how long the name in front of a text is
abbrev pub name_length : List ℕ → ℕ
name_length [] = 0
name_length (b ∷ text) = if is_of_name b then name_length text + 1 else 0

-- a name alone, of at least one of them
abbrev pub is_name : List ℕ → Bool
is_name text = nat_lt 0 (length text) && (name_length text == length text)
