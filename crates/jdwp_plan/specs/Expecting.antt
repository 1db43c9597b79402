-- Texts that are expected, and what is one of them.
use Rattle.std.specs.Prelude.{ℕ, ◌+◌, ◌-◌, ◌==◌, ◌&&◌, ◌||◌, nat_lt, Bool, List, [], ◌∷◌, length, drop, if◌then◌else◌}
use Rattle.jdwp_plan.specs.declared.quoting.Place.{Place}
use Rattle.jdwp_plan.specs.declared.quoting.Place.TheVariants.{Outside}
use Rattle.jdwp_plan.specs.Quotes.{place_behind, stands}

-- ---- items

abbrev pub opens : Place → ℕ → Bool
opens place b = stands place 40 b || stands place 91 b

abbrev pub closes : Place → ℕ → Bool
closes place b = stands place 41 b || stands place 93 b

-- a space, a comma or a closing bracket
abbrev pub ends_item : Place → ℕ → Bool
ends_item place b = (stands place 32 b || stands place 44 b) || closes place b

-- in how many brackets the byte behind this one stands
abbrev pub depth_behind : ℕ → Place → ℕ → ℕ
depth_behind depth place b = if opens place b then depth + 1 else if closes place b then depth - 1 else depth

-- how many bytes stand before the first that ends an item and stands in no bracket
abbrev pub item_length : ℕ → Place → List ℕ → ℕ
item_length depth place [] = 0
item_length depth place (b ∷ text) =
    if (depth == 0) && ends_item place b then 0 else item_length (depth_behind depth place b) (place_behind place b) text + 1

-- ---- what is expected

-- 1 where the first byte is this one
abbrev pub byte_length : ℕ → List ℕ → ℕ
byte_length b [] = 0
byte_length b (first ∷ text) = if first == b then 1 else 0

-- what one byte of an expected text stands for in front of a text: `_` in no string for an item, and else itself
abbrev pub part_length : Place → ℕ → List ℕ → ℕ
part_length place b text = if stands place 95 b then item_length 0 Outside text else byte_length b text

-- the text is made of what the bytes of the expected one stand for, one behind the other, each of one byte at least
abbrev pub is_made_of : Place → List ℕ → List ℕ → Bool
is_made_of place [] text = length text == 0
is_made_of place (b ∷ expected) text = nat_lt 0 (part_length place b text) && is_made_of (place_behind place b) expected (drop (part_length place b text) text)

abbrev pub is_expected : List ℕ → List ℕ → Bool
is_expected expected text = is_made_of Outside expected text
