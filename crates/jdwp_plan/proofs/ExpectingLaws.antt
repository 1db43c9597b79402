-- Expected texts, byte by byte.
use Rattle.std.proofs.Common.{◌≡◌, ℕ, ◌+◌, ◌<◌, ◌≤◌, ◌==◌, ◌&&◌, Bool, true, false, nat_lt, List, [], ◌∷◌, length, drop, get_or, sym, ap, ◌∙◌, arith}
use Rattle.std.proofs.lemmas.Bool.{lt-ltb}
use Rattle.std.proofs.lemmas.List.{drop_more}
use Rattle.jdwp_plan.specs.declared.quoting.Place.{Place}
use Rattle.jdwp_plan.specs.Expecting.{depth_behind, ends_item, is_made_of, item_length, part_length}
use Rattle.jdwp_plan.specs.Quotes.{place_behind}

next : (xs : List ℕ) (i b : ℕ) → i < length xs → b ≡ get_or xs i 0 → drop i xs ≡ b ∷ drop (i + 1) xs
next xs i b inside at = drop_more xs i 0 inside ∙ ap (λ (x : ℕ). x ∷ drop (i + 1) xs) (sym at)

-- a byte of an expected text that stands for something
pub made_step : (place : Place) (expected : List ℕ) (i b n : ℕ) (text : List ℕ) (whole : Bool) → i < length expected → b ≡ get_or expected i 0 → n ≡ part_length place b text → 0 < n
    → is_made_of place (drop i expected) text ≡ whole → is_made_of (place_behind place b) (drop (i + 1) expected) (drop n text) ≡ whole
made_step place expected i b n text whole inside at is some so =
    let opened : is_made_of place (b ∷ drop (i + 1) expected) text ≡ whole = rw (next expected i b inside at) at so in
    let yes : nat_lt 0 (part_length place b text) ≡ true = lt-ltb 0 (part_length place b text) (omega (arith, is, some)) in
    rw is (rw yes at opened)

-- one that stands for nothing
pub made_fails : (place : Place) (expected : List ℕ) (i b n : ℕ) (text : List ℕ) (whole : Bool) → i < length expected → b ≡ get_or expected i 0 → n ≡ part_length place b text → n ≡ 0
    → is_made_of place (drop i expected) text ≡ whole → false ≡ whole
made_fails place expected i b n text whole inside at is none so =
    let opened : is_made_of place (b ∷ drop (i + 1) expected) text ≡ whole = rw (next expected i b inside at) at so in
    let no : part_length place b text ≡ 0 = sym is ∙ none in
    rw no at opened

-- a byte of an item
pub item_step : (depth : ℕ) (place : Place) (text : List ℕ) (i b whole : ℕ) → i < length text → b ≡ get_or text i 0 → (depth == 0) && ends_item place b ≡ false
    → item_length depth place (drop i text) + i ≡ whole → item_length (depth_behind depth place b) (place_behind place b) (drop (i + 1) text) + (i + 1) ≡ whole
item_step depth place text i b whole inside at is so =
    let opened : item_length depth place (b ∷ drop (i + 1) text) + i ≡ whole = rw (next text i b inside at) at so in
    let one : (item_length (depth_behind depth place b) (place_behind place b) (drop (i + 1) text) + 1) + i ≡ whole = rw is at opened in
    omega (arith, one)

-- the byte that ends it
pub item_ends : (depth : ℕ) (place : Place) (text : List ℕ) (i b whole : ℕ) → i < length text → b ≡ get_or text i 0 → (depth == 0) && ends_item place b ≡ true
    → item_length depth place (drop i text) + i ≡ whole → i ≡ whole
item_ends depth place text i b whole inside at is so =
    let opened : item_length depth place (b ∷ drop (i + 1) text) + i ≡ whole = rw (next text i b inside at) at so in
    let none : 0 + i ≡ whole = rw is at opened in
    omega (arith, none)
