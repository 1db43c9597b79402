-- Text of a session as it stands in a picture (Extensible Markup Language 1.0, "Characters" and "Character Data and Markup").
use Rattle.std.specs.Prelude.{ℕ, zero, suc, ◌==◌, ◌||◌, ◌&&◌, not, nat_le, Bool, true, false, List, [], ◌∷◌, length, if◌then◌else◌, codes}
use Rattle.std.specs.Char.{encode_utf8}
use Rattle.std.specs.List.{filter, flat_map}
use Rattle.std.specs.Str.{chars}

-- A character that is drawn: neither one below 32, as a line end, nor one of the two that no XML holds.
abbrev pub is_drawn : ℕ → Bool
is_drawn c = nat_le 32 c && not ((c == 65534) || (c == 65535))

-- the characters of a text that are drawn
abbrev pub drawn_chars : List ℕ → List ℕ
drawn_chars text = filter is_drawn (chars text)

-- what stands for a character: itself, or a name between `&` and `;`
abbrev pub escaped_char : ℕ → List ℕ
escaped_char c =
    if c == 60 then codes "&lt;" else
    (if c == 62 then codes "&gt;" else
    (if c == 38 then codes "&amp;" else
    (if c == 34 then codes "&quot;" else
    (if c == 39 then codes "&apos;" else c ∷ []))))

abbrev pub escaped : List ℕ → List ℕ
escaped cs = flat_map escaped_char cs

-- the same in UTF-8
abbrev pub escaped_bytes : ℕ → List ℕ
escaped_bytes c =
    if c == 60 then codes "&lt;" else
    (if c == 62 then codes "&gt;" else
    (if c == 38 then codes "&amp;" else
    (if c == 34 then codes "&quot;" else
    (if c == 39 then codes "&apos;" else encode_utf8 c))))

abbrev pub escaped_text : List ℕ → List ℕ
escaped_text cs = flat_map escaped_bytes cs

-- neither a bracket nor a quote
abbrev pub is_no_markup : ℕ → Bool
is_no_markup c = not ((c == 60) || ((c == 62) || ((c == 34) || (c == 39))))

-- ---- reading it back

-- the character that a name stands for
abbrev pub same_name : List ℕ → List ℕ → Bool
same_name [] [] = true
same_name [] (d ∷ ds) = false
same_name (c ∷ cs) [] = false
same_name (c ∷ cs) (d ∷ ds) = (c == d) && same_name cs ds

abbrev pub named : List ℕ → ℕ
named name =
    if same_name name (codes "lt") then 60 else
    (if same_name name (codes "gt") then 62 else
    (if same_name name (codes "quot") then 34 else
    (if same_name name (codes "apos") then 39 else 38)))

-- what stands before the next `;`, and what stands behind it
abbrev pub name_in : List ℕ → List ℕ
name_in [] = []
name_in (c ∷ cs) = if c == 59 then [] else c ∷ name_in cs

abbrev pub behind_name : List ℕ → List ℕ
behind_name [] = []
behind_name (c ∷ cs) = if c == 59 then cs else behind_name cs

-- what a reader of XML makes of characters, of which there are at most so many
unfoldable pub read_back_within : ℕ → List ℕ → List ℕ
read_back_within zero cs = []
read_back_within (suc n) [] = []
read_back_within (suc n) (c ∷ cs) = if c == 38 then named (name_in cs) ∷ read_back_within n (behind_name cs) else c ∷ read_back_within n cs

abbrev pub read_back : List ℕ → List ℕ
read_back cs = read_back_within (length cs) cs
