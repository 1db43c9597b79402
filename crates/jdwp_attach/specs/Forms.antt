-- The lines of a plan, form by form.
use Rattle.std.specs.Prelude.{◌≡◌, ◌⊎◌, ◌<◌, ◌^◌, ℕ, List, [], ◌∷◌, ◌++◌, length, Ok, codes}
use Rattle.std.specs.Str.Parse.{IsNumeral, digits_value}
use Rattle.hex.specs.Hex.{decode_of}
use Rattle.jdwp_attach.specs.Lines.{Said}
use Rattle.jdwp_attach.specs.Lines.Said.{Ask, Answers, Events, Mirror, LoseTarget, LoseDebugger, Attach}

abbrev pub space : ℕ
space = 32

-- the decimal digits of a number below the limit: digits alone, at least one
abbrev pub IsNumber : ℕ → List ℕ → ℕ → Type 0
IsNumber limit digits number = IsNumeral 10 digits × (digits_value 10 digits ≡ number) × (number < limit)

-- the hex digits of bytes, of one at least
abbrev pub IsHex : List ℕ → List ℕ → Type 0
IsHex digits bytes = (0 < length digits) × (decode_of digits ≡ Ok bytes)

-- the data of an ask behind its set and number: none, or HEX
abbrev pub IsAskOf : List ℕ → List ℕ → List ℕ → List ℕ → Type 0
IsAskOf set number bytes text =
    ((bytes ≡ []) × (text ≡ codes "ask " ++ (set ++ space ∷ number)))
    ⊎ ((digits : List ℕ) × IsHex digits bytes × (text ≡ codes "ask " ++ (set ++ space ∷ (number ++ space ∷ digits))))

-- The texts of what a line says: `ask SET NUMBER` and `ask SET NUMBER HEX`, `answers`, `events N`, `mirror`, `lose target`,
-- `lose debugger`, `attach`.
abbrev pub Spells : Said → List ℕ → Type 0
Spells (Ask set number bytes) text = (s : List ℕ) × (n : List ℕ) × IsNumber (2 ^ 8) s set × IsNumber (2 ^ 8) n number × IsAskOf s n bytes text
Spells Answers text = text ≡ codes "answers"
Spells (Events count) text = (n : List ℕ) × IsNumber (2 ^ 32) n count × (text ≡ codes "events " ++ n)
Spells Mirror text = text ≡ codes "mirror"
Spells LoseTarget text = text ≡ codes "lose target"
Spells LoseDebugger text = text ≡ codes "lose debugger"
Spells Attach text = text ≡ codes "attach"
