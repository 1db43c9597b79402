-- The lines of a plan as texts, and what they say.
use Rattle.std.specs.Prelude.{ℕ, ◌==◌, ◌^◌, ◌&&◌, Bool, true, false, nat_lt, List, [], ◌∷◌, length, Option, Some, None, Result, Ok, Err, codes, if◌then◌else◌}
use Rattle.std.specs.List.{slice_split, list_any}
use Rattle.std.specs.Str.{bytes_eq, all_ascii_digits}
use Rattle.std.specs.Str.Parse.{digits_value}
use Rattle.hex.specs.declared.error.FromHexError.{FromHexError}
use Rattle.hex.specs.declared.error.FromHexError.TheVariants as unhex
use Rattle.hex.specs.Hex.{decode_of}
use Rattle.jdwp_attach.specs.declared.plans.plan_fault.LineFault.{LineFault}
use Rattle.jdwp_attach.specs.declared.plans.plan_fault.LineFault.TheVariants.{Blank, Spacing, FirstWord, WordCount, Set, Number, OddDigits, Digits, Count, End, PairAlone}

-- What a line says: to ask a command of a set with these bytes as data, to wait for what was asked, to wait for so many events, to
-- tell what is known; and of `pair` alone, that the target loses the connection, that the debugger does, and that a new session begins.
pub data Said : Type 0 where
  Ask : ℕ → ℕ → List ℕ → Said
  Answers : Said
  Events : ℕ → Said
  Mirror : Said
  LoseTarget : Said
  LoseDebugger : Said
  Attach : Said

-- `pair` alone carries it out
abbrev pub is_of_pair : Said → Bool
is_of_pair LoseTarget = true
is_of_pair LoseDebugger = true
is_of_pair Attach = true
is_of_pair other = false

-- ---- words

abbrev pub is_empty : List ℕ → Bool
is_empty text = length text == 0

-- what stands between the spaces of a line
abbrev pub words_of : List ℕ → List (List ℕ)
words_of line = slice_split (λ byte. byte == 32) line

-- a number below the limit in decimal: digits alone, at least one
abbrev pub number_of : ℕ → List ℕ → Option ℕ
number_of limit word =
    if all_ascii_digits word && (nat_lt 0 (length word) && nat_lt (digits_value 10 word) limit) then Some (digits_value 10 word) else None

-- the bytes of hex digits
abbrev pub data_by : Result (List ℕ) FromHexError → Result (List ℕ) LineFault
data_by (Ok bytes) = Ok bytes
data_by (Err unhex.OddLength) = Err OddDigits
data_by (Err (unhex.InvalidHexCharacter c index)) = Err Digits
data_by (Err unhex.InvalidStringLength) = Err Digits
data_by (Err unhex.OutOfMemory) = Err Digits

abbrev pub data_of : List ℕ → Result (List ℕ) LineFault
data_of digits = data_by (decode_of digits)

-- ---- lines

-- `ask` by its set, its number and its data
abbrev pub asked : Option ℕ → Option ℕ → Result (List ℕ) LineFault → Result Said LineFault
asked None number bytes = Err Set
asked (Some set) None bytes = Err Number
asked (Some set) (Some number) (Err fault) = Err fault
asked (Some set) (Some number) (Ok bytes) = Ok (Ask set number bytes)

-- SET NUMBER, or SET NUMBER HEX
abbrev pub ask_by : List (List ℕ) → Result Said LineFault
ask_by [] = Err WordCount
ask_by (set ∷ []) = Err WordCount
ask_by (set ∷ number ∷ []) = asked (number_of (2 ^ 8) set) (number_of (2 ^ 8) number) (Ok [])
ask_by (set ∷ number ∷ digits ∷ []) = asked (number_of (2 ^ 8) set) (number_of (2 ^ 8) number) (data_of digits)
ask_by (set ∷ number ∷ digits ∷ other ∷ others) = Err WordCount

-- nothing
abbrev pub alone : Said → List (List ℕ) → Result Said LineFault
alone said [] = Ok said
alone said (other ∷ others) = Err WordCount

abbrev pub waited : Option ℕ → Result Said LineFault
waited None = Err Count
waited (Some count) = Ok (Events count)

-- N
abbrev pub events_by : List (List ℕ) → Result Said LineFault
events_by [] = Err WordCount
events_by (count ∷ []) = waited (number_of (2 ^ 32) count)
events_by (count ∷ other ∷ others) = Err WordCount

-- `target` or `debugger`
abbrev pub lose_by : List (List ℕ) → Result Said LineFault
lose_by [] = Err WordCount
lose_by (end ∷ []) =
    if bytes_eq end (codes "target") then Ok LoseTarget
    else if bytes_eq end (codes "debugger") then Ok LoseDebugger
    else Err End
lose_by (end ∷ other ∷ others) = Err WordCount

-- a line by its words
abbrev pub line_by : List (List ℕ) → Result Said LineFault
line_by [] = Err FirstWord
line_by (first ∷ others) =
    if bytes_eq first (codes "ask") then ask_by others
    else if bytes_eq first (codes "answers") then alone Answers others
    else if bytes_eq first (codes "events") then events_by others
    else if bytes_eq first (codes "mirror") then alone Mirror others
    else if bytes_eq first (codes "lose") then lose_by others
    else if bytes_eq first (codes "attach") then alone Attach others
    else Err FirstWord

-- what a line says, or what is wrong with it
abbrev pub line_of : List ℕ → Result Said LineFault
line_of line = if is_empty line then Err Blank else if list_any is_empty (words_of line) then Err Spacing else line_by (words_of line)

-- ---- in a plan of `attach`

-- what is read as this, but for a line of `pair` alone
abbrev pub for_attach : Result Said LineFault → Result Said LineFault
for_attach (Ok said) = if is_of_pair said then Err PairAlone else Ok said
for_attach (Err fault) = Err fault

-- what a line of a plan of `attach` says, or what is wrong with it
abbrev pub attach_line_of : List ℕ → Result Said LineFault
attach_line_of line = for_attach (line_of line)
