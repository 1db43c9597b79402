-- A string: its length in bytes, and so many bytes of UTF-8 (JDWP specification, "Data Types").
use Rattle.std.specs.Prelude.{◌≡◌, ℕ, ◌≤◌, ◌<◌, List, ◌++◌, length, take, drop, nat_lt, if◌then◌else◌, Option, Ok, Err, ◌⊎◌}
use Rattle.std.specs.Str.{IsUtf8, is_utf8}
use Rattle.byteorder.specs.Endian.{big_bytes}
use Rattle.jdwp_wire.specs.declared.data_fault.DataFault.{DataFault}
use Rattle.jdwp_wire.specs.declared.data_fault.DataFault.TheVariants.{Short, NotUtf8}
use Rattle.jdwp_wire.specs.Reading.{Reader, Encoding, Faults, BeginsWith}
use Rattle.jdwp_wire.specs.Sequence.{seq, FirstFault}
use Rattle.jdwp_wire.specs.Numbers.{greatest_int, EncodesCount, CountFault, count_at, count_refusal}

abbrev pub text_canonical : List ℕ → List ℕ
text_canonical s = big_bytes 4 (length s) ++ s

abbrev pub EncodesText : Encoding (List ℕ)
EncodesText s code = IsUtf8 s × (length s ≤ greatest_int) × (code ≡ text_canonical s)

-- why n bytes of text don't stand here
abbrev pub CharactersFault : ℕ → ℕ → Faults
CharactersFault whole n bytes f =
    ((f ≡ Short whole) × (length bytes < n)) ⊎ ((f ≡ NotUtf8) × (n ≤ length bytes) × (IsUtf8 (take n bytes) → ⊥))

-- the length is at fault, or it stands in front and its bytes are at fault
abbrev pub TextFault : ℕ → Faults
TextFault whole = FirstFault EncodesCount (CountFault whole) (CharactersFault whole)

-- a string of at least one byte stands in front, which has to be kept
abbrev pub TextIsKept : List ℕ → Type 0
TextIsKept = BeginsWith (λ s code. (0 < length s) × EncodesText s code)

abbrev pub text_refusal : List ℕ → Option DataFault
text_refusal s = count_refusal (length s)

abbrev pub characters_at : ℕ → ℕ → Reader (List ℕ)
characters_at whole n bytes = if nat_lt (length bytes) n then Err (Short whole) else
    (if is_utf8 (take n bytes) then Ok (take n bytes, drop n bytes) else Err NotUtf8)

abbrev pub text_at : ℕ → Reader (List ℕ)
text_at whole = seq (count_at whole) (characters_at whole)
