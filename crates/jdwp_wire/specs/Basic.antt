-- Bytes, booleans, ints and longs (JDWP specification, "Data Types").
use Rattle.std.specs.Prelude.{◌≡◌, ℕ, ℤ, zero, suc, ◌<◌, List, [], ◌∷◌, Bool, true, false, Ok, Err, if◌then◌else◌}
use Rattle.std.specs.Int.{w32, w64, cast_signed, cast_unsigned}
use Rattle.byteorder.specs.Endian.{big_bytes}
use Rattle.jdwp_wire.specs.declared.data_fault.DataFault.TheVariants.{Short}
use Rattle.jdwp_wire.specs.Reading.{Reader, Encoding, Faults}
use Rattle.jdwp_wire.specs.Sequence.{mapped}
use Rattle.jdwp_wire.specs.Numbers.{EncodesNumber, number_at}

-- ---- a byte

abbrev pub EncodesByte : Encoding ℕ
EncodesByte n code = (n < 256) × (code ≡ n ∷ [])

-- no byte is left
abbrev pub ByteFault : ℕ → Faults
ByteFault whole bytes f = (f ≡ Short whole) × (bytes ≡ [])

abbrev pub byte_at : ℕ → Reader ℕ
byte_at whole [] = Err (Short whole)
byte_at whole (b ∷ rest) = Ok (b, rest)

-- ---- a boolean: 0 is false, and each other byte is true

abbrev pub EncodesBool : Encoding Bool
EncodesBool true code = (b : ℕ) × (0 < b) × (b < 256) × (code ≡ b ∷ [])
EncodesBool false code = code ≡ 0 ∷ []

-- true is written as 1
abbrev pub bool_canonical : Bool → List ℕ
bool_canonical b = (if b then 1 else 0) ∷ []

abbrev pub bool_at : ℕ → Reader Bool
bool_at whole [] = Err (Short whole)
bool_at whole (zero ∷ rest) = Ok (false, rest)
bool_at whole (suc b ∷ rest) = Ok (true, rest)

-- ---- an int: 4 bytes, in two's complement

abbrev pub EncodesInt : Encoding ℤ
EncodesInt z code = (n : ℕ) × (z ≡ cast_signed w32 n) × EncodesNumber 4 n code

abbrev pub int_canonical : ℤ → List ℕ
int_canonical z = big_bytes 4 (cast_unsigned w32 z)

abbrev pub int_at : ℕ → Reader ℤ
int_at whole = mapped (cast_signed w32) (number_at 4 whole)

-- ---- a long: 8 bytes, in two's complement

abbrev pub EncodesLong : Encoding ℤ
EncodesLong z code = (n : ℕ) × (z ≡ cast_signed w64 n) × EncodesNumber 8 n code

abbrev pub long_canonical : ℤ → List ℕ
long_canonical z = big_bytes 8 (cast_unsigned w64 z)

abbrev pub long_at : ℕ → Reader ℤ
long_at whole = mapped (cast_signed w64) (number_at 8 whole)
