-- Unsigned numbers of a given width in bytes, the highest byte first (JDWP specification, "Data Types": all are big-endian).
use Rattle.std.specs.Prelude.{◌≡◌, ℕ, suc, Bool, ◌≤◌, ◌<◌, ◌^◌, length, drop, nat_lt, if◌then◌else◌, Option, Some, None, Ok, Err, ◌⊎◌}
use Rattle.byteorder.specs.Endian.{big_number, big_bytes}
use Rattle.jdwp_wire.specs.declared.data_fault.DataFault.{DataFault}
use Rattle.jdwp_wire.specs.declared.data_fault.DataFault.TheVariants.{Short, NegativeCount, BadSize, IdTooWide}
use Rattle.jdwp_wire.specs.Reading.{Reader, Encoding, Faults, ◌>>=◌}

-- ---- a number of this width

abbrev pub EncodesNumber : ℕ → Encoding ℕ
EncodesNumber width n code = (n < 256 ^ width) × (code ≡ big_bytes width n)

-- Too few bytes are left. `whole` is the length of the slice that was given, of which the rest is left here.
abbrev pub NumberFault : ℕ → ℕ → Faults
NumberFault width whole bytes f = (f ≡ Short whole) × (length bytes < width)

abbrev pub number_at : ℕ → ℕ → Reader ℕ
number_at width whole bytes = if nat_lt (length bytes) width then Err (Short whole) else Ok (big_number width bytes, drop width bytes)

-- ---- a count or a length: an int that is not negative

-- the greatest int, and so the greatest count or length
abbrev pub greatest_int : ℕ
greatest_int = 2147483647

-- whether an int holds a count or a length
abbrev pub fits_int : ℕ → Bool
fits_int n = nat_lt n (suc greatest_int)

abbrev pub EncodesCount : Encoding ℕ
EncodesCount n code = (n ≤ greatest_int) × (code ≡ big_bytes 4 n)

abbrev pub CountFault : ℕ → Faults
CountFault whole bytes f =
    ((f ≡ Short whole) × (length bytes < 4)) ⊎ ((f ≡ NegativeCount) × (4 ≤ length bytes) × (greatest_int < big_number 4 bytes))

abbrev pub count_at : ℕ → Reader ℕ
count_at whole bytes = number_at 4 whole bytes >>= λ n. if fits_int n.0 then Ok n else Err NegativeCount

-- why a count or a length can't be written
abbrev pub count_refusal : ℕ → Option DataFault
count_refusal n = if fits_int n then None else Some BadSize

-- ---- an id

-- why an id of this width can't be written
abbrev pub id_refusal : ℕ → ℕ → Option DataFault
id_refusal width n = if nat_lt n (256 ^ width) then None else Some IdTooWide
