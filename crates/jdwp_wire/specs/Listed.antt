-- A list: an int count and so many values (JDWP specification, "Detailed Command Information": repeated data).
use Rattle.std.specs.Prelude.{◌≡◌, ℕ, ◌≤◌, List, [], ◌∷◌, ◌++◌, length, if◌then◌else◌, Option, Some, None}
use Rattle.std.specs.List.{flat_map}
use Rattle.byteorder.specs.Endian.{big_bytes}
use Rattle.jdwp_wire.specs.declared.data_fault.DataFault.{DataFault}
use Rattle.jdwp_wire.specs.declared.data_fault.DataFault.TheVariants.{BadSize}
use Rattle.jdwp_wire.specs.Reading.{Reader, Encoding, Faults, first_of_two}
use Rattle.jdwp_wire.specs.Sequence.{seq, FirstFault}
use Rattle.jdwp_wire.specs.Numbers.{greatest_int, fits_int, EncodesCount, CountFault, count_at}
use Rattle.jdwp_wire.specs.Each.{EncodesAll, TimesFault, times_at}

abbrev pub list_canonical : {X : Type 0} → (X → List ℕ) → List X → List ℕ
list_canonical canonical xs = big_bytes 4 (length xs) ++ flat_map canonical xs

abbrev pub EncodesList : {X : Type 0} → Encoding X → Encoding (List X)
EncodesList encodes xs code = (length xs ≤ greatest_int) × (items : List ℕ) × EncodesAll encodes xs items × (code ≡ big_bytes 4 (length xs) ++ items)

-- the count is at fault, or it stands in front and one of so many values is
abbrev pub ListFault : {X : Type 0} → Encoding X → Faults → ℕ → Faults
ListFault encodes faults whole = FirstFault EncodesCount (CountFault whole) (TimesFault encodes faults)

-- the first refusal of the values
abbrev pub first_refusal : {X : Type 0} → (X → Option DataFault) → List X → Option DataFault
first_refusal refusal [] = None
first_refusal refusal (x ∷ xs) = first_of_two (refusal x) (first_refusal refusal xs)

abbrev pub list_refusal : {X : Type 0} → (X → Option DataFault) → List X → Option DataFault
list_refusal refusal xs = if fits_int (length xs) then first_refusal refusal xs else Some BadSize

abbrev pub list_at : {X : Type 0} → Reader X → ℕ → Reader (List X)
list_at decode whole = seq (count_at whole) (times_at decode)
