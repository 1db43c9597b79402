-- Locations (JDWP specification, "Data Types", location): a type tag, a class, a method and a code index.
use Rattle.std.specs.Prelude.{◌≡◌, ℕ, ◌^◌, ◌<◌, ◌==◌, ◌&&◌, List, ◌∷◌, ◌++◌, nat_lt, Option, Ok, Err, if◌then◌else◌}
use Rattle.byteorder.specs.Endian.{big_bytes}
use Rattle.jdwp_wire.specs.declared.data_fault.DataFault.{DataFault}
use Rattle.jdwp_wire.specs.declared.data_fault.DataFault.TheVariants.{BadTag}
use Rattle.jdwp_wire.specs.Widths.{Widths}
use Rattle.jdwp_wire.specs.Reading.{Reader, Encoding, Faults, first_of_two}
use Rattle.jdwp_wire.specs.Sequence.{seq, FirstFault, unless, UnlessFault}
use Rattle.jdwp_wire.specs.Basic.{EncodesByte, ByteFault, byte_at}
use Rattle.jdwp_wire.specs.Numbers.{EncodesNumber, NumberFault, number_at, id_refusal}
use Rattle.jdwp_value.specs.declared.location.TypeTag.{TypeTag}
use Rattle.jdwp_value.specs.declared.location.TypeTag.TheVariants.{Class, Interface, Array}
use Rattle.jdwp_value.specs.declared.location.Location.{Location}
use Rattle.jdwp_value.specs.declared.location.Location.TheVariants.{Null, At}

-- the byte of a type tag
abbrev pub type_tag_byte : TypeTag → ℕ
type_tag_byte Class = 1
type_tag_byte Interface = 2
type_tag_byte Array = 3

-- ---- the four numbers of a location: all are 0 in the null location

abbrev pub type_tag_of : Location → ℕ
type_tag_of Null = 0
type_tag_of (At tag class method index) = type_tag_byte tag

abbrev pub class_of : Location → ℕ
class_of Null = 0
class_of (At tag class method index) = class.0

abbrev pub method_of : Location → ℕ
method_of Null = 0
method_of (At tag class method index) = method.0

abbrev pub index_of : Location → ℕ
index_of Null = 0
index_of (At tag class method index) = index

abbrev pub location_canonical : Widths → Location → List ℕ
location_canonical w at =
    type_tag_of at ∷ (big_bytes w.reference (class_of at) ++ (big_bytes w.method (method_of at) ++ big_bytes 8 (index_of at)))

-- each location has one encoding
abbrev pub EncodesLocation : Widths → Encoding Location
EncodesLocation w at code =
    (class_of at < 256 ^ w.reference) × (method_of at < 256 ^ w.method) × (index_of at < 256 ^ 8) × (code ≡ location_canonical w at)

abbrev pub location_refusal : Widths → Location → Option DataFault
location_refusal w at = first_of_two (id_refusal w.reference (class_of at)) (id_refusal w.method (method_of at))

-- tag 0 stands before something else than zeros
abbrev pub NullFault : ℕ → ℕ → ℕ → ℕ → Faults
NullFault tag class method index bytes f = (f ≡ BadTag) × (tag ≡ 0) × ((class ≡ 0) × (method ≡ 0) × (index ≡ 0) → ⊥)

-- A type tag is judged once its byte is there. What it calls for may be cut short, whatever its bytes.
-- A null location is judged once it is whole.
abbrev pub LocationFault : Widths → ℕ → Faults
LocationFault w whole =
    FirstFault EncodesByte (ByteFault whole) (λ tag. UnlessFault (nat_lt 3 tag) BadTag (
    FirstFault (EncodesNumber w.reference) (NumberFault w.reference whole) (λ class.
    FirstFault (EncodesNumber w.method) (NumberFault w.method whole) (λ method.
    FirstFault (EncodesNumber 8) (NumberFault 8 whole) (λ index. NullFault tag class method index)))))

-- ---- the same as a function

abbrev pub type_tag : ℕ → TypeTag
type_tag tag = if tag == 1 then Class else (if tag == 2 then Interface else Array)

abbrev pub location_of : ℕ → ℕ → ℕ → ℕ → Location
location_of tag class method index = At (type_tag tag) (record { 0 = class }) (record { 0 = method }) index

abbrev pub location_made : ℕ → ℕ → ℕ → ℕ → Reader Location
location_made tag class method index rest =
    if tag == 0 then (if (class == 0) && ((method == 0) && (index == 0)) then Ok (Null, rest) else Err BadTag)
    else Ok (location_of tag class method index, rest)

abbrev pub location_at : Widths → ℕ → Reader Location
location_at w whole = seq (byte_at whole) (λ tag. unless (nat_lt 3 tag) BadTag (
    seq (number_at w.reference whole) (λ class. seq (number_at w.method whole) (λ method. seq (number_at 8 whole) (λ index. location_made tag class method index)))))
