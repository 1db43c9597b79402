-- Numbers in the fields of packets and files.
use Rattle.std.specs.Prelude.{ℕ, List}
use Rattle.byteorder.specs.Endian.{big_number, little_number}
use Rattle.jdwp_recording.specs.declared.fields.Order.{Order}
use Rattle.jdwp_recording.specs.declared.fields.Order.TheVariants.{Big, Little}

-- the number in the first so many bytes
abbrev pub number_of : Order → ℕ → List ℕ → ℕ
number_of Big count bytes = big_number count bytes
number_of Little count bytes = little_number count bytes
