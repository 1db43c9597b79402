-- Values as a script writes them: a tag, and bits as a number without a sign.
use Rattle.std.specs.Prelude.{ℕ, ◌%◌, ◌^◌, ◌==◌, Bool, nat_lt}
use Rattle.jdwp_value.specs.declared.tag.Tag.{Tag}
use Rattle.jdwp_value.specs.declared.tag.Tag.TheVariants as tag
use Rattle.jdwp_value.specs.declared.value.Value.{Value}
use Rattle.jdwp_value.specs.declared.value.Value.TheVariants as value
use Rattle.jdwp_value.specs.Values.{object_id}
use Rattle.jdwp_script.specs.declared.step.Literal.{Literal}

-- the value of a tag and bits: what is above the tag's width doesn't count
abbrev pub value_of_bits : Tag → ℕ → Value
value_of_bits tag.Byte bits = value.Byte (bits % 256)
value_of_bits tag.Char bits = value.Char (bits % 65_536)
value_of_bits tag.Double bits = value.Double bits
value_of_bits tag.Float bits = value.Float (bits % 4_294_967_296)
value_of_bits tag.Int bits = value.Int (bits % 4_294_967_296)
value_of_bits tag.Long bits = value.Long bits
value_of_bits tag.Short bits = value.Short (bits % 65_536)
value_of_bits tag.Void bits = value.Void
value_of_bits tag.Boolean bits = value.Boolean (bits % 2 == 1)
value_of_bits (tag.Object kind) bits = value.Object (object_id kind bits)

abbrev pub literal_value : Literal → Value
literal_value x = value_of_bits x.tag x.bits

-- how many numbers the bits of a value of the tag may be, from 0: a boolean is 0 or 1, and void 0
abbrev pub bits_below : Tag → ℕ
bits_below tag.Byte = 256
bits_below tag.Char = 65_536
bits_below tag.Double = 2 ^ 64
bits_below tag.Float = 4_294_967_296
bits_below tag.Int = 4_294_967_296
bits_below tag.Long = 2 ^ 64
bits_below tag.Short = 65_536
bits_below tag.Void = 1
bits_below tag.Boolean = 2
bits_below (tag.Object kind) = 2 ^ 64

-- whether the bits are within the width of values of the tag
abbrev pub fits_tag : Tag → ℕ → Bool
fits_tag t bits = nat_lt bits (bits_below t)
