-- Tags: one byte that says what kind of value follows (JDWP specification, "Tag Constants").
use Rattle.std.specs.Prelude.{◌≡◌, ◌≢◌, ℕ, ◌<◌, ◌==◌, List, [], ◌∷◌, if◌then◌else◌, Option, Some, None, ◌⊎◌}
use Rattle.jdwp_wire.specs.declared.data_fault.DataFault.TheVariants.{Short, BadTag}
use Rattle.jdwp_wire.specs.Reading.{Reader, Encoding, Faults}
use Rattle.jdwp_wire.specs.Sequence.{seq, give, refuse}
use Rattle.jdwp_wire.specs.Basic.{byte_at}
use Rattle.jdwp_value.specs.declared.tag.ObjectTag.{ObjectTag}
use Rattle.jdwp_value.specs.declared.tag.ObjectTag.TheVariants as kind
use Rattle.jdwp_value.specs.declared.tag.Tag.{Tag}
use Rattle.jdwp_value.specs.declared.tag.Tag.TheVariants as tag

abbrev pub object_byte : ObjectTag → ℕ
object_byte kind.Array = 91
object_byte kind.Object = 76
object_byte kind.String = 115
object_byte kind.Thread = 116
object_byte kind.ThreadGroup = 103
object_byte kind.ClassLoader = 108
object_byte kind.ClassObject = 99

abbrev pub tag_byte : Tag → ℕ
tag_byte tag.Byte = 66
tag_byte tag.Char = 67
tag_byte tag.Double = 68
tag_byte tag.Float = 70
tag_byte tag.Int = 73
tag_byte tag.Long = 74
tag_byte tag.Short = 83
tag_byte tag.Void = 86
tag_byte tag.Boolean = 90
tag_byte (tag.Object kind) = object_byte kind

abbrev pub EncodesTag : Encoding Tag
EncodesTag t code = code ≡ tag_byte t ∷ []

-- no byte is left, or the one that stands here is no tag's
abbrev pub TagFault : ℕ → Faults
TagFault whole bytes f =
    ((f ≡ Short whole) × (bytes ≡ [])) ⊎ ((f ≡ BadTag) × ((b : ℕ) × (rest : List ℕ) × (b < 256) × (bytes ≡ b ∷ rest) × ((t : Tag) → b ≢ tag_byte t)))

-- ---- the same as a function

abbrev pub tag_of_byte : ℕ → Option Tag
tag_of_byte b =
    if b == 66 then Some tag.Byte else (
    if b == 67 then Some tag.Char else (
    if b == 68 then Some tag.Double else (
    if b == 70 then Some tag.Float else (
    if b == 73 then Some tag.Int else (
    if b == 74 then Some tag.Long else (
    if b == 83 then Some tag.Short else (
    if b == 86 then Some tag.Void else (
    if b == 90 then Some tag.Boolean else (
    if b == 91 then Some (tag.Object kind.Array) else (
    if b == 76 then Some (tag.Object kind.Object) else (
    if b == 115 then Some (tag.Object kind.String) else (
    if b == 116 then Some (tag.Object kind.Thread) else (
    if b == 103 then Some (tag.Object kind.ThreadGroup) else (
    if b == 108 then Some (tag.Object kind.ClassLoader) else (
    if b == 99 then Some (tag.Object kind.ClassObject) else (
    None))))))))))))))))

abbrev pub tag_found : Option Tag → Reader Tag
tag_found None = refuse BadTag
tag_found (Some t) = give t

abbrev pub tag_at : ℕ → Reader Tag
tag_at whole = seq (byte_at whole) (λ b. tag_found (tag_of_byte b))
