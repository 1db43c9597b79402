-- What the parts of a modifier in memory say, as it is written.
use Rattle.std.specs.Prelude.{◌≡◌, List, [], ◌∷◌, Some}
use Rattle.std.specs.String.{string_bytes}
use Rattle.jdwp_layout.specs.declared.item.Field.TheVariants as field
use Rattle.jdwp_layout.specs.ModifiersAndEvents.{modifier_fields}
use Rattle.jdwp_layout.specs.Meanings.{ScalarMeaning, Byte, Text, scalar_meaning}
use Rattle.jdwp_event.specs.declared.modifier.Parts.{Parts}
use Rattle.jdwp_event.specs.declared.modifier.Parts.TheVariants as parts

-- the entry
abbrev pub parts_meaning : Parts → List ScalarMeaning
parts_meaning (parts.Pattern kind text) = Byte kind ∷ Text (string_bytes text.now) ∷ []
parts_meaning (parts.One kind a) = Byte kind ∷ scalar_meaning a ∷ []
parts_meaning (parts.Two kind a b) = Byte kind ∷ scalar_meaning a ∷ scalar_meaning b ∷ []
parts_meaning (parts.Three kind a b c) = Byte kind ∷ scalar_meaning a ∷ scalar_meaning b ∷ scalar_meaning c ∷ []

-- where there is a pattern, the kind's one field is a text
abbrev pub MayHavePattern : Parts → Type 0
MayHavePattern (parts.Pattern kind text) = modifier_fields kind ≡ Some (field.String ∷ [])
MayHavePattern (parts.One kind a) = Unit {0}
MayHavePattern (parts.Two kind a b) = Unit {0}
MayHavePattern (parts.Three kind a b c) = Unit {0}
