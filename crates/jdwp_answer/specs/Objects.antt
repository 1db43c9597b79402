-- What the entries of a list of objects hold.
use Rattle.std.specs.Prelude.{List, [], ◌∷◌}
use Rattle.jdwp_value.specs.declared.id.ObjectId.{ObjectId}
use Rattle.jdwp_layout.specs.declared.item.Field.TheVariants as field
use Rattle.jdwp_layout.specs.Shapes.{EntryShape, Fields}
use Rattle.jdwp_layout.specs.Meanings.{ScalarMeaning, Object}

abbrev pub object_fields : ObjectId → List ScalarMeaning
object_fields o = Object o.0 ∷ []

abbrev pub objects : EntryShape
objects = Fields (field.ObjectId ∷ [])
