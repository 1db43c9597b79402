-- What structs say is in the layouts of their replies.
use Rattle.std.specs.Prelude.{Bool, List, [], ◌∷◌, length, map, replicate, refl}
use Rattle.std.specs.List.{AllByRecursion}
use Rattle.jdwp_layout.specs.declared.item.Field.{Field}
use Rattle.jdwp_layout.specs.Meanings.{ScalarMeaning}
use Rattle.jdwp_value.specs.declared.id.ObjectId.{ObjectId}
use Rattle.jdwp_layout.specs.declared.item.Field.TheVariants as field
use Rattle.jdwp_answer.specs.Objects.{object_fields, objects}
use Rattle.jdwp_answer.specs.Shaped.{HasFields, HasEntry, HasItems, booleans, one_each, ones}

pub all_have : {X : Type 0} (fields : List Field) (says : X → List ScalarMeaning) → ((x : X) → HasFields fields (says x)) → (xs : List X) → AllByRecursion (HasFields fields) (map says xs)
all_have fields says each [] = tt
all_have fields says each (x ∷ xs) = (each x, all_have fields says each xs)

pub objects_have : (xs : List ObjectId) → AllByRecursion (HasEntry objects) (map object_fields xs)
objects_have xs = all_have (field.ObjectId ∷ []) object_fields (λ o. refl) xs

pub booleans_fit : (truths : List Bool) → HasItems (one_each (replicate (length truths) field.Boolean)) (ones (booleans truths))
booleans_fit [] = tt
booleans_fit (truth ∷ truths) = (refl, booleans_fit truths)
