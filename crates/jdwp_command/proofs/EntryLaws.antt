-- The lists that commands carry are in the layouts of their rows.
use Rattle.std.proofs.Common.{ℤ, List, [], ◌∷◌, map, refl}
use Rattle.std.specs.List.{AllByRecursion}
use Rattle.jdwp_value.specs.declared.id.FieldId.{FieldId}
use Rattle.jdwp_value.specs.declared.id.ObjectId.{ObjectId}
use Rattle.jdwp_value.specs.declared.tag.Tag.{Tag}
use Rattle.jdwp_value.specs.declared.value.Value.{Value}
use Rattle.jdwp_layout.specs.declared.item.Field.TheVariants as field
use Rattle.jdwp_layout.specs.Meanings.{ScalarMeaning}
use Rattle.jdwp_layout.specs.Shapes.{EntryShape, Fields, Modifiers}
use Rattle.jdwp_event.specs.ModifierBytes.{modifier_entry}
use Rattle.jdwp_event.specs.Modifiers.{ModifierMeaning, Count, Conditional, ThreadOnly, ClassOnly, ClassMatch, ClassExclude, LocationOnly, ExceptionOnly, FieldOnly, Step, InstanceOnly, SourceNameMatch}
use Rattle.jdwp_command.specs.Contents.{disposed_entry, field_entry, slot_entry, written_entry}
use Rattle.jdwp_command.specs.Layouts.{HasEntry}

all_have : {X : Type 0} (entry : EntryShape) (made : X → List ScalarMeaning) → ((x : X) → HasEntry entry (made x)) → (xs : List X) → AllByRecursion (HasEntry entry) (map made xs)
all_have entry made each [] = tt
all_have entry made each (x ∷ xs) = (each x, all_have entry made each xs)

pub fields_have : (fields : List FieldId) → AllByRecursion (HasEntry (Fields (field.FieldId ∷ []))) (map field_entry fields)
fields_have fields = all_have (Fields (field.FieldId ∷ [])) field_entry (λ f. refl) fields

pub slots_have : (slots : List (ℤ × Tag)) → AllByRecursion (HasEntry (Fields (field.Int ∷ field.Byte ∷ []))) (map slot_entry slots)
slots_have slots = all_have (Fields (field.Int ∷ field.Byte ∷ [])) slot_entry (λ s. refl) slots

pub written_have : (values : List (ℤ × Value)) → AllByRecursion (HasEntry (Fields (field.Int ∷ field.Value ∷ []))) (map written_entry values)
written_have values = all_have (Fields (field.Int ∷ field.Value ∷ [])) written_entry (λ v. refl) values

pub disposed_have : (objects : List (ObjectId × ℤ)) → AllByRecursion (HasEntry (Fields (field.ObjectId ∷ field.Int ∷ []))) (map disposed_entry objects)
disposed_have objects = all_have (Fields (field.ObjectId ∷ field.Int ∷ [])) disposed_entry (λ o. refl) objects

modifier_has : (m : ModifierMeaning) → HasEntry Modifiers (modifier_entry m)
modifier_has (Count n) = refl
modifier_has (Conditional n) = refl
modifier_has (ThreadOnly n) = refl
modifier_has (ClassOnly n) = refl
modifier_has (ClassMatch pattern) = refl
modifier_has (ClassExclude pattern) = refl
modifier_has (LocationOnly location) = refl
modifier_has (ExceptionOnly class caught uncaught) = refl
modifier_has (FieldOnly class f) = refl
modifier_has (Step thread size depth) = refl
modifier_has (InstanceOnly n) = refl
modifier_has (SourceNameMatch pattern) = refl

pub modifiers_have : (modifiers : List ModifierMeaning) → AllByRecursion (HasEntry Modifiers) (map modifier_entry modifiers)
modifiers_have modifiers = all_have Modifiers modifier_entry modifier_has modifiers
