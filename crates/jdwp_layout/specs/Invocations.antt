-- Invocations of methods (JDWP specification, "ClassType", "InterfaceType" and "ObjectReference": InvokeMethod). The table of commands does
-- not read their data, so their layouts stand here.
use Rattle.std.specs.Prelude.{ℕ, ◌||◌, Bool, true, false, List, [], ◌∷◌, Option, Some, None, if◌then◌else◌}
use Rattle.jdwp_layout.specs.CommandNumbers.{is_command, CLASS_INVOKE, INTERFACE_INVOKE, OBJECT_INVOKE}
use Rattle.jdwp_layout.specs.Shapes.{Fields, ItemShape, OneOf, ListOf}
use Rattle.jdwp_layout.specs.declared.item.Field.TheVariants as field

-- a method of a class or an interface: the type, the thread, the method, the arguments and the options
abbrev pub of_type : List ItemShape
of_type = OneOf field.ReferenceTypeId ∷ OneOf field.ObjectId ∷ OneOf field.MethodId ∷ ListOf (Fields (field.Value ∷ [])) ∷ OneOf field.Int ∷ []

-- a method of an object: the object, the thread, the class, the method, the arguments and the options
abbrev pub of_object : List ItemShape
of_object = OneOf field.ObjectId ∷ OneOf field.ObjectId ∷ OneOf field.ReferenceTypeId ∷ OneOf field.MethodId ∷ ListOf (Fields (field.Value ∷ [])) ∷ OneOf field.Int ∷ []

-- the layout of the data of a command of this set and number, if it is an invocation
abbrev pub invocation_request : ℕ → ℕ → Option (List ItemShape)
invocation_request set number =
    if is_command CLASS_INVOKE set number || is_command INTERFACE_INVOKE set number then Some of_type else (
    if is_command OBJECT_INVOKE set number then Some of_object else None)

-- of its reply: what the method returned, and what it threw
abbrev pub invocation_reply : List ItemShape
invocation_reply = OneOf field.Value ∷ OneOf field.TaggedId ∷ []

abbrev pub is_there : Option (List ItemShape) → Bool
is_there None = false
is_there (Some items) = true

abbrev pub is_invocation : ℕ → ℕ → Bool
is_invocation set number = is_there (invocation_request set number)
