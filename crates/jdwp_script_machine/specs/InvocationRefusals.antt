-- When an invocation is refused, and with which error, both ways; and what it is answered else (JDWP specification, "ClassType",
-- "InterfaceType" and "ObjectReference": InvokeMethod).
use Rattle.std.specs.Prelude.{◌≡◌, ◌↔◌, ℕ, ℤ, Bool, true, false, List, [], ◌∷◌, Some, None}
use Rattle.jdwp_wire.specs.ErrorCodes.{INVALID_OBJECT, INVALID_CLASS, INVALID_METHODID, NOT_IMPLEMENTED}
use Rattle.jdwp_layout.specs.declared.answer.Answer.{Answer}
use Rattle.jdwp_layout.specs.declared.answer.Answer.TheVariants.{Data, Error}
use Rattle.jdwp_layout.specs.Meanings.{ScalarMeaning, Int, Object, ReferenceType, Method, DatumMeaning, One, Many, Raw}
use Rattle.jdwp_layout.specs.Writes.{data_canonical}
use Rattle.jdwp_script.specs.declared.step.Literal.{Literal}
use Rattle.jdwp_script.specs.Literals.{literal_value}
use Rattle.jdwp_script.specs.Parts.{ClassPart, MethodPart, ScriptPart}
use Rattle.jdwp_script_machine.specs.InvocationAnswers.{returned_content}
use Rattle.jdwp_script_machine.specs.Sites.{class_in, method_in}

-- ---- the data of an invocation

-- of a method of a type: the type, the thread, the method, the arguments and the options
abbrev pub type_data : ℕ → ℕ → ℕ → List (List ScalarMeaning) → ℤ → List DatumMeaning
type_data class thread method arguments options = One (ReferenceType class) ∷ One (Object thread) ∷ One (Method method) ∷ Many arguments ∷ One (Int options) ∷ []

-- of a method of an object: the object, the thread, the class, the method, the arguments and the options
abbrev pub object_data : ℕ → ℕ → ℕ → ℕ → List (List ScalarMeaning) → ℤ → List DatumMeaning
object_data object thread class method arguments options =
    One (Object object) ∷ One (Object thread) ∷ One (ReferenceType class) ∷ One (Method method) ∷ Many arguments ∷ One (Int options) ∷ []

-- ---- what it names

-- the class is one, and this holds of it
abbrev pub OfClass : ScriptPart → ℕ → (ClassPart → Type 0) → Type 0
OfClass script class P = (c : ClassPart) × (class_in script class ≡ Some c) × P c

-- the class is one and has the method, and this holds of the method
abbrev pub OfMethod : ScriptPart → ℕ → ℕ → (MethodPart → Type 0) → Type 0
OfMethod script class method P = OfClass script class (λ c. (m : MethodPart) × (method_in c method ≡ Some m) × P m)

-- ---- what it is answered

-- Of an object that is there or not: an invocation is refused with INVALID_OBJECT exactly where it is not; else with INVALID_CLASS exactly
-- where the class is none, with INVALID_METHODID exactly where the class has no such method, and with NOT_IMPLEMENTED exactly where the
-- script does not say what the method returns. Where it does, the answer is that, and no exception.
pub record Invokes (script : ScriptPart) (is_there : Bool) (class method : ℕ) (answer : Answer) : Type 0 where
  pub no_object : (answer ≡ Error INVALID_OBJECT) ↔ (is_there ≡ false)
  pub no_class : (answer ≡ Error INVALID_CLASS) ↔ ((is_there ≡ true) × (class_in script class ≡ None))
  pub no_method : (answer ≡ Error INVALID_METHODID) ↔ ((is_there ≡ true) × OfClass script class (λ c. method_in c method ≡ None))
  pub says_nothing : (answer ≡ Error NOT_IMPLEMENTED) ↔ ((is_there ≡ true) × OfMethod script class method (λ m. m.returns ≡ None))
  pub returns : (literal : Literal) → is_there ≡ true → OfMethod script class method (λ m. m.returns ≡ Some literal)
      → answer ≡ Data (Raw (data_canonical script.sizes (returned_content (literal_value literal))) ∷ [])
