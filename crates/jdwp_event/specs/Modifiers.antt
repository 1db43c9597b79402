-- The modifiers of event requests (JDWP specification, "Protocol Details": the command Set of the set EventRequest).
use Rattle.std.specs.Prelude.{ℕ, ℤ, ◌==◌, if◌then◌else◌, Bool, List, [], ◌∷◌, Option, Some, None}
use Rattle.std.specs.List.{filter_map}
use Rattle.jdwp_value.specs.declared.location.Location.{Location}
use Rattle.jdwp_layout.specs.ModifierKindNumbers as modifier
use Rattle.jdwp_layout.specs.Meanings.{ScalarMeaning, Byte, Boolean, Int, Text, Object, ReferenceType, OfField, Located}

pub data ModifierMeaning : Type 0 where
  -- only the n-th happening that reaches it
  Count : ℤ → ModifierMeaning
  Conditional : ℤ → ModifierMeaning
  -- only happenings of this thread
  ThreadOnly : ℕ → ModifierMeaning
  -- only in classes that reach this one
  ClassOnly : ℕ → ModifierMeaning
  -- only in classes whose name fits the pattern; only in others
  ClassMatch : List ℕ → ModifierMeaning
  ClassExclude : List ℕ → ModifierMeaning
  -- only at this location
  LocationOnly : Location → ModifierMeaning
  -- only exceptions whose class reaches this one (0: any), caught ones or not, uncaught ones or not
  ExceptionOnly : ℕ → Bool → Bool → ModifierMeaning
  FieldOnly : ℕ → ℕ → ModifierMeaning
  -- only steps of this thread, by size and depth
  Step : ℕ → ℤ → ℤ → ModifierMeaning
  InstanceOnly : ℕ → ModifierMeaning
  SourceNameMatch : List ℕ → ModifierMeaning

-- the modifier of a kind byte and what its fields hold
abbrev pub modifier_of_kind : ℕ → List ScalarMeaning → Option ModifierMeaning
modifier_of_kind kind (Int n ∷ []) = if kind == modifier.COUNT then Some (Count n) else (if kind == modifier.CONDITIONAL then Some (Conditional n) else None)
modifier_of_kind kind (Object n ∷ []) = if kind == modifier.THREAD_ONLY then Some (ThreadOnly n) else (if kind == modifier.INSTANCE_ONLY then Some (InstanceOnly n) else None)
modifier_of_kind kind (ReferenceType n ∷ []) = if kind == modifier.CLASS_ONLY then Some (ClassOnly n) else None
modifier_of_kind kind (Text pattern ∷ []) =
    if kind == modifier.CLASS_MATCH then Some (ClassMatch pattern) else (if kind == modifier.CLASS_EXCLUDE then Some (ClassExclude pattern) else (if kind == modifier.SOURCE_NAME_MATCH then Some (SourceNameMatch pattern) else None))
modifier_of_kind kind (Located location ∷ []) = if kind == modifier.LOCATION_ONLY then Some (LocationOnly location) else None
modifier_of_kind kind (ReferenceType class ∷ Boolean caught ∷ Boolean uncaught ∷ []) = if kind == modifier.EXCEPTION_ONLY then Some (ExceptionOnly class caught uncaught) else None
modifier_of_kind kind (ReferenceType class ∷ OfField field ∷ []) = if kind == modifier.FIELD_ONLY then Some (FieldOnly class field) else None
modifier_of_kind kind (Object thread ∷ Int size ∷ Int depth ∷ []) = if kind == modifier.STEP then Some (Step thread size depth) else None
modifier_of_kind kind fields = None

-- the modifier of an entry of the command's data, and those of all its entries, in the order sent
abbrev pub modifier_of : List ScalarMeaning → Option ModifierMeaning
modifier_of (Byte kind ∷ fields) = modifier_of_kind kind fields
modifier_of entry = None

abbrev pub modifiers_of : List (List ScalarMeaning) → List ModifierMeaning
modifiers_of entries = filter_map modifier_of entries
