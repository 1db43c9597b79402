-- What a modifier is as bytes: an entry of the command's list (JDWP specification, "Protocol Details": the command Set of the set EventRequest).
use Rattle.std.specs.Prelude.{ℕ, List, [], ◌∷◌, Option, Some, None}
use Rattle.jdwp_wire.specs.declared.data_fault.DataFault.{DataFault}
use Rattle.jdwp_wire.specs.declared.data_fault.DataFault.TheVariants.{BadTag}
use Rattle.jdwp_wire.specs.Widths.{Widths}
use Rattle.jdwp_wire.specs.Reading.{Reader, Encoding, Faults}
use Rattle.jdwp_wire.specs.Sequence.{seq, give, refuse}
use Rattle.jdwp_layout.specs.ModifierKindNumbers as modifier
use Rattle.jdwp_layout.specs.Shapes.{Modifiers}
use Rattle.jdwp_layout.specs.Meanings.{ScalarMeaning, Byte, Boolean, Int, Text, Object, ReferenceType, OfField, Located}
use Rattle.jdwp_layout.specs.Grammar.{EncodesEntry, EntryFault}
use Rattle.jdwp_layout.specs.Keeping.{EntryIsKept}
use Rattle.jdwp_layout.specs.Reads.{entry_at}
use Rattle.jdwp_layout.specs.Writes.{entry_canonical, entry_refusal}
use Rattle.jdwp_event.specs.Modifiers.{ModifierMeaning, Count, Conditional, ThreadOnly, ClassOnly, ClassMatch, ClassExclude, LocationOnly, ExceptionOnly, FieldOnly, Step, InstanceOnly, SourceNameMatch, modifier_of}

-- the entry of a modifier: its kind as a byte, and what its fields hold
abbrev pub modifier_entry : ModifierMeaning → List ScalarMeaning
modifier_entry (Count n) = Byte modifier.COUNT ∷ Int n ∷ []
modifier_entry (Conditional n) = Byte modifier.CONDITIONAL ∷ Int n ∷ []
modifier_entry (ThreadOnly n) = Byte modifier.THREAD_ONLY ∷ Object n ∷ []
modifier_entry (ClassOnly n) = Byte modifier.CLASS_ONLY ∷ ReferenceType n ∷ []
modifier_entry (ClassMatch pattern) = Byte modifier.CLASS_MATCH ∷ Text pattern ∷ []
modifier_entry (ClassExclude pattern) = Byte modifier.CLASS_EXCLUDE ∷ Text pattern ∷ []
modifier_entry (LocationOnly location) = Byte modifier.LOCATION_ONLY ∷ Located location ∷ []
modifier_entry (ExceptionOnly class caught uncaught) = Byte modifier.EXCEPTION_ONLY ∷ ReferenceType class ∷ Boolean caught ∷ Boolean uncaught ∷ []
modifier_entry (FieldOnly class field) = Byte modifier.FIELD_ONLY ∷ ReferenceType class ∷ OfField field ∷ []
modifier_entry (Step thread size depth) = Byte modifier.STEP ∷ Object thread ∷ Int size ∷ Int depth ∷ []
modifier_entry (InstanceOnly n) = Byte modifier.INSTANCE_ONLY ∷ Object n ∷ []
modifier_entry (SourceNameMatch pattern) = Byte modifier.SOURCE_NAME_MATCH ∷ Text pattern ∷ []

abbrev pub EncodesModifier : Widths → Encoding ModifierMeaning
EncodesModifier w m code = EncodesEntry w Modifiers (modifier_entry m) code

abbrev pub modifier_canonical : Widths → ModifierMeaning → List ℕ
modifier_canonical w m = entry_canonical w (modifier_entry m)

abbrev pub modifier_refusal : Widths → ModifierMeaning → Option DataFault
modifier_refusal w m = entry_refusal w Modifiers (modifier_entry m)

abbrev pub ModifierFault : Widths → ℕ → Faults
ModifierFault w whole = EntryFault w whole Modifiers

-- the modifier that was found, if it was
abbrev pub give_found : Option ModifierMeaning → Reader ModifierMeaning
give_found None = refuse BadTag
give_found (Some m) = give m

abbrev pub modifier_at : Widths → ℕ → Reader ModifierMeaning
modifier_at w whole = seq (entry_at w whole Modifiers) (λ entry. give_found (modifier_of entry))

abbrev pub ModifierIsKept : Widths → List ℕ → Type 0
ModifierIsKept w = EntryIsKept w Modifiers
