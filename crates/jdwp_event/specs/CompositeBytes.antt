-- What a composite is as bytes: the byte of its policy, and the list of its events (JDWP specification, "Protocol Details": the command Composite of the set Event).
use Rattle.std.specs.Prelude.{◌≡◌, ℕ, ◌<◌, List, [], ◌∷◌, Option, Some, None}
use Rattle.jdwp_wire.specs.declared.data_fault.DataFault.{DataFault}
use Rattle.jdwp_wire.specs.Widths.{Widths}
use Rattle.jdwp_wire.specs.Reading.{Reader, Encoding, Faults}
use Rattle.jdwp_wire.specs.Sequence.{seq, mapped, FirstFault}
use Rattle.jdwp_wire.specs.Basic.{EncodesByte, ByteFault, byte_at}
use Rattle.jdwp_wire.specs.Listed.{EncodesList, ListFault, list_at, list_canonical, list_refusal}
use Rattle.jdwp_layout.specs.Shapes.{Events}
use Rattle.jdwp_layout.specs.Meanings.{ScalarMeaning, Byte, DatumMeaning, One, Many}
use Rattle.jdwp_layout.specs.Grammar.{EncodesEntry, EntryFault}
use Rattle.jdwp_layout.specs.Keeping.{ListIsKept}
use Rattle.jdwp_layout.specs.Reads.{entry_at}
use Rattle.jdwp_layout.specs.Writes.{entry_canonical, entry_refusal}
use Rattle.jdwp_event.specs.Composites.{CompositeMeaning}

abbrev pub EncodesComposite : Widths → Encoding CompositeMeaning
EncodesComposite w c code = (events : List ℕ) × (c.policy < 256) × EncodesList (EncodesEntry w Events) c.events events × (code ≡ c.policy ∷ events)

abbrev pub composite_canonical : Widths → CompositeMeaning → List ℕ
composite_canonical w c = c.policy ∷ list_canonical (entry_canonical w) c.events

abbrev pub composite_refusal : Widths → CompositeMeaning → Option DataFault
composite_refusal w c = list_refusal (entry_refusal w Events) c.events

-- The policy, the count and each event are items of their own.
abbrev pub CompositeFault : Widths → ℕ → Faults
CompositeFault w whole = FirstFault EncodesByte (ByteFault whole) (λ policy. ListFault (EncodesEntry w Events) (EntryFault w whole Events) whole)

abbrev pub with_policy : ℕ → List (List ScalarMeaning) → CompositeMeaning
with_policy policy events = record { policy = policy; events = events }

abbrev pub composite_at : Widths → ℕ → Reader CompositeMeaning
composite_at w whole = seq (byte_at whole) (λ policy. mapped (with_policy policy) (list_at (entry_at w whole Events) whole))

-- of a composite, its first event
abbrev pub CompositeIsKept : Widths → List ℕ → Type 0
CompositeIsKept w bytes = (policy : ℕ) × (rest : List ℕ) × (bytes ≡ policy ∷ rest) × ListIsKept w Events rest

-- the composite of these data; None where they are not a byte and a list
abbrev pub composite_of : List DatumMeaning → Option CompositeMeaning
composite_of (One (Byte policy) ∷ Many events ∷ []) = Some (with_policy policy events)
composite_of other = None

-- these data are a composite of at least one event
abbrev pub HasEvents : Option CompositeMeaning → Type 0
HasEvents None = ⊥
HasEvents (Some c) = c.events ≡ [] → ⊥
