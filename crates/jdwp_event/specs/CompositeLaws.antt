-- What is read of a composite is what bytes encode, and what is encoded is not refused.
use Rattle.std.specs.Prelude.{◌≡◌, ℕ, List, [], ◌∷◌, None, refl}
use Rattle.jdwp_wire.specs.Widths.{Widths}
use Rattle.jdwp_wire.specs.BasicLaws.{byte_codes}
use Rattle.jdwp_wire.specs.ListedLaws.{list_codes, list_unrefused}
use Rattle.jdwp_wire.specs.Codes.{Codes, seq_codes, mapped_codes, codes_as}
use Rattle.jdwp_layout.specs.Shapes.{Events}
use Rattle.jdwp_layout.specs.Grammar.{EncodesEntry}
use Rattle.jdwp_layout.specs.Writes.{entry_refusal}
use Rattle.jdwp_layout.specs.EntryLaws.{entry_codes, entry_unrefused}
use Rattle.jdwp_event.specs.Composites.{CompositeMeaning}
use Rattle.jdwp_event.specs.CompositeBytes.{EncodesComposite, composite_refusal, CompositeFault, with_policy, composite_at}

pub composite_codes : (w : Widths) (whole : ℕ) → Codes (composite_at w whole) (EncodesComposite w) (CompositeFault w whole)
composite_codes w whole = codes_as (EncodesComposite w)
    (λ c code (policy, front, back, (small, front-is), (events, made, s), e). rw made (back, small, s, rw (e, front-is) refl))
    (λ c code (events, small, s, e). (c.policy, c.policy ∷ [], events, (small, refl), (c.events, refl, s), e))
    (seq_codes (byte_codes whole) (λ policy. mapped_codes (with_policy policy) (list_codes (entry_codes w whole Events) whole)))

pub composite_unrefused : (w : Widths) (code : List ℕ) (c : CompositeMeaning) → EncodesComposite w c code → composite_refusal w c ≡ None
composite_unrefused w code c (events, small, s, e) = list_unrefused (EncodesEntry w Events) (entry_refusal w Events) (entry_unrefused w Events) events c.events s
