-- What bytes encode as events are the fields of their kinds.
use Rattle.std.proofs.Common.{◌≡◌, ℕ, List, [], ◌∷◌, map, Some, refl, sym, ◌∙◌, ap, subst}
use Rattle.jdwp_wire.specs.Each.{EncodesAll}
use Rattle.jdwp_wire.specs.Widths.{Widths}
use Rattle.jdwp_layout.specs.declared.item.Field.{Field}
use Rattle.jdwp_layout.specs.Grammar.{kind_of, EncodesFields, EncodesEntry}
use Rattle.jdwp_layout.specs.Meanings.{ScalarMeaning, Byte}
use Rattle.jdwp_layout.specs.Shapes.{Events}
use Rattle.jdwp_event_fields.specs.Events.{IsEvent}
use Rattle.jdwp_event_fields.specs.EventSets.{AreEvents}

same_cons : (a b : Field) (xs ys : List Field) → a ≡ b → xs ≡ ys → a ∷ xs ≡ b ∷ ys
same_cons a b xs ys p q = cc

fields_fit : (w : Widths) (fields : List Field) (xs : List ScalarMeaning) (code : List ℕ) → EncodesFields w fields xs code → map kind_of xs ≡ fields
fields_fit w [] [] code s = refl
fields_fit w [] (x ∷ xs) code s = absurd s
fields_fit w (f ∷ fs) [] code s = absurd s
fields_fit w (f ∷ fs) (x ∷ xs) code (front, back, one, others, e) =
    same_cons (kind_of x) f (map kind_of xs) fs one.0 (fields_fit w fs xs back others)

event_fits : (w : Widths) (xs : List ScalarMeaning) (code : List ℕ) → EncodesEntry w Events xs code → IsEvent xs
event_fits w xs code (kind, small, (fields, ys, rest, found, s, made, e)) =
    let all : map kind_of ys ≡ fields = fields_fit w fields ys rest s in
    let is : IsEvent (Byte kind ∷ ys) = found ∙ ap (λ (l : List Field). Some l) (sym all) in
    subst (λ (l : List ScalarMeaning). IsEvent l) (sym made) is

pub events_fit : (w : Widths) (xs : List (List ScalarMeaning)) (code : List ℕ) → EncodesAll (EncodesEntry w Events) xs code → AreEvents xs
events_fit w [] code s = tt
events_fit w (x ∷ xs) code (front, back, one, others, e) = (event_fits w x front one, events_fit w xs back others)
