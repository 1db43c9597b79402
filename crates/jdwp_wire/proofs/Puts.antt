-- Writing one after the other, as a loop does.
use Rattle.std.proofs.Common.{◌≡◌, ℕ, zero, suc, ◌+◌, ◌<◌, ◌≤◌, List, [], ◌∷◌, ◌++◌, length, get_or, take, drop, map, Option, None, refl, sym, ap, ◌∙◌, append_assoc, arith}
use Rattle.std.specs.List.{flat_map}
use Rattle.std.proofs.lemmas.List.{append-nil, take_more, drop_more, map_push, flat_map_more, length-append}
use Rattle.jdwp_wire.specs.declared.data_fault.DataFault.{DataFault}
use Rattle.jdwp_wire.specs.Each.{EncodesAll}
use Rattle.jdwp_wire.specs.Reading.{first_of_two}
use Rattle.jdwp_wire.specs.Listed.{first_refusal}

pub EncodesAll-push : {X : Type 0} (encodes : X → List ℕ → Type 0) (xs : List X) (x : X) (s t : List ℕ) → EncodesAll encodes xs s → encodes x t → EncodesAll encodes (xs ++ x ∷ []) (s ++ t)
EncodesAll-push encodes [] x s t is p = (t, [], p, refl, rw is (sym (append-nil t)))
EncodesAll-push encodes (y ∷ ys) x s t (front, back, q, rest, e) p = (front, back ++ t, q, EncodesAll-push encodes ys x back t rest p, rw e (append_assoc front back t))

module _ {T X : Type 0} (meaning : T → X) where
  pub seen_more : (values : List T) (i : ℕ) (v : T) → i < length values → v ≡ get_or values i v → take (i + 1) values ≡ take i values ++ v ∷ []
  seen_more values i v lt is = take_more values i v lt ∙ ap (λ (x : T). take i values ++ x ∷ []) (sym is)

  pub written_more : (canonical : T → List ℕ) (old now new : List ℕ) (values : List T) (i : ℕ) (v : T) → i < length values → v ≡ get_or values i v → now ≡ old ++ flat_map canonical (take i values) → new ≡ now ++ canonical v → new ≡ old ++ flat_map canonical (take (i + 1) values)
  written_more canonical old now new values i v lt is so_far one =
      one ∙ ap (λ (x : List ℕ). x ++ canonical v) so_far ∙ flat_map_more canonical old (take i values) v ∙ ap (λ (x : List T). old ++ flat_map canonical x) (sym (seen_more values i v lt is))

  pub encoded_more : (encodes : X → List ℕ → Type 0) (canonical : T → List ℕ) (values : List T) (i : ℕ) (v : T) → i < length values → v ≡ get_or values i v → EncodesAll encodes (map meaning (take i values)) (flat_map canonical (take i values)) → encodes (meaning v) (canonical v)
      → EncodesAll encodes (map meaning (take (i + 1) values)) (flat_map canonical (take (i + 1) values))
  encoded_more encodes canonical values i v lt is so_far one =
      let e = seen_more values i v lt is in
      let m : map meaning (take (i + 1) values) ≡ map meaning (take i values) ++ meaning v ∷ [] = ap (λ (x : List T). map meaning x) e ∙ map_push meaning (take i values) v in
      let f : flat_map canonical (take (i + 1) values) ≡ flat_map canonical (take i values) ++ canonical v = ap (λ (x : List T). flat_map canonical x) e ∙ sym (flat_map_more canonical [] (take i values) v) in
      rw (m, f) (EncodesAll-push encodes (map meaning (take i values)) (meaning v) (flat_map canonical (take i values)) (canonical v) so_far one)

  pub refusal_more : (refusal : X → Option DataFault) (values : List T) (i : ℕ) (v : T) → i < length values → v ≡ get_or values i v → refusal (meaning v) ≡ None
      → first_refusal refusal (map meaning (drop i values)) ≡ first_refusal refusal (map meaning (drop (i + 1) values))
  refusal_more refusal values i v lt is none =
      let d : drop i values ≡ v ∷ drop (i + 1) values = drop_more values i v lt ∙ ap (λ (x : T). x ∷ drop (i + 1) values) (sym is) in
      ap (λ (x : List T). first_refusal refusal (map meaning x)) d ∙ ap (λ (o : Option DataFault). first_of_two o (first_refusal refusal (map meaning (drop (i + 1) values)))) none

-- some of the values take no more bytes than all
pub length-flat_map-take : {T : Type 0} (canonical : T → List ℕ) (values : List T) (n : ℕ) → length (flat_map canonical (take n values)) ≤ length (flat_map canonical values)
length-flat_map-take canonical [] zero = omega arith
length-flat_map-take canonical [] (suc n) = omega arith
length-flat_map-take canonical (v ∷ vs) zero = omega arith
length-flat_map-take canonical (v ∷ vs) (suc n) =
    let more = length-flat_map-take canonical vs n in
    let left = length-append (canonical v) (flat_map canonical (take n vs)) in
    let right = length-append (canonical v) (flat_map canonical vs) in
    omega (arith, more, left, right)

-- where there is room for all, there is room for the next
pub room_more : {T : Type 0} (canonical : T → List ℕ) (old now : List ℕ) (values : List T) (i : ℕ) (v : T) (before after : ℕ) → i < length values → v ≡ get_or values i v
    → now ≡ old ++ flat_map canonical (take i values) → before ≤ after → length old + length (flat_map canonical values) ≤ before → length now + length (canonical v) ≤ after
room_more canonical old now values i v before after lt is so_far grown room =
    let some = length-flat_map-take canonical values (i + 1) in
    let next = ap (λ (x : List ℕ). length x) (written_more (λ (x : _). x) canonical old now (now ++ canonical v) values i v lt is so_far refl) in
    let a = length-append now (canonical v) in
    let b = length-append old (flat_map canonical (take (i + 1) values)) in
    omega (arith, some, next, a, b, grown, room)
