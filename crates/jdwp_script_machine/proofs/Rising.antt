-- Proofs about lists by rising id.
use borrow.Rule.Slice.PartMut.{mid_of, put_mid}
use Rattle.std.proofs.Common.{◌≡◌, ℕ, zero, suc, ◌+◌, ◌-◌, ◌≤◌, ◌<◌, List, [], ◌∷◌, ◌++◌, length, map, take, drop, nat_le, refl, sym, ap, ap₂, ◌∙◌, inl, inr, add-one, append_assoc, append-nil, length-drop, arith}
use Rattle.std.proofs.lemmas.List.{map-append, length-map, take-map, drop-map, take_all, drop_all}
use Rattle.std.specs.List.{insert}
use Rattle.jdwp_script.specs.Parts.{GroupPart, ClassPart, ObjectPart, ThreadPart, ModulePart, ScriptPart}
use Rattle.jdwp_value.specs.Rising.{put_in, rising}
use Rattle.jdwp_script_machine.specs.LookUps.{first_put, place_for}
use Rattle.jdwp_script_machine.specs.States.{class_arranged, arranged}
use Rattle.jdwp_script_machine.specs.StateLaws.{either}

put_at : {X A : Type 0} (f : X → A) (key : A → ℕ) (x : X) (ys : List X) → map f (insert ys (place_for key (key (f x)) (map f ys)) x) ≡ put_in key (f x) (map f ys)
put_at f key x [] = refl
put_at f key x (y ∷ ys) = elim (either (nat_le (key (f x)) (key (f y)))) [
  | inl h ↦ rw h refl
  | inr h ↦ rw h (ap (λ zs. f y ∷ zs) (put_at f key x ys))
]

turned_at : {X A : Type 0} (f : X → A) (key : A → ℕ) (ys : List X) (x : X) (place : ℕ) → place ≡ place_for key (key (f x)) (map f ys)
    → map f ((take place ys ++ x ∷ []) ++ drop place ys) ≡ put_in key (f x) (map f ys)
turned_at f key ys x place at =
    ap (map f) (append_assoc (take place ys) (x ∷ []) (drop place ys)) ∙ rw at (put_at f key x ys)

-- the first one is turned to its place among the others
pub turned : {X A : Type 0} (f : X → A) (key : A → ℕ) (xs ys : List X) (x : X) (place : ℕ) (rot : List X) → xs ≡ x ∷ ys → place ≡ place_for key (key (f x)) (map f ys)
    → rot ≡ drop 1 (take (place + 1) xs) ++ take 1 (take (place + 1) xs) → map f (rot ++ drop (place + 1) xs) ≡ first_put key (map f xs)
turned f key xs ys x place rot split at is = rw (is, split, add-one) (turned_at f key ys x place at)

first_put_after : {A : Type 0} (key : A → ℕ) (i : ℕ) (was now : List A) → i < length was → now ≡ take (suc i) was ++ rising key (drop (suc i) was)
    → take i now ++ first_put key (drop i now) ≡ take i was ++ rising key (drop i was)
first_put_after key i [] now h split = absurd (omega arith)
first_put_after key zero (x ∷ xs) now h split = rw split refl
first_put_after key (suc i) (x ∷ xs) now h split = rw split (ap (λ ys. x ∷ ys) (first_put_after key i xs (take (suc i) xs ++ rising key (drop (suc i) xs)) (omega arith) refl))

-- one more stands by rising id: the part from it on had its first one put among the others
pub risen : {X A : Type 0} (f : X → A) (key : A → ℕ) (was now new : List X) (first i : ℕ) → first ≡ suc i → first ≤ length was → length now ≡ length was
    → map f now ≡ map f (take first was) ++ rising key (map f (drop first was))
    → map f new ≡ first_put key (map f (mid_of i (length now - i) now))
    → map f (put_mid i (length now - i) now new) ≡ map f (take i was) ++ rising key (map f (drop i was))
risen f key was now new first i next within long before put =
    let left = length-drop i now in
    let rest : mid_of i (length now - i) now ≡ drop i now = take_all (length now - i) (drop i now) (omega (arith, left)) in
    let past : drop (length now - i) (drop i now) ≡ [] = drop_all (length now - i) (drop i now) (omega (arith, left)) in
    let whole : put_mid i (length now - i) now new ≡ take i now ++ new = ap (λ l. take i now ++ l) (ap (λ l. new ++ l) past ∙ append-nil new) in
    let part : map f new ≡ first_put key (drop i (map f now)) = put ∙ ap (λ l. first_put key (map f l)) rest ∙ ap (first_put key) (sym (drop-map f i now)) in
    let above = rw next at before in
    let split : map f now ≡ take (suc i) (map f was) ++ rising key (drop (suc i) (map f was)) =
    above ∙ ap₂ (λ u v. u ++ rising key v) (sym (take-map f (suc i) was)) (sym (drop-map f (suc i) was)) in
    let lt : i < length (map f was) = omega (arith, length-map was f) in
    ap (map f) whole ∙ map-append f (take i now) new ∙ ap₂ (λ u v. u ++ v) (sym (take-map f i now)) part
    ∙ first_put_after key i (map f was) (map f now) lt split ∙ ap₂ (λ u v. u ++ rising key v) (take-map f i was) (drop-map f i was)

-- the lists of a script, each put by rising id
pub put_together : (s : ScriptPart) (groups : List GroupPart) (classes : List ClassPart) (objects : List ObjectPart) (threads : List ThreadPart) (modules : List ModulePart)
    → groups ≡ rising (λ (g : GroupPart). g.id) s.groups → classes ≡ map class_arranged (rising (λ (c : ClassPart). c.id) s.classes)
    → objects ≡ rising (λ (o : ObjectPart). o.id) s.objects → threads ≡ rising (λ (t : ThreadPart). t.id) s.threads
    → modules ≡ rising (λ (m : ModulePart). m.id) s.modules
    → record s { groups = groups; classes = classes; objects = objects; threads = threads; modules = modules } ≡ arranged s
put_together s groups classes objects threads modules g c o t m = rw (g, c, o, t, m) refl
