-- Proofs about the classes that a class reaches, found layer by layer.
use Rattle.std.proofs.Common.{◌≡◌, ℕ, zero, suc, ◌+◌, ◌<◌, ◌≤◌, ◌-◌, subst, ◌==◌, ◌||◌, Bool, true, false, List, [], ◌∷◌, length, get_or, take, Option, Some, None, refl, sym, ap, ◌∙◌, ◌⊎◌, inl, inr}
use Rattle.std.proofs.Math.Nat.{sub-add_cancel, suc-add, zero-add}
use Rattle.std.proofs.lemmas.Bool.{eqb-true, eq-eqb, false≢true}
use Rattle.std.proofs.lemmas.List.{nil_from_length}
use Rattle.std.proofs.lemmas.List.Folds.{list_any_more}
use Rattle.std.specs.BTreeSet.{BTreeSet}
use Rattle.std.specs.List.{list_any}
use Rattle.jdwp_script.specs.Parts.{ClassPart, ScriptPart}
use Rattle.jdwp_script_machine.specs.Sites.{class_in, class_above, reaches_within}
use Rattle.jdwp_script_machine.specs.Layers.{has, Gains, is_in, is_above, some_above}
use Rattle.jdwp_script_machine.proofs.Sets.{gains_more, gains_none}

-- ---- tests

or_left : (a b : Bool) → a ≡ true → (a || b) ≡ true
or_left true b h = refl
or_left false b h = absurd (false≢true h)

or_right : (a b : Bool) → b ≡ true → (a || b) ≡ true
or_right true b h = refl
or_right false b h = h

or_either : (a b : Bool) → (a || b) ≡ true → (a ≡ true) ⊎ (b ≡ true)
or_either true b h = inl refl
or_either false b h = inr h

same_test : (a b : Bool) → (a ≡ true → b ≡ true) → (b ≡ true → a ≡ true) → a ≡ b
same_test true b f g = sym (f refl)
same_test false true f g = absurd (false≢true (g refl))
same_test false false f g = refl

-- what passes in a list, for whoever uses it
any_gives : (p : ℕ → Bool) (P : Type 0) (xs : List ℕ) → ((x : ℕ) → p x ≡ true → is_in xs x ≡ true → P) → list_any p xs ≡ true → P
any_gives p P [] use-it h = absurd (false≢true h)
any_gives p P (x ∷ xs) use-it h = elim (or_either (p x) (list_any p xs) h) [
  | inl k ↦ use-it x k (or_left (x == x) (is_in xs x) (eq-eqb x x refl))
  | inr k ↦ any_gives p P xs (λ y passes there. use-it y passes (or_right (x == y) (is_in xs y) there)) k
]

any_from : (p : ℕ → Bool) (xs : List ℕ) (x : ℕ) → is_in xs x ≡ true → p x ≡ true → list_any p xs ≡ true
any_from p [] x there passes = absurd (false≢true there)
any_from p (y ∷ ys) x there passes = elim (or_either (y == x) (is_in ys x) there) [
  | inl k ↦ or_left (p y) (list_any p ys) (ap p (eqb-true y x k) ∙ passes)
  | inr k ↦ or_right (p y) (list_any p ys) (any_from p ys x k passes)
]

-- ---- what stands above a class

above_gives : (p : ℕ → Bool) (P : Type 0) (class : Option ClassPart) → ((n : ℕ) → p n ≡ true → is_above class n ≡ true → P) → class_above p class ≡ true → P
above_gives p P None use-it h = absurd (false≢true h)
above_gives p P (Some c) use-it h = elim (or_either (p c.superclass) (list_any p c.interfaces) h) [
  | inl k ↦ use-it c.superclass k (or_left (c.superclass == c.superclass) (is_in c.interfaces c.superclass) (eq-eqb c.superclass c.superclass refl))
  | inr k ↦ any_gives p P c.interfaces (λ n passes there. use-it n passes (or_right (c.superclass == n) (is_in c.interfaces n) there)) k
]

above_from : (p : ℕ → Bool) (class : Option ClassPart) (n : ℕ) → p n ≡ true → is_above class n ≡ true → class_above p class ≡ true
above_from p None n passes h = absurd (false≢true h)
above_from p (Some c) n passes h = elim (or_either (c.superclass == n) (is_in c.interfaces n) h) [
  | inl k ↦ or_left (p c.superclass) (list_any p c.interfaces) (ap p (eqb-true c.superclass n k) ∙ passes)
  | inr k ↦ or_right (p c.superclass) (list_any p c.interfaces) (any_from p c.interfaces n k passes)
]

above_keeps : (p q : ℕ → Bool) (class : Option ClassPart) → ((n : ℕ) → p n ≡ true → q n ≡ true) → class_above p class ≡ true → class_above q class ≡ true
above_keeps p q class more h = above_gives p (class_above q class ≡ true) class (λ n passes up. above_from q class n (more n passes) up) h

-- ---- one superclass or interface more

reach_more : (script : ScriptPart) (k to from : ℕ) → reaches_within script k to from ≡ true → reaches_within script (suc k) to from ≡ true
reach_more script zero to from h = or_left (from == to) (class_above (reaches_within script zero to) (class_in script from)) h
reach_more script (suc k) to from h = elim (or_either (from == to) (class_above (reaches_within script k to) (class_in script from)) h) [
  | inl e ↦ or_left (from == to) (class_above (reaches_within script (suc k) to) (class_in script from)) e
  | inr up ↦ or_right (from == to) (class_above (reaches_within script (suc k) to) (class_in script from)) (above_keeps (reaches_within script k to) (reaches_within script (suc k) to) (class_in script from) (λ n. reach_more script k to n) up)
]

-- at the far end
reach_above : (script : ScriptPart) (k x y from : ℕ) → reaches_within script k x from ≡ true → is_above (class_in script x) y ≡ true → reaches_within script (suc k) y from ≡ true
reach_above script zero x y from h up =
    let e : from ≡ x = eqb-true from x h in
    or_right (from == y) (class_above (reaches_within script zero y) (class_in script from)) (ap (λ (n : ℕ). is_above (class_in script n) y) e ∙ up)
reach_above script (suc k) x y from h up = elim (or_either (from == x) (class_above (reaches_within script k x) (class_in script from)) h) [
  | inl k' ↦
      let e : from ≡ x = eqb-true from x k' in
      let here : is_above (class_in script from) y ≡ true = ap (λ (n : ℕ). is_above (class_in script n) y) e ∙ up in
      or_right (from == y) (class_above (reaches_within script (suc k) y) (class_in script from))
      (above_keeps (λ n. n == y) (reaches_within script (suc k) y) (class_in script from) (λ n same. or_left (n == y) (class_above (reaches_within script k y) (class_in script n)) same) here)
  | inr above ↦
      or_right (from == y) (class_above (reaches_within script (suc k) y) (class_in script from))
      (above_keeps (reaches_within script k x) (reaches_within script (suc k) y) (class_in script from) (λ n reached. reach_above script k x y n reached up) above)
]

-- what is reached so is reached by less, or stands above what is
reach_gives : (script : ScriptPart) (k y from : ℕ) (P : Type 0) → (reaches_within script k y from ≡ true → P)
    → ((x : ℕ) → reaches_within script k x from ≡ true → is_above (class_in script x) y ≡ true → P) → reaches_within script (suc k) y from ≡ true → P
reach_gives script zero y from P less more h = elim (or_either (from == y) (class_above (reaches_within script zero y) (class_in script from)) h) [
  | inl e ↦ less e
  | inr up ↦ more from (eq-eqb from from refl) up
]
reach_gives script (suc k) y from P less more h = elim (or_either (from == y) (class_above (reaches_within script (suc k) y) (class_in script from)) h) [
  | inl e ↦ less (or_left (from == y) (class_above (reaches_within script k y) (class_in script from)) e)
  | inr up ↦
      above_gives (reaches_within script (suc k) y) P (class_in script from)
      (λ n reached above_from_here. reach_gives script k y n P
      (λ by_less. less (or_right (from == y) (class_above (reaches_within script k y) (class_in script from)) (above_from (reaches_within script k y) (class_in script from) n by_less above_from_here)))
      (λ x by_less above_x. more x (or_right (from == x) (class_above (reaches_within script k x) (class_in script from)) (above_from (reaches_within script k x) (class_in script from) n by_less above_from_here)) above_x)
      reached)
      up
]

-- ---- layers

-- A set has what is reached by so many superclasses and interfaces at most; all of it but the layer has what stands above it there, too.
pub record IsLayered (script : ScriptPart) (from k : ℕ) (found : BTreeSet ℕ) (layer : List ℕ) : Type 0 where
  pub reached : (x : ℕ) → has found x ≡ reaches_within script k x from
  pub within : (x : ℕ) → is_in layer x ≡ true → has found x ≡ true
  pub closed : (x y : ℕ) → has found x ≡ true → is_above (class_in script x) y ≡ true → (has found y || is_in layer x) ≡ true

module _ (script : ScriptPart) (from k : ℕ) (found found' : BTreeSet ℕ) (layer next : List ℕ) (h : IsLayered script from k found layer) (above : Gains found found' (some_above script layer)) (listed : Gains found found' (is_in next)) where
  next_reached : (y : ℕ) → has found' y ≡ reaches_within script (suc k) y from
  next_reached y =
      same_test (has found' y) (reaches_within script (suc k) y from)
      (λ (there : has found' y ≡ true). elim (or_either (has found y) (some_above script layer y) (sym (above y) ∙ there)) [
        | inl old ↦ reach_more script k y from (sym (h.reached y) ∙ old)
        | inr new ↦ any_gives (λ x. is_above (class_in script x) y) (reaches_within script (suc k) y from ≡ true) layer
            (λ x up in_layer. reach_above script k x y from (sym (h.reached x) ∙ h.within x in_layer) up) new
      ])
      (reach_gives script k y from (has found' y ≡ true)
      (λ less. above y ∙ or_left (has found y) (some_above script layer y) (h.reached y ∙ less))
      (λ x less up. above y ∙ elim (or_either (has found y) (is_in layer x) (h.closed x y (h.reached x ∙ less) up)) [
        | inl old ↦ or_left (has found y) (some_above script layer y) old
        | inr in_layer ↦ or_right (has found y) (some_above script layer y) (any_from (λ n. is_above (class_in script n) y) layer x in_layer up)
      ]))

  next_within : (x : ℕ) → is_in next x ≡ true → has found' x ≡ true
  next_within x there = listed x ∙ or_right (has found x) (is_in next x) there

  next_closed : (x y : ℕ) → has found' x ≡ true → is_above (class_in script x) y ≡ true → (has found' y || is_in next x) ≡ true
  next_closed x y there up = elim (or_either (has found x) (is_in next x) (sym (listed x) ∙ there)) [
    | inl old ↦ or_left (has found' y) (is_in next x) (above y ∙ elim (or_either (has found y) (is_in layer x) (h.closed x y old up)) [
      | inl was ↦ or_left (has found y) (some_above script layer y) was
      | inr in_layer ↦ or_right (has found y) (some_above script layer y) (any_from (λ n. is_above (class_in script n) y) layer x in_layer up)
    ])
    | inr new ↦ or_right (has found' y) (is_in next x) new
  ]

  pub next_layered : IsLayered script from (suc k) found' next
  next_layered = record { reached = next_reached; within = next_within; closed = next_closed }

-- with nothing in the last layer, more layers find no more
settled : (script : ScriptPart) (from k : ℕ) (found : BTreeSet ℕ) → IsLayered script from k found [] → (n : ℕ) → IsLayered script from (n + k) found []
settled script from k found h zero = subst (λ (n : ℕ). IsLayered script from n found []) (sym (zero-add k)) h
settled script from k found h (suc n) =
    subst (λ (m : ℕ). IsLayered script from m found []) (sym (suc-add n k))
    (next_layered script from (n + k) found found [] [] (settled script from k found h n) (gains_none found (some_above script []) (λ _. refl)) (gains_none found (is_in []) (λ _. refl)))

pub reached_at : (script : ScriptPart) (from k most : ℕ) (found : BTreeSet ℕ) (layer : List ℕ) → length layer ≡ 0 → k ≤ most → IsLayered script from k found layer → (x : ℕ) → has found x ≡ reaches_within script most x from
reached_at script from k most found layer none le h x =
    let last : IsLayered script from k found [] = subst (λ (ns : List ℕ). IsLayered script from k found ns) (nil_from_length layer none) h in
    subst (λ (n : ℕ). has found x ≡ reaches_within script n x from) (sub-add_cancel le) ((settled script from k found last (most - k)).reached x)

-- at the beginning
pub first_layered : (script : ScriptPart) (from : ℕ) (none found : BTreeSet ℕ) (layer : List ℕ) → ((n : ℕ) → has none n ≡ false) → Gains none found (λ n. from == n) → Gains none found (is_in layer)
    → IsLayered script from 0 found layer
first_layered script from none found layer nothing gained listed = record {
  reached = λ x. gained x ∙ ap (λ b. b || (from == x)) (nothing x);
  within = λ x there. listed x ∙ or_right (has none x) (is_in layer x) there;
  closed = λ x y there up. or_right (has found y) (is_in layer x) (sym (listed x ∙ ap (λ b. b || is_in layer x) (nothing x)) ∙ there);
}

-- ---- what the code finds

pub above_one : (script : ScriptPart) (before old new : BTreeSet ℕ) (layer : List ℕ) (i : ℕ) → i < length layer → Gains before old (some_above script (take i layer)) → Gains old new (is_above (class_in script (get_or layer i 0)))
    → Gains before new (some_above script (take (i + 1) layer))
above_one script before old new layer i lt first then_ =
    gains_more before old new (some_above script (take i layer)) (is_above (class_in script (get_or layer i 0))) (some_above script (take (i + 1) layer)) first then_
    (λ n. list_any_more (λ (from : ℕ). is_above (class_in script from) n) layer i 0 lt)

pub above_found : (script : ScriptPart) (id : ℕ) (class : ClassPart) (old mid new : BTreeSet ℕ) → Some class ≡ class_in script id → Gains old mid (λ n. class.superclass == n) → Gains mid new (is_in class.interfaces)
    → Gains old new (is_above (class_in script id))
above_found script id class old mid new there first then_ =
    gains_more old mid new (λ n. class.superclass == n) (is_in class.interfaces) (is_above (class_in script id)) first then_ (λ n. ap (λ (o : Option ClassPart). is_above o n) (sym there))
