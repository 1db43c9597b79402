-- Proofs about sets of ids that gain some.
use Rattle.std.proofs.Common.{◌≡◌, ℕ, ◌+◌, ◌<◌, ◌==◌, ◌||◌, Bool, true, false, cond, List, [], ◌∷◌, length, get_or, take, map, refl, sym, ap, ◌∙◌}
use Rattle.std.proofs.lemmas.List.Folds.{list_any_more}
use Rattle.std.specs.Ordering.{nat_cmp}
use Rattle.std.specs.Cmp.{unsigned_tied}
use Rattle.std.specs.BTreeSet.{BTreeSet, Updates}
use Rattle.std.specs.List.{list_any}
use Rattle.jdwp_value.specs.declared.id.ReferenceTypeId.{ReferenceTypeId}
use Rattle.jdwp_script_machine.specs.Layers.{has, Holds, Gains, is_in}

pub or_none : (b : Bool) → (b || false) ≡ b
or_none true = refl
or_none false = refl

cond_or : (a b : Bool) → cond a true b ≡ (b || a)
cond_or true true = refl
cond_or true false = refl
cond_or false true = refl
cond_or false false = refl

-- a set gains a number
pub gains_one : (old new : BTreeSet ℕ) (k : ℕ) → Updates nat_cmp old new k true → Gains old new (λ n. k == n)
gains_one old new k u n = u.0 n ∙ (rw (unsigned_tied k n) (cond_or (k == n) (has old n)))

or_assoc : (a b c : Bool) → ((a || b) || c) ≡ (a || (b || c))
or_assoc true b c = refl
or_assoc false b c = refl

-- one gain after another
pub gains_more : (old mid new : BTreeSet ℕ) (p q r : ℕ → Bool) → Gains old mid p → Gains mid new q → ((n : ℕ) → r n ≡ (p n || q n)) → Gains old new r
gains_more old mid new p q r first then_ both n =
    then_ n ∙ (ap (λ b. b || q n) (first n) ∙ (or_assoc (has old n) (p n) (q n) ∙ ap (λ b. has old n || b) (sym (both n))))

pub gains_none : (old : BTreeSet ℕ) (p : ℕ → Bool) → ((n : ℕ) → p n ≡ false) → Gains old old p
gains_none old p none n = sym (ap (λ b. has old n || b) (none n) ∙ or_none (has old n))

any_map : {A B : Type 0} (f : A → B) (p : B → Bool) (xs : List A) → list_any p (map f xs) ≡ list_any (λ x. p (f x)) xs
any_map f p [] = refl
any_map f p (x ∷ xs) = ap (λ b. p (f x) || b) (any_map f p xs)

-- one element more
pub any_one_more : {X A : Type 0} (f : X → A) (p : A → Bool) (xs : List X) (i : ℕ) (d : X) → i < length xs → list_any p (map f (take (i + 1) xs)) ≡ (list_any p (map f (take i xs)) || p (f (get_or xs i d)))
any_one_more f p xs i d lt =
    any_map f p (take (i + 1) xs) ∙ (list_any_more (λ x. p (f x)) xs i d lt ∙ ap (λ b. b || p (f (get_or xs i d))) (sym (any_map f p (take i xs))))

pub holds_more : (old new : BTreeSet ℕ) (p q r : ℕ → Bool) → Holds old p → Gains old new q → ((n : ℕ) → r n ≡ (p n || q n)) → Holds new r
holds_more old new p q r first then_ both n = then_ n ∙ (ap (λ b. b || q n) (first n) ∙ sym (both n))

-- the numbers of ids
abbrev pub numbers_of : List ReferenceTypeId → List ℕ
numbers_of ids = map (λ (id : ReferenceTypeId). id.0) ids

pub ids_one : (before old new : BTreeSet ℕ) (ids : List ReferenceTypeId) (i : ℕ) (d : ReferenceTypeId) → i < length ids → Gains before old (is_in (numbers_of (take i ids))) → Gains old new (λ n. (get_or ids i d).0 == n)
    → Gains before new (is_in (numbers_of (take (i + 1) ids)))
ids_one before old new ids i d lt first then_ =
    gains_more before old new (is_in (numbers_of (take i ids))) (λ n. (get_or ids i d).0 == n) (is_in (numbers_of (take (i + 1) ids))) first then_
    (λ n. any_one_more (λ (id : ReferenceTypeId). id.0) (λ m. m == n) ids i d lt)
