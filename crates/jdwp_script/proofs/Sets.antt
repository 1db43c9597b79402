-- Sets of ids, and ids that stand twice.
use Rattle.std.proofs.Common.{◌≡◌, ℕ, zero, suc, ◌+◌, ◌-◌, ◌≤◌, ◌<◌, Bool, true, false, cond, not, ◌||◌, ◌==◌, List, [], ◌∷◌, ◌++◌, length, get_or, take, drop, map, refl, sym, ap, ◌∙◌, arith}
use Rattle.std.specs.Ordering.{nat_cmp}
use Rattle.std.specs.Cmp.{unsigned_tied}
use Rattle.std.specs.BTreeSet.{BTreeSet, Updates}
use Rattle.std.specs.List.{count_by, flat_map}
use Rattle.std.proofs.lemmas.List.Concat.{flat_map_single}
use Rattle.std.proofs.lemmas.List.Folds.{list_any_more}
use Rattle.std.proofs.lemmas.List.Sums.{length-filter}
use Rattle.std.proofs.lemmas.List.{drop_more, drop_all}
use Rattle.jdwp_script.specs.Parts.{ThreadPart}
use Rattle.jdwp_script.specs.Limits.{is_in, started, living}
use Rattle.jdwp_script.specs.IdSets.{has, Holds}
use Rattle.jdwp_script.specs.Twice.{is_twice}

or_comm : (a b : Bool) → (a || b) ≡ (b || a)
or_comm true true = refl
or_comm true false = refl
or_comm false true = refl
or_comm false false = refl

cond_or : (a b : Bool) → cond a true b ≡ (a || b)
cond_or true b = refl
cond_or false b = refl

-- a set gains a key
pub has_more : (old new : BTreeSet ℕ) (k : ℕ) → Updates nat_cmp old new k true → (q : ℕ) → has new q ≡ ((k == q) || has old q)
has_more old new k u q = u.0 q ∙ (rw (unsigned_tied k q) (cond_or (k == q) (has old q)))

pub holds_push : (old new : BTreeSet ℕ) (ids : List ℕ) (i : ℕ) → i < length ids → Updates nat_cmp old new (get_or ids i 0) true
    → Holds old (is_in (take i ids)) → Holds new (is_in (take (i + 1) ids))
holds_push old new ids i lt u h q =
    let k = get_or ids i 0 in
    has_more old new k u q ∙ ap (λ b. (k == q) || b) (h q) ∙ or_comm (k == q) (is_in (take i ids) q) ∙ sym (list_any_more (λ m. m == q) ids i 0 lt)

or_true : (b : Bool) → (b || true) ≡ true
or_true true = refl
or_true false = refl

-- what stands before can only add to it
pub twice_before : (ids : List ℕ) (i : ℕ) → is_twice (drop i ids) ≡ true → is_twice ids ≡ true
twice_before [] i h = let e : is_twice (drop i []) ≡ is_twice [] = ap is_twice (drop_all i [] (omega arith)) in sym e ∙ h
twice_before (n ∷ ns) zero h = h
twice_before (n ∷ ns) (suc i) h = rw (twice_before ns i h) (or_true (is_in ns n))

not_false : (b : Bool) → false ≡ not b → b ≡ true
not_false true h = refl
not_false false h = absurd cc

not_true : (b : Bool) → true ≡ not b → b ≡ false
not_true false h = refl
not_true true h = absurd cc

-- ids from the last on: the one before place p, and those from it on
drop_one : (ids : List ℕ) (p : ℕ) → 0 < p → p ≤ length ids → drop (p - 1) ids ≡ get_or ids (p - 1) 0 ∷ drop p ids
drop_one ids p pos le =
    let e : (p - 1) + 1 ≡ p = omega arith in
    let lt : p - 1 < length ids = omega arith in
    drop_more ids (p - 1) 0 lt ∙ ap (λ n. get_or ids (p - 1) 0 ∷ drop n ids) e

module _ (old new : BTreeSet ℕ) (ids : List ℕ) (p : ℕ) (pos : 0 < p) (le : p ≤ length ids) (holds : Holds old (is_in (drop p ids))) where
  pub twice_here : false ≡ not (has old (get_or ids (p - 1) 0)) → is_twice ids ≡ true
  twice_here h =
      let k = get_or ids (p - 1) 0 in
      let had : is_in (drop p ids) k ≡ true = sym (holds k) ∙ not_false (has old k) h in
      let here : is_twice (drop (p - 1) ids) ≡ true = ap is_twice (drop_one ids p pos le) ∙ ap (λ b. b || is_twice (drop p ids)) had in
      twice_before ids (p - 1) here

  pub once_here : true ≡ not (has old (get_or ids (p - 1) 0)) → is_twice (drop p ids) ≡ false → is_twice (drop (p - 1) ids) ≡ false
  once_here h none =
      let k = get_or ids (p - 1) 0 in
      let new_one : is_in (drop p ids) k ≡ false = sym (holds k) ∙ not_true (has old k) h in
      ap is_twice (drop_one ids p pos le) ∙ ap (λ b. b || is_twice (drop p ids)) new_one ∙ none

  pub holds_here : Updates nat_cmp old new (get_or ids (p - 1) 0) true → Holds new (is_in (drop (p - 1) ids))
  holds_here u q =
      let k = get_or ids (p - 1) 0 in
      has_more old new k u q ∙ ap (λ b. (k == q) || b) (holds q) ∙ sym (ap (λ ns. is_in ns q) (drop_one ids p pos le))

-- three lists, appended one after another
pub three_lists : (a b c d g o t g' o' t' : List ℕ) → a ≡ [] → b ≡ a ++ g' → c ≡ b ++ o' → d ≡ c ++ t' → g' ≡ g → o' ≡ o → t' ≡ t → d ≡ (g ++ o) ++ t
three_lists a b c d g o t g' o' t' none first second third is_g is_o is_t = rw (third, second, first, none, is_g, is_o, is_t) refl

-- four lists, in the same way
pub four_lists : (a b c d e g o m t g' o' m' t' : List ℕ) → a ≡ [] → b ≡ a ++ g' → c ≡ b ++ o' → d ≡ c ++ m' → e ≡ d ++ t' → g' ≡ g → o' ≡ o → m' ≡ m → t' ≡ t → e ≡ ((g ++ o) ++ m) ++ t
four_lists a b c d e g o m t g' o' m' t' none first second third fourth is_g is_o is_m is_t = rw (fourth, third, second, first, none, is_g, is_o, is_m, is_t) refl

-- threads that no step starts, counted by a set of those that are started
pub living_count : (set : BTreeSet ℕ) (threads : List ThreadPart) → Holds set (is_in (started threads)) → count_by (λ t. not (has set t.id)) threads ≡ length (living threads)
living_count set threads same =
    let counted : count_by (λ t. not (has set t.id)) threads ≡ count_by (λ t. not (is_in (started threads) t.id)) threads = λ i. count_by (λ (t : ThreadPart). not (same t.id i)) threads in
    counted ∙ sym (length-filter (λ t. not (is_in (started threads) t.id)) threads)

-- ids gathered from parts that have one each
pub id_each : {T P : Type 0} (meaning : T → P) (id : P → ℕ) (items parts : List T) → parts ≡ items → flat_map (λ p. id p ∷ []) (map meaning parts) ≡ map id (map meaning items)
id_each {T} {P} meaning id items parts same = ap (λ (ps : List T). flat_map (λ (p : P). id p ∷ []) (map meaning ps)) same ∙ flat_map_single id (map meaning items)

-- a set of ids is one of the same ids
pub holds_same : (set : BTreeSet ℕ) (ids others : List ℕ) → ids ≡ others → Holds set (is_in ids) → Holds set (is_in others)
holds_same set ids others same h n = h n ∙ ap (λ ns. is_in ns n) same
