-- The last code indexes of methods, as a map keeps them.
use Rattle.std.proofs.Common.{◌≡◌, ℕ, ◌+◌, ◌<◌, cond, ◌&&◌, ◌==◌, List, ◌∷◌, length, get_or, drop, map, Option, Some, Ordering, refl, sym, ap, ◌∙◌}
use Rattle.std.specs.declared.cmp.Ordering.TheVariants.{Less, Equal, Greater}
use Rattle.std.specs.Ordering.{nat_cmp, is_eq, ordering_then}
use Rattle.std.specs.Cmp.{unsigned_tied}
use Rattle.std.specs.BTreeMap.{BTreeMap, Updates}
use Rattle.std.proofs.lemmas.List.{drop_more}
use Rattle.jdwp_script.specs.declared.script.Method.{Method}
use Rattle.jdwp_script.specs.Meanings.{method_part}
use Rattle.jdwp_script.specs.IdSets.{pair_cmp, last_by}
use Rattle.jdwp_script.specs.References.{with_method, with_methods}

both_equal : (a b : Ordering) → is_eq (ordering_then a b) ≡ (is_eq a && is_eq b)
both_equal Less b = refl
both_equal Equal b = refl
both_equal Greater b = refl

same_pair : (c m x y : ℕ) → is_eq (pair_cmp (c, m) (x, y)) ≡ ((c == x) && (m == y))
same_pair c m x y = both_equal (nat_cmp c x) (nat_cmp m y) ∙ (λ i. unsigned_tied c x i && unsigned_tied m y i)

-- a map gains the method of a class
pub last_more : (old new : BTreeMap (ℕ × ℕ) ℕ) (c : ℕ) (m : Method) → Updates pair_cmp old new (c, m.id.0) (Some m.last) → last_by new ≡ with_method c (method_part m) (last_by old)
last_more old new c m u = λ i x y. (u.0 (x, y) ∙ ap (λ b. cond b (Some m.last) (last_by old x y)) (same_pair c m.id.0 x y)) i

pub methods_more : (old new : BTreeMap (ℕ × ℕ) ℕ) (c : ℕ) (ms : List Method) (i : ℕ) (m : Method) (total : ℕ → ℕ → Option ℕ) → i < length ms → m ≡ get_or ms i m → Updates pair_cmp old new (c, m.id.0) (Some m.last)
    → with_methods c (map method_part (drop i ms)) (last_by old) ≡ total → with_methods c (map method_part (drop (i + 1) ms)) (last_by new) ≡ total
methods_more old new c ms i m total lt is u so_far =
    let next : drop i ms ≡ m ∷ drop (i + 1) ms = drop_more ms i m lt ∙ ap (λ n. n ∷ drop (i + 1) ms) (sym is) in
    let one : with_methods c (map method_part (drop i ms)) (last_by old) ≡ with_methods c (map method_part (drop (i + 1) ms)) (with_method c (method_part m) (last_by old)) = ap (λ ns. with_methods c (map method_part ns) (last_by old)) next in
    ap (λ (f : ℕ → ℕ → Option ℕ). with_methods c (map method_part (drop (i + 1) ms)) f) (last_more old new c m u) ∙ sym one ∙ so_far
