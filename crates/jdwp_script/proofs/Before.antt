-- What parts name that has to stand before them.
use Rattle.std.proofs.Common.{◌≡◌, ℕ, ◌+◌, ◌<◌, Bool, true, false, not, ◌||◌, ◌==◌, List, ◌∷◌, length, get_or, drop, map, refl, sym, ap, ◌∙◌}
use Rattle.std.specs.Ordering.{nat_cmp}
use Rattle.std.specs.List.{list_any}
use Rattle.std.specs.BTreeSet.{BTreeSet, Updates}
use Rattle.std.proofs.lemmas.List.{drop_more}
use Rattle.jdwp_value.specs.declared.id.ReferenceTypeId.{ReferenceTypeId}
use Rattle.jdwp_script.specs.declared.script.Group.{Group}
use Rattle.jdwp_script.specs.declared.script.Class.{Class}
use Rattle.jdwp_script.specs.Meanings.{group_part, class_part}
use Rattle.jdwp_script.specs.IdSets.{has}
use Rattle.jdwp_script.specs.References.{is_lost, or_id, groups_lost, types_lost}
use Rattle.jdwp_script.proofs.Sets.{has_more}

pub front_of : {A : Type 0} (xs : List A) (i : ℕ) (x : A) → i < length xs → x ≡ get_or xs i x → drop i xs ≡ x ∷ drop (i + 1) xs
front_of xs i x lt is = drop_more xs i x lt ∙ ap (λ y. y ∷ drop (i + 1) xs) (sym is)

or_of : (a b c : Bool) → a ≡ false → b ≡ false → (a || (b || c)) ≡ c
or_of a b c not_a not_b = rw (not_a, not_b) refl

pub groups_more : (old new : BTreeSet ℕ) (gs : List Group) (i : ℕ) (g : Group) (total : Bool) → i < length gs → g ≡ get_or gs i g → (g.id.0 == 0) ≡ false → is_lost (has old) g.parent.0 ≡ false → Updates nat_cmp old new g.id.0 true
    → groups_lost (has old) (map group_part (drop i gs)) ≡ total → groups_lost (has new) (map group_part (drop (i + 1) gs)) ≡ total
groups_more old new gs i g total lt is some known u so_far =
    let rest = map group_part (drop (i + 1) gs) in
    let one : groups_lost (has old) (map group_part (drop i gs)) ≡ groups_lost (or_id g.id.0 (has old)) rest =
    ap (λ ns. groups_lost (has old) (map group_part ns)) (front_of gs i g lt is) ∙ or_of (g.id.0 == 0) (is_lost (has old) g.parent.0) (groups_lost (or_id g.id.0 (has old)) rest) some known in
    let gained : groups_lost (has new) rest ≡ groups_lost (or_id g.id.0 (has old)) rest = λ j. groups_lost (λ q. has_more old new g.id.0 u q j) rest in
    gained ∙ sym one ∙ so_far

or_three : (a b c d : Bool) → a ≡ false → b ≡ false → c ≡ false → (a || (b || (c || d))) ≡ d
or_three a b c d not_a not_b not_c = rw (not_a, not_b, not_c) refl

abbrev pub lacks : BTreeSet ℕ → List ReferenceTypeId → Bool
lacks set ids = list_any (λ n. not (has set n)) (map (λ (id : ReferenceTypeId). id.0) ids)

pub types_more : (old new : BTreeSet ℕ) (cs : List Class) (i : ℕ) (c : Class) (total : Bool) → i < length cs → c ≡ get_or cs i c → (c.id.0 == 0) ≡ false → is_lost (has old) c.superclass.0 ≡ false → lacks old c.interfaces.items ≡ false → Updates nat_cmp old new c.id.0 true
    → types_lost (has old) (map class_part (drop i cs)) ≡ total → types_lost (has new) (map class_part (drop (i + 1) cs)) ≡ total
types_more old new cs i c total lt is some known all u so_far =
    let rest = map class_part (drop (i + 1) cs) in
    let one : types_lost (has old) (map class_part (drop i cs)) ≡ types_lost (or_id c.id.0 (has old)) rest =
    ap (λ ns. types_lost (has old) (map class_part ns)) (front_of cs i c lt is) ∙ or_three (c.id.0 == 0) (is_lost (has old) c.superclass.0) (lacks old c.interfaces.items) (types_lost (or_id c.id.0 (has old)) rest) some known all in
    let gained : types_lost (has new) rest ≡ types_lost (or_id c.id.0 (has old)) rest = λ j. types_lost (λ q. has_more old new c.id.0 u q j) rest in
    gained ∙ sym one ∙ so_far
