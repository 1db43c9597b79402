-- What a loop has picked of a list, and what is left of it to pick from.
use Rattle.std.proofs.Common.{◌≡◌, ◌∙◌, ap, List, [], ◌∷◌, ◌++◌, map, Bool, true, false, Option, Some, None, Result, Ok, Err, append_assoc}
use Rattle.std.specs.Prelude.{IfErr}
use Rattle.std.specs.List.{filter, filter_map}

not_empty : {Y : Type 0} (kept : List Y) (y : Y) (ys : List Y) → kept ++ y ∷ ys ≡ [] → ⊥
not_empty [] y ys e = cc
not_empty (k ∷ ks) y ys e = cc

pub if_err : {X E : Type 0} (P : Type 0) (r : Result X E) → P → IfErr r (λ _. P)
if_err P (Ok x) p = tt
if_err P (Err e) p = p

-- ---- by what an element is, if it is anything

module _ {X Y : Type 0} (of : X → Option Y) (kept all : List Y) (x : X) (xs : List X) where
  pub found_none : None ≡ of x → kept ++ filter_map of (x ∷ xs) ≡ all → kept ++ filter_map of xs ≡ all
  found_none none so_far = rw (← none) at so_far

  pub found_one : (y : Y) → Some y ≡ of x → kept ++ filter_map of (x ∷ xs) ≡ all → (kept ++ y ∷ []) ++ filter_map of xs ≡ all
  found_one y is so_far = append_assoc kept (y ∷ []) (filter_map of xs) ∙ (rw (← is) at so_far)

  pub has_one : (y : Y) → Some y ≡ of x → kept ++ filter_map of (x ∷ xs) ≡ all → all ≡ [] → ⊥
  has_one y is so_far none = not_empty kept y (filter_map of xs) ((rw (← is) at so_far) ∙ none)

-- ---- by a test

module _ {X Y : Type 0} (test : X → Bool) (of : X → Y) (kept : List Y) (x : X) (xs all : List X) where
  pub passed_over : test x ≡ false → kept ++ map of (filter test (x ∷ xs)) ≡ map of all → kept ++ map of (filter test xs) ≡ map of all
  passed_over fails so_far = rw fails at so_far

  pub picked : test x ≡ true → kept ++ map of (filter test (x ∷ xs)) ≡ map of all → (kept ++ of x ∷ []) ++ map of (filter test xs) ≡ map of all
  picked holds so_far = append_assoc kept (of x ∷ []) (map of (filter test xs)) ∙ (rw holds at so_far)

  pub picks_one : test x ≡ true → kept ++ map of (filter test (x ∷ xs)) ≡ map of all → all ≡ [] → ⊥
  picks_one holds so_far none = not_empty kept (of x) (map of (filter test xs)) ((rw holds at so_far) ∙ ap (map of) none)
