-- small facts on tests, options and lists
use Rattle.std.proofs.Common.{◌≡◌, ℕ, ◌+◌, ◌<◌, ◌≤◌, length, Bool, true, false, ◌&&◌, cond, not, Option, Some, None, List, [], ◌∷◌, ◌++◌, refl, ap, arith}
use Rattle.std.specs.List.{filter}
use Rattle.std.proofs.lemmas.List.Filters.{length-filter_both}
use Rattle.std.specs.Option.{option_map}
use Rattle.jdwp_event.specs.Requests.{AskedRequest, Request, all_asked}
use Rattle.jdwp_debuggee.specs.Facts.{AreBelow}

pub and-true : (b : Bool) → b ≡ (b && true)
and-true true = refl
and-true false = refl

pub and-false : (b : Bool) → false ≡ (b && false)
and-false true = refl
and-false false = refl

pub and-left : (a b : Bool) → (a && b) ≡ true → a ≡ true
and-left true b h = refl
and-left false b h = h

pub and-right : (a b : Bool) → (a && b) ≡ true → b ≡ true
and-right true b h = h
and-right false b h = absurd (cc)

pub is-not-true : (b : Bool) → not b ≡ true → b ≡ false
is-not-true true h = absurd (cc)
is-not-true false h = refl

pub some-same : (t u : ℕ) → Some t ≡ Some u → t ≡ u
some-same t u h = cc

pub map-same : (c : Option ℕ) → c ≡ option_map (λ n. n) c
map-same None = refl
map-same (Some n) = refl

pub asked-append : (xs ys : List Request) → all_asked (xs ++ ys) ≡ all_asked xs ++ all_asked ys
asked-append [] ys = refl
asked-append (x ∷ xs) ys = ap (λ l. x.asked ∷ l) (asked-append xs ys)

pub asked-filter : (p : AskedRequest → Bool) (rs : List Request) → all_asked (filter (λ (r : Request). p r.asked) rs) ≡ filter p (all_asked rs)
asked-filter p [] = refl
asked-filter p (r ∷ rs) =
    elim (p r.asked) as (λ b. all_asked (cond b (r ∷ filter (λ (x : Request). p x.asked) rs) (filter (λ (x : Request). p x.asked) rs)) ≡ cond b (r.asked ∷ filter p (all_asked rs)) (filter p (all_asked rs))) [
      | true ↦ ap (λ l. r.asked ∷ l) (asked-filter p rs)
      | false ↦ asked-filter p rs
    ]

pub few-filtered : (p : Request → Bool) (rs : List Request) → length (filter p rs) ≤ length rs
few-filtered p rs = let e = length-filter_both p (λ (r : Request). not (p r)) (λ _. refl) rs in omega (arith, e)

pub below-filter : (n : ℕ) (p : AskedRequest → Bool) (rs : List AskedRequest) → AreBelow n rs → AreBelow n (filter p rs)
below-filter n p [] h = tt
below-filter n p (r ∷ rs) h = elim (p r) as (λ b. AreBelow n (cond b (r ∷ filter p rs) (filter p rs))) [ true ↦ (h.0, below-filter n p rs h.1) | false ↦ below-filter n p rs h.1 ]

pub below-more : (n : ℕ) (rs : List AskedRequest) (r : AskedRequest) → r.id ≡ n → AreBelow n rs → AreBelow (n + 1) (rs ++ r ∷ [])
below-more n [] r e h = (omega arith, tt)
below-more n (x ∷ xs) r e h = let l : x.id < n = h.0 in (omega arith, below-more n xs r e h.1)
