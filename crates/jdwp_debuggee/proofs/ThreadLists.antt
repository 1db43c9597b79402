-- counts in lists of threads
use Rattle.std.proofs.Common.{◌≡◌, ℕ, ◌==◌, ◌+◌, ◌≤◌, true, false, ◌||◌, cond, Option, Some, None, List, [], ◌∷◌, ◌++◌, map, refl, sym, ◌∙◌, subst, arith}
use Rattle.std.specs.List.{list_any, filter}
use Rattle.std.specs.Option.{option_or}
use Rattle.std.proofs.lemmas.Bool.{eqb-true, eq-eqb, eqb-false}
use Rattle.jdwp_debuggee.specs.State.{Thread, thread_in, count_by, count_in, is_other, marked}

pub count-append : (ts us : List Thread) (t : ℕ) → count_in (ts ++ us) t ≡ option_or (count_in ts t) (count_in us t)
count-append [] us t = refl
count-append (p ∷ ps) us t =
    elim (p.id == t) as (λ b. count_by (cond b (Some p) (thread_in (ps ++ us) t)) ≡ option_or (count_by (cond b (Some p) (thread_in ps t))) (count_in us t)) [
      | true ↦ refl
      | false ↦ count-append ps us t
    ]

pub count-marked : (u : ℕ) (ts : List Thread) (t : ℕ) → count_in (map (marked u) ts) t ≡ count_in ts t
count-marked u [] t = refl
count-marked u (p ∷ ps) t =
    elim (p.id == u) as (λ b. count_by (cond ((cond b (record p { death_reported = true }) p).id == t) (Some (cond b (record p { death_reported = true }) p)) (thread_in (map (marked u) ps) t)) ≡ count_by (cond (p.id == t) (Some p) (thread_in ps t))) [
      | true ↦ elim (p.id == t) as (λ b. count_by (cond b (Some (record p { death_reported = true })) (thread_in (map (marked u) ps) t)) ≡ count_by (cond b (Some p) (thread_in ps t))) [ true ↦ refl | false ↦ count-marked u ps t ]
      | false ↦ elim (p.id == t) as (λ b. count_by (cond b (Some p) (thread_in (map (marked u) ps) t)) ≡ count_by (cond b (Some p) (thread_in ps t))) [ true ↦ refl | false ↦ count-marked u ps t ]
    ]

pub count-without : (u : ℕ) (ts : List Thread) (t : ℕ) → count_in (filter (is_other u) ts) t ≡ cond (t == u) None (count_in ts t)
count-without u [] t = elim (t == u) as (λ b. let n : Option ℕ = None in n ≡ cond b n n) [ true ↦ refl | false ↦ refl ]
count-without u (p ∷ ps) t =
    elim (p.id == u) as (λ b. (p.id == u) ≡ b → count_in (cond (cond b false true) (p ∷ filter (is_other u) ps) (filter (is_other u) ps)) t ≡ cond (t == u) None (count_by (cond (p.id == t) (Some p) (thread_in ps t)))) [
      | true ↦ λ e. count-without u ps t ∙ elim (p.id == t) as (λ b. (p.id == t) ≡ b → cond (t == u) None (count_in ps t) ≡ cond (t == u) None (count_by (cond b (Some p) (thread_in ps t)))) [
        | true ↦ λ h. let k : (t == u) ≡ true = eq-eqb t u (sym (eqb-true p.id t h) ∙ eqb-true p.id u e) in rw k refl
        | false ↦ λ _. refl
      ] refl
      | false ↦ λ e. elim (p.id == t) as (λ b. (p.id == t) ≡ b → count_by (cond b (Some p) (thread_in (filter (is_other u) ps) t)) ≡ cond (t == u) None (count_by (cond b (Some p) (thread_in ps t)))) [
        | true ↦ λ h. let k : (t == u) ≡ false = subst (λ x. (x == u) ≡ false) (eqb-true p.id t h) e in rw k refl
        | false ↦ λ _. count-without u ps t
      ] refl
    ] refl

-- where nobody stands at the limit, no live thread does
pub below-limit : (limit : ℕ) (ts : List Thread) (t n : ℕ) → list_any (λ (entry : Thread). entry.suspend_count == limit) ts ≡ false → count_in ts t ≡ Some n → (n == limit) ≡ false
below-limit limit [] t n h e = absurd (cc)
below-limit limit (p ∷ ps) t n h e =
    elim (p.suspend_count == limit) as (λ b. (p.suspend_count == limit) ≡ b → (b || list_any (λ (entry : Thread). entry.suspend_count == limit) ps) ≡ false → (n == limit) ≡ false) [
      | true ↦ λ _ x. absurd (cc)
      | false ↦ λ k x. elim (p.id == t) as (λ b. count_by (cond b (Some p) (thread_in ps t)) ≡ Some n → (n == limit) ≡ false) [
        | true ↦ λ y. let q : p.suspend_count ≡ n = cc in subst (λ z. (z == limit) ≡ false) q k
        | false ↦ λ y. below-limit limit ps t n x y
      ] e
    ] refl h

pub under-limit : (n limit : ℕ) → n ≤ limit → (n == limit) ≡ false → n + 1 ≤ limit
under-limit n limit h e = let ne : n ≡ limit → ⊥ = eqb-false n limit e in omega arith
