-- lists in which no thread stands twice
use Rattle.std.proofs.Common.{◌≡◌, ℕ, ◌==◌, ◌≤◌, true, false, ◌||◌, cond, Some, List, [], ◌∷◌, ◌++◌, map, refl, sym, ◌∙◌, ap, arith, is_some}
use Rattle.std.specs.List.{IsDistinct, AllByRecursion, filter}
use Rattle.std.proofs.lemmas.Bool.{eqb-true, eq-eqb}
use Rattle.jdwp_machine.specs.Meanings.{has}
use Rattle.jdwp_machine.specs.Laws.{AreDistinct}
use Rattle.jdwp_debuggee.specs.Entries.{AllAtMost}
use Rattle.jdwp_debuggee.specs.State.{Thread, changed, count_by, count_in, ids, is_other, marked, thread_in}
use Rattle.jdwp_debuggee.proofs.Ends.{another, distinct-head, distinct-tail}
use Rattle.jdwp_debuggee.specs.ThreadLaws.{has-count}

pub ids-changed : (f : ℕ → ℕ → ℕ) (ts : List Thread) → ids (changed f ts) ≡ ids ts
ids-changed f [] = refl
ids-changed f (p ∷ ps) = ap (λ l. p.id ∷ l) (ids-changed f ps)

pub ids-marked : (u : ℕ) (ts : List Thread) → ids (map (marked u) ts) ≡ ids ts
ids-marked u [] = refl
ids-marked u (p ∷ ps) =
    elim (p.id == u) as (λ b. (cond b (record p { death_reported = true }) p).id ∷ ids (map (marked u) ps) ≡ p.id ∷ ids ps) [
      | true ↦ ap (λ l. p.id ∷ l) (ids-marked u ps)
      | false ↦ ap (λ l. p.id ∷ l) (ids-marked u ps)
    ]

apart-filter : (t u : ℕ) (ts : List Thread) → AllByRecursion (λ (y : ℕ). (t == y) ≡ false) (ids ts) → AllByRecursion (λ (y : ℕ). (t == y) ≡ false) (ids (filter (is_other u) ts))
apart-filter t u [] d = tt
apart-filter t u (p ∷ ps) d =
    elim (is_other u p) as (λ b. AllByRecursion (λ (y : ℕ). (t == y) ≡ false) (ids (cond b (p ∷ filter (is_other u) ps) (filter (is_other u) ps)))) [
      | true ↦ (d.0, apart-filter t u ps d.1)
      | false ↦ apart-filter t u ps d.1
    ]

distinct-more : (t : ℕ) (ts : List ℕ) → AllByRecursion (λ (y : ℕ). (t == y) ≡ false) ts → AreDistinct ts → AreDistinct (t ∷ ts)
unfolding IsDistinct
distinct-more t ts a d = (a, d)

pub distinct-none : AreDistinct []
unfolding IsDistinct
distinct-none = tt

pub distinct-filter : (u : ℕ) (ts : List Thread) → AreDistinct (ids ts) → AreDistinct (ids (filter (is_other u) ts))
distinct-filter u [] d = d
distinct-filter u (p ∷ ps) d =
    elim (is_other u p) as (λ b. AreDistinct (ids (cond b (p ∷ filter (is_other u) ps) (filter (is_other u) ps)))) [
      | true ↦ distinct-more p.id (ids (filter (is_other u) ps)) (apart-filter p.id u ps (distinct-head p.id (ids ps) d)) (distinct-filter u ps (distinct-tail p.id (ids ps) d))
      | false ↦ distinct-filter u ps (distinct-tail p.id (ids ps) d)
    ]

apart-push : (t n : ℕ) (ts : List Thread) (e : Thread) → (t == e.id) ≡ false → AllByRecursion (λ (y : ℕ). (t == y) ≡ false) (ids ts) → AllByRecursion (λ (y : ℕ). (t == y) ≡ false) (ids (ts ++ e ∷ []))
apart-push t n [] e h d = (h, tt)
apart-push t n (p ∷ ps) e h d = (d.0, apart-push t n ps e h d.1)

pub distinct-push : (ts : List Thread) (e : Thread) → has (ids ts) e.id ≡ false → AreDistinct (ids ts) → AreDistinct (ids (ts ++ e ∷ []))
distinct-push [] e h d = distinct-more e.id [] tt d
distinct-push (p ∷ ps) e h d =
    elim (p.id == e.id) as (λ b. (p.id == e.id) ≡ b → (b || has (ids ps) e.id) ≡ false → AreDistinct (ids (p ∷ (ps ++ e ∷ [])))) [
      | true ↦ λ _ x. absurd (cc)
      | false ↦ λ k x. distinct-more p.id (ids (ps ++ e ∷ [])) (apart-push p.id 0 ps e k (distinct-head p.id (ids ps) d)) (distinct-push ps e x (distinct-tail p.id (ids ps) d))
    ] refl h

-- where no thread stands twice, what holds of each live thread's count holds of all entries
pub all-at-most : (k : ℕ) (ts : List Thread) → AreDistinct (ids ts) → ((t n : ℕ) → count_in ts t ≡ Some n → n ≤ k) → AllAtMost k ts
all-at-most k [] d h = tt
all-at-most k (p ∷ ps) d h =
    let first : count_in (p ∷ ps) p.id ≡ Some p.suspend_count = rw (eq-eqb p.id p.id refl) refl in (
      h p.id p.suspend_count first,
      all-at-most k ps (distinct-tail p.id (ids ps) d) (λ t n e.
          h t n (elim (p.id == t) as (λ b. (p.id == t) ≡ b → count_by (cond b (Some p) (thread_in ps t)) ≡ Some n) [
            | true ↦ λ x.
                let lives : has (ids ps) t ≡ true = has-count ps t ∙ ap is_some e in
                let other : (t == p.id) ≡ false = another p.id t (ids ps) (distinct-head p.id (ids ps) d) lives in
                let same : (t == p.id) ≡ true = eq-eqb t p.id (sym (eqb-true p.id t x)) in
                absurd (cc)
            | false ↦ λ _. e
          ] refl)),
    )

pub at-most-more : (j k : ℕ) (ts : List Thread) → j ≤ k → AllAtMost j ts → AllAtMost k ts
at-most-more j k [] h a = tt
at-most-more j k (p ∷ ps) h a = let l : p.suspend_count ≤ j = a.0 in (omega arith, at-most-more j k ps h a.1)
