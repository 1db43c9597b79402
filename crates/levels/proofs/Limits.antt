-- The greatest count stands first.
use Rattle.std.proofs.Common.{inl, inr, ◌≡◌, ℕ, ◌<◌, ◌≤◌, ◌==◌, ltb, Bool, true, false, cond, List, length, get_or, map, ◌∙◌, sym, ap, subst, arith, eq-eqb}
use Rattle.std.proofs.lemmas.List.{get_or-map}
use Rattle.std.proofs.lemmas.List.Elements.{All-get_or, All-from_get_or}
use Rattle.std.proofs.lemmas.List.Folds.{list_any_at, list_any_none}
use Rattle.std.specs.List.{All, list_any}
use Rattle.std.proofs.lemmas.Bool.{cases_lt, cases_eq}
use Rattle.std.proofs.lemmas.Bool.Decides.{nat_tests}
use Rattle.levels.specs.declared.entries.Entry.{Entry}
use Rattle.levels.specs.declared.order.Rank.{Rank}
use Rattle.levels.specs.Levels.{IsRight, above, count_at, entry_at, rank_at, no_entry}
use Rattle.levels.proofs.Moving.{own, length-map}

-- a number where some are suspended, else 0
abbrev pub where_any : ℕ → ℕ → ℕ
where_any s n = cond (ltb 0 s) n 0

-- every count is at most that of the first
at-most-first : (b s : ℕ) (es : List Entry) (rs : List Rank) → IsRight b es rs s → (i : ℕ) → i < length es → count_at b (entry_at es i) ≤ (where_any s (above b (rank_at rs 0).level))
at-most-first b s es rs r i h =
    let e = entry_at es i in
    let o = own s es rs r.linked i h in
    elim (cases_lt e.rank s) [
      | inl low ↦
          let was : ltb e.rank s ≡ true = grind (arith, nat_tests) in
          let is = o.0 ∙ was in
          let positive : ltb 0 s ≡ true = grind (arith, nat_tests) in
          let value : count_at b e ≡ above b (rank_at rs e.rank).level = ap (λ (c : Bool). cond c (above b e.level) 0) is ∙ ap (above b) o.1 in
          let bound = r.falling.falls 0 e.rank (omega arith) low in
          subst (λ (c : Bool). count_at b e ≤ cond c (above b (rank_at rs 0).level) 0) (sym positive) (omega arith)
      | inr high ↦
          let was : ltb e.rank s ≡ false = grind (arith, nat_tests) in
          let value : count_at b e ≡ 0 = ap (λ (c : Bool). cond c (above b e.level) 0) (o.0 ∙ was) in
          omega arith
    ]

pub limit-none : (b s k : ℕ) (es : List Entry) (rs : List Rank) → IsRight b es rs s → 1 ≤ k → (where_any s (above b (rank_at rs 0).level)) < k → list_any (λ n. n == k) (map (count_at b) es) ≡ false
limit-none b s k es rs r one h = list_any_none (λ n. n == k) (map (count_at b) es) (All-from_get_or (λ n. (n == k) ≡ false) (map (count_at b) es) 0 (λ i h1.
    let inside : i < length es = subst (λ (n : ℕ). i < n) (length-map (count_at b) es) h1 in
    let m = at-most-first b s es rs r i inside in
    let v = get_or-map (count_at b) es i no_entry 0 inside in
    let below : count_at b (entry_at es i) < k = omega arith in
    let not_k : (count_at b (entry_at es i) == k) ≡ false = grind (arith, nat_tests) in
    ap (λ (n : ℕ). n == k) v ∙ not_k))

pub limit-some : (b s k : ℕ) (es : List Entry) (rs : List Rank) → IsRight b es rs s → 0 < s → above b (rank_at rs 0).level ≡ k → list_any (λ n. n == k) (map (count_at b) es) ≡ true
limit-some b s k es rs r h e =
    let w = r.linked.within in
    let at = r.linked.placed 0 (omega arith) in
    let i = (rank_at rs 0).place in
    let positive : ltb 0 s ≡ true = grind (arith, nat_tests) in
    let value : get_or (map (count_at b) es) i 0 ≡ k = get_or-map (count_at b) es i no_entry 0 at.inside ∙ ap (λ (c : Bool). cond c (above b (entry_at es i).level) 0) (at.is ∙ positive) ∙ ap (above b) at.height ∙ e in
    list_any_at (λ n. n == k) (map (count_at b) es) i 0 (subst (λ (n : ℕ). i < n) (sym (length-map (count_at b) es)) at.inside) (eq-eqb (get_or (map (count_at b) es) i 0) k value)

-- where no count is above the limit
pub limit-first : (b s k : ℕ) (es : List Entry) (rs : List Rank) → IsRight b es rs s → 1 ≤ k → All (λ n. n ≤ k) (map (count_at b) es) → 0 < s
    → (above b (rank_at rs 0).level == k) ≡ list_any (λ n. n == k) (map (count_at b) es)
limit-first b s k es rs r one a h =
    let positive : ltb 0 s ≡ true = grind (arith, nat_tests) in
    let w = r.linked.within in
    let at = r.linked.placed 0 (omega arith) in
    let i = (rank_at rs 0).place in
    let value : get_or (map (count_at b) es) i 0 ≡ above b (rank_at rs 0).level = get_or-map (count_at b) es i no_entry 0 at.inside ∙ ap (λ (c : Bool). cond c (above b (entry_at es i).level) 0) (at.is ∙ positive) ∙ ap (above b) at.height in
    let most = All-get_or (λ n. n ≤ k) (map (count_at b) es) i 0 (subst (λ (n : ℕ). i < n) (sym (length-map (count_at b) es)) at.inside) a in
    elim (cases_eq (above b (rank_at rs 0).level) k) [
      | inl e ↦ eq-eqb (above b (rank_at rs 0).level) k e ∙ sym (limit-some b s k es rs r h e)
      | inr n ↦
          let less : above b (rank_at rs 0).level < k = omega arith in
          let not_k : (above b (rank_at rs 0).level == k) ≡ false = grind (arith, nat_tests) in
          not_k ∙ sym (limit-none b s k es rs r one (subst (λ (c : Bool). cond c (above b (rank_at rs 0).level) 0 < k) (sym positive) less))
    ]

pub limit-empty : (b s k : ℕ) (es : List Entry) (rs : List Rank) → IsRight b es rs s → 1 ≤ k → s ≡ 0 → list_any (λ n. n == k) (map (count_at b) es) ≡ false
limit-empty b s k es rs r one e = limit-none b s k es rs r one (subst (λ (n : ℕ). (where_any n (above b (rank_at rs 0).level)) < k) (sym e) one)

-- ---- whether all are suspended

-- the count of one that is suspended is above 0
suspended-positive : (b s : ℕ) (es : List Entry) (rs : List Rank) → IsRight b es rs s → length rs ≤ s → (i : ℕ) → i < length es → 0 < count_at b (entry_at es i)
suspended-positive b s es rs r all i h =
    let e = entry_at es i in
    let o = own s es rs r.linked i h in
    let rank = (r.linked.ranked i h).0 in
    let was : ltb e.rank s ≡ true = grind (arith, nat_tests) in
    let value : count_at b e ≡ above b (rank_at rs e.rank).level = ap (λ (c : Bool). cond c (above b e.level) 0) (o.0 ∙ was) ∙ ap (above b) o.1 in
    let least = r.falling.positive e.rank (omega arith) in
    omega arith

pub all-suspended : (b s : ℕ) (es : List Entry) (rs : List Rank) → IsRight b es rs s → length rs ≤ s → list_any (λ n. n == 0) (map (count_at b) es) ≡ false
all-suspended b s es rs r all = list_any_none (λ n. n == 0) (map (count_at b) es) (All-from_get_or (λ n. (n == 0) ≡ false) (map (count_at b) es) 0 (λ i h1.
    let inside : i < length es = subst (λ (n : ℕ). i < n) (length-map (count_at b) es) h1 in
    let positive = suspended-positive b s es rs r all i inside in
    let not_0 : (count_at b (entry_at es i) == 0) ≡ false = grind (arith, nat_tests) in
    ap (λ (n : ℕ). n == 0) (get_or-map (count_at b) es i no_entry 0 inside) ∙ not_0))

-- the first that is not suspended
pub one-runs : (b s : ℕ) (es : List Entry) (rs : List Rank) → IsRight b es rs s → s < length rs → list_any (λ n. n == 0) (map (count_at b) es) ≡ true
one-runs b s es rs r less =
    let at = r.linked.placed s less in
    let i = (rank_at rs s).place in
    let runs : ltb s s ≡ false = grind (arith, nat_tests) in
    let value : get_or (map (count_at b) es) i 0 ≡ 0 = get_or-map (count_at b) es i no_entry 0 at.inside ∙ ap (λ (c : Bool). cond c (above b (entry_at es i).level) 0) (at.is ∙ runs) in
    list_any_at (λ n. n == 0) (map (count_at b) es) i 0 (subst (λ (n : ℕ). i < n) (sym (length-map (count_at b) es)) at.inside) (eq-eqb (get_or (map (count_at b) es) i 0) 0 value)
