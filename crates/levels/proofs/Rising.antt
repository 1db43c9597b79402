-- Those that run become suspended, one after the other.
use Rattle.std.proofs.Common.{inl, inr, ◌≡◌, ℕ, zero, suc, ◌<◌, ◌≤◌, ltb, Bool, true, false, cond, List, [], ◌∷◌, length, set, refl, ◌∙◌, sym, ap, subst, arith, ◌+◌}
use Rattle.std.proofs.lemmas.List.{get_or-set_same, get_or-set_other}
use Rattle.std.proofs.lemmas.List.Sums.{sum_by-set, sum_by-cons}
use Rattle.std.proofs.lemmas.Bool.{cases_lt, cases_eq}
use Rattle.std.proofs.lemmas.Bool.Decides.{nat_tests}
use Rattle.std.specs.List.{sum_by}
use Rattle.levels.specs.declared.entries.Entry.{Entry}
use Rattle.levels.specs.declared.order.Rank.{Rank}
use Rattle.levels.specs.Levels.{AreLinked, IsAt, Risen, between, risen, risen_rank, entry_at, rank_at, no_entry, no_rank, running, one_running}

pub length-of : {X : Type 0} (xs : List X) (i : ℕ) (y : X) → length (set xs i y) ≡ length xs
length-of [] i y = refl
length-of (x ∷ xs) zero y = refl
length-of (x ∷ xs) (suc i) y = ap suc (length-of xs i y)

pub between-in : (from to p : ℕ) → from ≤ p → p < to → between from to p ≡ true
between-in from to p h k = grind (arith, nat_tests)

pub between-below : (from to p : ℕ) → p < from → between from to p ≡ false
between-below from to p h = grind (arith, nat_tests)

pub between-above : (from to p : ℕ) → to ≤ p → between from to p ≡ false
between-above from to p h = grind (arith, nat_tests)

-- the next place is no other's
pub between-more : (from to p : ℕ) → (p ≡ to → ⊥) → between from (to + 1) p ≡ between from to p
between-more from to p h = elim (cases_lt p to) [ inl k ↦ grind (arith, nat_tests) | inr k ↦ grind (arith, nat_tests) ]

pub none-counted : (f : Entry → ℕ) (es : List Entry) → ((i : ℕ) → i < length es → f (entry_at es i) ≡ 0) → sum_by f es ≡ 0
none-counted f [] h = refl
none-counted f (e ∷ es) h =
    let first : f e ≡ 0 = h 0 (omega arith) in
    let rest : sum_by f es ≡ 0 = none-counted f es (λ i k. h (suc i) (omega arith)) in
    sum_by-cons f e es ∙ (omega arith)

-- the entry that stands at a place of the order, and is not changed yet
pub unchanged : (from level p : ℕ) (es es1 : List Entry) (rs rs1 : List Rank) → AreLinked es rs from → Risen from level p es rs es1 rs1 → p < length rs
    → (rank_at rs1 p ≡ rank_at rs p) × (entry_at es1 (rank_at rs p).place ≡ entry_at es (rank_at rs p).place)
unchanged from level p es es1 rs rs1 l r h =
    let at = l.placed p h in
    let none : between from p p ≡ false = between-above from p p (omega arith) in (
      r.rank p h ∙ ap (λ (b : Bool). cond b (record { place = (rank_at rs p).place; level = level }) (rank_at rs p)) none,
      r.entry (rank_at rs p).place at.inside ∙ ap (λ (b : Bool). cond b (record { level = level; rank = (entry_at es (rank_at rs p).place).rank; is_suspended = true }) (entry_at es (rank_at rs p).place)) (ap (between from p) at.back ∙ none),
    )

abbrev pub changed_entry : ℕ → List Entry → ℕ → Entry
changed_entry level es i = record { level = level; rank = (entry_at es i).rank; is_suspended = true }

pub rises-more : (from level p : ℕ) (es es1 : List Entry) (rs rs1 : List Rank) → AreLinked es rs from → from ≤ p → p < length rs → Risen from level p es rs es1 rs1
    → Risen from level (p + 1) es rs (set es1 (rank_at rs1 p).place (changed_entry level es1 (rank_at rs1 p).place)) (set rs1 p (record { place = (rank_at rs1 p).place; level = level }))
rises-more from level p es es1 rs rs1 l f h r =
    let at = l.placed p h in
    let u = unchanged from level p es es1 rs rs1 l r h in
    let k = (rank_at rs p).place in
    subst (λ (x : Rank). Risen from level (p + 1) es rs (set es1 x.place (changed_entry level es1 x.place)) (set rs1 p (record { place = x.place; level = level }))) (sym u.0) (record {
      entries = length-of es1 k (changed_entry level es1 k) ∙ r.entries;
      ranks = length-of rs1 p (record { place = k; level = level }) ∙ r.ranks;
      entry = λ i inside. elim (cases_eq i k) [
        | inl e ↦ subst (λ (x : ℕ). entry_at (set es1 k (changed_entry level es1 k)) x ≡ risen from level (p + 1) (entry_at es x)) (sym e)
            (get_or-set_same es1 k (changed_entry level es1 k) no_entry (subst (λ (n : ℕ). k < n) (sym r.entries) at.inside)
            ∙ ap (λ (x : Entry). changed_entry level (x ∷ []) 0) u.1
            ∙ sym (ap (λ (b : Bool). cond b (record { level = level; rank = (entry_at es k).rank; is_suspended = true }) (entry_at es k)) (ap (between from (p + 1)) at.back ∙ between-in from (p + 1) p f (omega arith))))
        | inr n ↦ get_or-set_other es1 k i (changed_entry level es1 k) no_entry n ∙ r.entry i inside
            ∙ ap (λ (b : Bool). cond b (record { level = level; rank = (entry_at es i).rank; is_suspended = true }) (entry_at es i)) (sym (between-more from p (entry_at es i).rank (λ e. n (sym (l.ranked i inside).1 ∙ ap (λ (q : ℕ). (rank_at rs q).place) e))))
      ];
      rank = λ q inside. elim (cases_eq q p) [
        | inl e ↦ subst (λ (x : ℕ). rank_at (set rs1 p (record { place = k; level = level })) x ≡ risen_rank from level (p + 1) x (rank_at rs x)) (sym e)
            (get_or-set_same rs1 p (record { place = k; level = level }) no_rank (subst (λ (n : ℕ). p < n) (sym r.ranks) h)
            ∙ sym (ap (λ (b : Bool). cond b (record { place = k; level = level }) (rank_at rs p)) (between-in from (p + 1) p f (omega arith))))
        | inr n ↦ get_or-set_other rs1 p q (record { place = k; level = level }) no_rank n ∙ r.rank q inside
            ∙ ap (λ (b : Bool). cond b (record { place = (rank_at rs q).place; level = level }) (rank_at rs q)) (sym (between-more from p q n))
      ];
    })

-- each is visited that ran
pub visits-more : (from level p v n : ℕ) (es es1 : List Entry) (rs rs1 : List Rank) → AreLinked es rs from → from ≤ p → p < length rs → Risen from level p es rs es1 rs1 → v + running es1 ≡ n
    → v + 1 + running (set es1 (rank_at rs1 p).place (changed_entry level es1 (rank_at rs1 p).place)) ≡ n
visits-more from level p v n es es1 rs rs1 l f h r e =
    let at = l.placed p h in
    let u = unchanged from level p es es1 rs rs1 l r h in
    let k = (rank_at rs p).place in
    let runs : (entry_at es1 k).is_suspended ≡ false = ap (λ (x : Entry). x.is_suspended) u.1 ∙ at.is ∙ (grind (arith, nat_tests)) in
    let one : one_running (entry_at es1 k) ≡ 1 = ap (λ (b : Bool). cond b 0 1) runs in
    let s = sum_by-set one_running es1 k (changed_entry level es1 k) no_entry (subst (λ (n : ℕ). k < n) (sym r.entries) at.inside) in
    subst (λ (x : Rank). v + 1 + running (set es1 x.place (changed_entry level es1 x.place)) ≡ n) (sym u.0) (omega arith)

-- and in the end none runs
pub none-runs : (from level : ℕ) (es es1 : List Entry) (rs rs1 : List Rank) → AreLinked es rs from → Risen from level (length rs) es rs es1 rs1 → running es1 ≡ 0
none-runs from level es es1 rs rs1 l r = none-counted one_running es1 (λ i inside0.
    let inside : i < length es = subst (λ (n : ℕ). i < n) r.entries inside0 in
    let e = entry_at es i in
    let at : IsAt es (rank_at rs e.rank) e.rank from = l.placed e.rank (l.ranked i inside).0 in
    let is : e.is_suspended ≡ ltb e.rank from = sym (ap (λ (x : ℕ). (entry_at es x).is_suspended) (l.ranked i inside).1) ∙ at.is in
    ap one_running (r.entry i inside) ∙ elim (cases_lt e.rank from) [
      | inl low ↦
          let below : ltb e.rank from ≡ true = grind (arith, nat_tests) in
          ap (λ (b : Bool). one_running (cond b (record { level = level; rank = e.rank; is_suspended = true }) e)) (between-below from (length rs) e.rank low) ∙ ap (λ (b : Bool). cond b 0 1) (is ∙ below)
      | inr high ↦ ap (λ (b : Bool). one_running (cond b (record { level = level; rank = e.rank; is_suspended = true }) e)) (between-in from (length rs) e.rank high (l.ranked i inside).0)
    ])
