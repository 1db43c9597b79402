-- One less: what stood behind it moves down, in both lists.
use Rattle.std.proofs.Common.{inl, inr, ◌≡◌, ℕ, ◌<◌, ◌≤◌, ◌^◌, ltb, cond, List, [], length, get_or, map, refl, ◌∙◌, sym, ap, subst, arith, ◌-◌, ◌+◌}
use Rattle.std.specs.List.{remove}
use Rattle.std.proofs.lemmas.List.{ext_get_or, get_or-map, length-map}
use Rattle.std.proofs.lemmas.List.Edits.{get_or-remove_below, get_or-remove_above, length-remove}
use Rattle.std.proofs.lemmas.Bool.{cases_lt}
use Rattle.std.proofs.lemmas.Bool.Decides.{nat_tests}
use Rattle.levels.specs.declared.entries.Entry.{Entry}
use Rattle.levels.specs.declared.order.Rank.{Rank}
use Rattle.levels.specs.Counts.{count_most}
use Rattle.levels.specs.Levels.{AreLinked, ArePlacesClosed, AreRanksClosed, IsAt, IsRight, above, closed, closed_entry, closed_rank, count_at, entry_at, no_entry, no_rank, rank_at, view_of}

-- which place it had before
abbrev pub opened : ℕ → ℕ → ℕ
opened gone n = cond (ltb n gone) n (n + 1)

opened-below : (k i : ℕ) → i < k → opened k i ≡ i
opened-below k i h = grind (arith, nat_tests)

opened-above : (k i : ℕ) → k ≤ i → opened k i ≡ i + 1
opened-above k i h = grind (arith, nat_tests)

closed-opened : (k i : ℕ) → closed k (opened k i) ≡ i
closed-opened k i = elim (cases_lt i k) [ inl h ↦ grind (arith, nat_tests) | inr h ↦ grind (arith, nat_tests) ]

opened-closed : (k j : ℕ) → (j ≡ k → ⊥) → opened k (closed k j) ≡ j
opened-closed k j n = elim (cases_lt k j) [ inl h ↦ grind (arith, nat_tests) | inr h ↦ let l : j < k = omega arith in grind (arith, nat_tests) ]

opened-other : (k i : ℕ) → opened k i ≡ k → ⊥
opened-other k i = elim (cases_lt i k) [ inl h ↦ λ e. absurd (grind (arith, nat_tests)) | inr h ↦ λ e. absurd (grind (arith, nat_tests)) ]

opened-inside : (k i n : ℕ) → i + 1 < n → opened k i < n
opened-inside k i n h = elim (cases_lt i k) [ inl l ↦ grind (arith, nat_tests) | inr l ↦ grind (arith, nat_tests) ]

opened-kept : (k p q : ℕ) → p ≤ q → opened k p ≤ opened k q
opened-kept k p q h = elim (cases_lt p k) [
  | inl l ↦ elim (cases_lt q k) [ inl m ↦ grind (arith, nat_tests) | inr m ↦ grind (arith, nat_tests) ]
  | inr l ↦ elim (cases_lt q k) [ inl m ↦ grind (arith, nat_tests) | inr m ↦ grind (arith, nat_tests) ]
]

closed-inside : (k j n : ℕ) → (j ≡ k → ⊥) → k < n + 1 → j < n + 1 → closed k j < n
closed-inside k j n o h l = elim (cases_lt k j) [ inl m ↦ grind (arith, nat_tests) | inr m ↦ let below : j < k = omega arith in grind (arith, nat_tests) ]

-- how many are left that are suspended
abbrev pub left : ℕ → ℕ → ℕ
left gone suspended = cond (ltb gone suspended) (suspended - 1) suspended

left-test : (g s p : ℕ) → ltb (opened g p) s ≡ ltb p (left g s)
left-test g s p = elim (cases_lt g s) [
  | inl h ↦ elim (cases_lt p g) [
    | inl l ↦ grind (arith, nat_tests)
    | inr l ↦ elim (cases_lt (p + 1) s) [ inl m ↦ grind (arith, nat_tests) | inr m ↦ grind (arith, nat_tests) ]
  ]
  | inr h ↦ elim (cases_lt p g) [
    | inl l ↦ elim (cases_lt p s) [ inl m ↦ grind (arith, nat_tests) | inr m ↦ grind (arith, nat_tests) ]
    | inr l ↦ grind (arith, nat_tests)
  ]
]

left-below : (g s p : ℕ) → p < left g s → opened g p < s
left-below g s p h = elim (cases_lt g s) [
  | inl l ↦ elim (cases_lt p g) [ inl m ↦ grind (arith, nat_tests) | inr m ↦ grind (arith, nat_tests) ]
  | inr l ↦ elim (cases_lt p g) [ inl m ↦ grind (arith, nat_tests) | inr m ↦ grind (arith, nat_tests) ]
]

pub left-less : (g s : ℕ) → g < s → left g s ≡ s - 1
left-less g s h = grind (arith, nat_tests)

pub left-same : (g s : ℕ) → s ≤ g → left g s ≡ s
left-same g s h = grind (arith, nat_tests)

left-within : (g s n : ℕ) → g < n + 1 → s ≤ n + 1 → left g s ≤ n
left-within g s n h l = elim (cases_lt g s) [ inl m ↦ grind (arith, nat_tests) | inr m ↦ grind (arith, nat_tests) ]

-- what stands where, in terms of the old lists
removed-entry : (g k : ℕ) (es es1 : List Entry) → k < length es → AreRanksClosed g (remove es k) es1 → (i : ℕ) → i < length es1 → entry_at es1 i ≡ closed_entry g (entry_at es (opened k i))
removed-entry g k es es1 h c i inside =
    let n = length-remove es k h in
    let here : i < length (remove es k) = subst (λ (m : ℕ). i < m) c.entries inside in
    c.entry i here ∙ ap (closed_entry g) (elim (cases_lt i k) as (λ _. entry_at (remove es k) i ≡ entry_at es (opened k i)) [
      | inl l ↦ get_or-remove_below es k no_entry i l h ∙ ap (entry_at es) (sym (opened-below k i l))
      | inr l ↦ get_or-remove_above es k no_entry i l h ∙ ap (entry_at es) (sym (opened-above k i l))
    ])

removed-rank : (k g : ℕ) (rs rs1 : List Rank) → g < length rs → ArePlacesClosed k (remove rs g) rs1 → (p : ℕ) → p < length rs1 → rank_at rs1 p ≡ closed_rank k (rank_at rs (opened g p))
removed-rank k g rs rs1 h c p inside =
    let here : p < length (remove rs g) = subst (λ (m : ℕ). p < m) c.ranks inside in
    c.rank p here ∙ ap (closed_rank k) (elim (cases_lt p g) as (λ _. rank_at (remove rs g) p ≡ rank_at rs (opened g p)) [
      | inl l ↦ get_or-remove_below rs g no_rank p l h ∙ ap (rank_at rs) (sym (opened-below g p l))
      | inr l ↦ get_or-remove_above rs g no_rank p l h ∙ ap (rank_at rs) (sym (opened-above g p l))
    ])

shorter : (k : ℕ) (es es1 : List Entry) (g : ℕ) → k < length es → AreRanksClosed g (remove es k) es1 → length es1 + 1 ≡ length es
shorter k es es1 g h c = let n = length-remove es k h in let m = c.entries in omega arith

shorter-order : (g : ℕ) (rs rs1 : List Rank) (k : ℕ) → g < length rs → ArePlacesClosed k (remove rs g) rs1 → length rs1 + 1 ≡ length rs
shorter-order g rs rs1 k h c = let n = length-remove rs g h in let m = c.ranks in omega arith

removed-linked : (s k : ℕ) (es es1 : List Entry) (rs rs1 : List Rank) → AreLinked es rs s → k < length es → AreRanksClosed (entry_at es k).rank (remove es k) es1
    → ArePlacesClosed k (remove rs (entry_at es k).rank) rs1 → AreLinked es1 rs1 (left (entry_at es k).rank s)
removed-linked s k es es1 rs rs1 l h c d =
    let g = (entry_at es k).rank in
    let own = l.ranked k h in
    let n : length es1 + 1 ≡ length es = shorter k es es1 g h c in
    let m : length rs1 + 1 ≡ length rs = shorter-order g rs rs1 k own.0 d in
    let same = l.same in
    let within = l.within in
    let low = own.0 in
    record {
      same = omega arith;
      within = left-within g s (length rs1) (omega arith) (omega arith);
      placed = λ p inside.
          let q = opened g p in
          let q_inside : q < length rs = opened-inside g p (length rs) (omega arith) in
          let at = l.placed q q_inside in
          let j = (rank_at rs q).place in
          let j_inside = at.inside in
          let apart : j ≡ k → ⊥ = λ e. opened-other g p (sym at.back ∙ ap (λ (x : ℕ). (entry_at es x).rank) e) in
          let i = closed k j in
          let i_inside : i < length es1 = closed-inside k j (length es1) apart (omega arith) (omega arith) in
          let is_now : entry_at es1 i ≡ closed_entry g (entry_at es j) = removed-entry g k es es1 h c i i_inside ∙ ap (λ (x : ℕ). closed_entry g (entry_at es x)) (opened-closed k j apart) in
          subst (λ (x : Rank). IsAt es1 x p (left g s)) (sym (removed-rank k g rs rs1 own.0 d p inside)) (record {
            inside = i_inside;
            back = ap (λ (x : Entry). x.rank) is_now ∙ ap (closed g) at.back ∙ closed-opened g p;
            is = ap (λ (x : Entry). x.is_suspended) is_now ∙ at.is ∙ left-test g s p;
            height = ap (λ (x : Entry). x.level) is_now ∙ at.height;
          });
      ranked = λ i inside.
          let j = opened k i in
          let j_inside : j < length es = opened-inside k i (length es) (omega arith) in
          let was = l.ranked j j_inside in
          let was_inside = was.0 in
          let q = (entry_at es j).rank in
          let apart : q ≡ g → ⊥ = λ e. opened-other k i (sym was.1 ∙ ap (λ (x : ℕ). (rank_at rs x).place) e ∙ own.1) in
          let p_inside : closed g q < length rs1 = closed-inside g q (length rs1) apart (omega arith) (omega arith) in
          let there : rank_at rs1 (closed g q) ≡ closed_rank k (rank_at rs q) = removed-rank k g rs rs1 own.0 d (closed g q) p_inside ∙ ap (λ (x : ℕ). closed_rank k (rank_at rs x)) (opened-closed g q apart) in
          subst (λ (x : Entry). (x.rank < length rs1) × ((rank_at rs1 x.rank).place ≡ i)) (sym (removed-entry g k es es1 h c i inside))
          (p_inside, ap (λ (x : Rank). x.place) there ∙ ap (closed k) was.1 ∙ closed-opened k i);
    }

pub removed-right : (b s k : ℕ) (es es1 : List Entry) (rs rs1 : List Rank) → IsRight b es rs s → k < length es → AreRanksClosed (entry_at es k).rank (remove es k) es1
    → ArePlacesClosed k (remove rs (entry_at es k).rank) rs1 → IsRight b es1 rs1 (left (entry_at es k).rank s)
removed-right b s k es es1 rs rs1 i h c d =
    let g = (entry_at es k).rank in
    let own = i.linked.ranked k h in
    let f = i.falling in
    let few = i.few in
    let linked = removed-linked s k es es1 rs rs1 i.linked h c d in
    let m : length rs1 + 1 ≡ length rs = shorter-order g rs rs1 k own.0 d in
    let within = linked.within in
    let level : (p : ℕ) → p < left g s → (rank_at rs1 p).level ≡ (rank_at rs (opened g p)).level = λ p l. ap (λ (x : Rank). x.level) (removed-rank k g rs rs1 own.0 d p (omega arith)) in
    record {
      linked = linked;
      falling = record {
        falls = λ p q pq l.
            let x = level p (omega arith) in
            let y = level q l in
            subst (λ (n : ℕ). above b n ≤ above b (rank_at rs1 p).level) (sym y) (subst (λ (n : ℕ). above b (rank_at rs (opened g q)).level ≤ above b n) (sym x) (f.falls (opened g p) (opened g q) (opened-kept g p q pq) (left-below g s q l)));
        positive = λ p l. subst (λ (n : ℕ). 1 ≤ above b n) (sym (level p l)) (f.positive (opened g p) (left-below g s p l));
        most = λ p l. subst (λ (n : ℕ). above b n ≤ count_most) (sym (level p l)) (f.most (opened g p) (left-below g s p l));
        levels = λ p l. subst (λ (n : ℕ). n < 2 ^ 64) (sym (level p l)) (f.levels (opened g p) (left-below g s p l));
      };
      few = omega arith;
      based = i.based;
    }

removed-counts : (b g k : ℕ) (es es1 : List Entry) → k < length es → AreRanksClosed g (remove es k) es1 → map (count_at b) es1 ≡ remove (map (count_at b) es) k
removed-counts b g k es es1 h c =
    let f = count_at b in
    let n : length es1 + 1 ≡ length es = shorter k es es1 g h c in
    let long : length (map f es) ≡ length es = length-map es f in
    let inside : k < length (map f es) = omega arith in
    let short = length-remove (map f es) k inside in
    let new = length-map es1 f in
    ext_get_or 0 (map f es1) (remove (map f es) k) (omega arith) (λ i h1.
    let h2 : i < length es1 = omega arith in
    let right : get_or (remove (map f es) k) i 0 ≡ get_or (map f es) (opened k i) 0 = elim (cases_lt i k) as (λ _. get_or (remove (map f es) k) i 0 ≡ get_or (map f es) (opened k i) 0) [
      | inl l ↦ get_or-remove_below (map f es) k 0 i l inside ∙ ap (λ (n : ℕ). get_or (map f es) n 0) (sym (opened-below k i l))
      | inr l ↦ get_or-remove_above (map f es) k 0 i l inside ∙ ap (λ (n : ℕ). get_or (map f es) n 0) (sym (opened-above k i l))
    ] in
    get_or-map f es1 i no_entry 0 h2 ∙ ap f (removed-entry g k es es1 h c i h2) ∙ sym (right ∙ get_or-map f es (opened k i) no_entry 0 (opened-inside k i (length es) (omega arith))))

pub removed-view : (b v room room1 g k : ℕ) (es es1 : List Entry) → room1 ≡ room → k < length es → AreRanksClosed g (remove es k) es1 → view_of b es1 v room1 ≡ record (view_of b es v room) { counts = remove (view_of b es v room).counts k }
removed-view b v room room1 g k es es1 same h c = ap (view_of b es1 v) same ∙ ap (λ (ns : List ℕ). record (view_of b es v room) { counts = ns }) (removed-counts b g k es es1 h c)

-- where nobody is left
pub none-right : (b : ℕ) → b < 2 ^ 64 → IsRight b [] [] 0
none-right b based = record {
  linked = record {
    same = refl;
    within = omega arith;
    placed = λ p h. absurd (omega arith);
    ranked = λ i h. absurd (omega arith);
  };
  falling = record {
    falls = λ p q pq qs. absurd (omega arith);
    positive = λ p h. absurd (omega arith);
    most = λ p h. absurd (omega arith);
    levels = λ p h. absurd (omega arith);
  };
  few = omega arith;
  based = based;
}
