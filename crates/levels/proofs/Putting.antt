-- An entry that is put at another place of the order.
use Rattle.std.proofs.Common.{inl, inr, ◌≡◌, ℕ, ◌<◌, ◌≤◌, ◌^◌, ltb, Bool, true, false, cond, List, length, get_or, set, map, refl, ◌∙◌, sym, ap, subst, arith, ◌-◌, ◌+◌}
use Rattle.std.specs.Prelude.{min}
use Rattle.std.proofs.lemmas.Bool.{false≢true}
use Rattle.std.proofs.lemmas.List.{ext_get_or, get_or-map, get_or-set_same, get_or-set_other, length-map}
use Rattle.std.proofs.lemmas.Bool.{cases_lt, cases_eq}
use Rattle.std.proofs.lemmas.Bool.Decides.{nat_tests}
use Rattle.levels.specs.declared.entries.Entry.{Entry}
use Rattle.levels.specs.declared.order.Rank.{Rank}
use Rattle.levels.specs.Counts.{with_count, cleared, none, count_most, raised, lowered}
use Rattle.levels.specs.Levels.{Fallen, view_of, AreLinked, IsAt, IsRight, Put, Splits, above, before, after, count_at, entry_at, rank_at, no_entry}
use Rattle.levels.proofs.Rising.{length-of}
use Rattle.levels.proofs.Moving.{own, new-state}

-- a place and a level by which the order stays right
pub record Moves (b s s1 from to level : ℕ) (is : Bool) (rs : List Rank) : Type 0 where
  pub within : s1 ≤ length rs
  pub here : is ≡ ltb to s1
  pub swapped : (from ≡ to → ⊥) → ltb to s ≡ ltb from s1
  pub others : (p : ℕ) → (p ≡ to → ⊥) → (p ≡ from → ⊥) → ltb p s ≡ ltb p s1
  pub same : (from ≡ to → ⊥) → from < s1 → above b (rank_at rs to).level ≡ above b (rank_at rs from).level
  pub known : (from ≡ to → ⊥) → from < s1 → to < s
  pub below : (p : ℕ) → p < s1 → (p ≡ to → ⊥) → p < s
  pub positive : to < s1 → 1 ≤ above b level
  pub most : to < s1 → above b level ≤ count_most
  pub bound : level < 2 ^ 64
  pub front : (p : ℕ) → p < to → to < s1 → above b level ≤ above b (rank_at rs p).level
  pub behind : (q : ℕ) → to < q → q < s1 → above b (rank_at rs q).level ≤ above b level

pub put-linked : (b s s1 place to level : ℕ) (is : Bool) (es es1 : List Entry) (rs rs1 : List Rank) → AreLinked es rs s → place < length es → to < length rs
    → Moves b s s1 (entry_at es place).rank to level is rs → Put place to level is es rs es1 rs1 → AreLinked es1 rs1 s1
put-linked b s s1 place to level is es es1 rs rs1 l inside there m u =
    let from = (entry_at es place).rank in
    let k = (rank_at rs to).place in
    let at = l.placed to there in
    let mine = l.ranked place inside in
    record {
      same = u.ranks ∙ l.same ∙ sym u.entries;
      within = subst (λ (n : ℕ). s1 ≤ n) (sym u.ranks) m.within;
      placed = λ p h1.
          let h : p < length rs = subst (λ (n : ℕ). p < n) u.ranks h1 in
          elim (cases_eq p to) [
            | inl e ↦ subst (λ (q : ℕ). IsAt es1 (rank_at rs1 q) q s1) (sym e) (subst (λ (x : Rank). IsAt es1 x to s1) (sym u.there) (record {
              inside = subst (λ (n : ℕ). place < n) (sym u.entries) inside;
              back = ap (λ (x : Entry). x.rank) u.own;
              is = ap (λ (x : Entry). x.is_suspended) u.own ∙ m.here;
              height = ap (λ (x : Entry). x.level) u.own;
            }))
            | inr n ↦ elim (cases_eq p from) [
              | inl e ↦
                  let apart : from ≡ to → ⊥ = λ x. n (e ∙ x) in
                  let other : k ≡ place → ⊥ = λ x. apart (sym (ap (λ (y : ℕ). (entry_at es y).rank) x) ∙ at.back) in
                  let is_now = u.other other in
                  subst (λ (q : ℕ). IsAt es1 (rank_at rs1 q) q s1) (sym e) (subst (λ (x : Rank). IsAt es1 x from s1) (sym (u.here apart)) (record {
                    inside = subst (λ (n : ℕ). k < n) (sym u.entries) at.inside;
                    back = ap (λ (x : Entry). x.rank) is_now;
                    is = ap (λ (x : Entry). x.is_suspended) is_now ∙ at.is ∙ m.swapped apart;
                    height = ap (λ (x : Entry). x.level) is_now ∙ at.height;
                  }))
              | inr o ↦
                  let a = l.placed p h in
                  let i = (rank_at rs p).place in
                  let not_mine : i ≡ place → ⊥ = λ x. o (sym a.back ∙ ap (λ (y : ℕ). (entry_at es y).rank) x) in
                  let not_other : i ≡ k → ⊥ = λ x. n (sym a.back ∙ ap (λ (y : ℕ). (entry_at es y).rank) x ∙ at.back) in
                  let is_now = u.rest i not_mine not_other in
                  subst (λ (x : Rank). IsAt es1 x p s1) (sym (u.ranked p n o)) (record {
                    inside = subst (λ (n : ℕ). i < n) (sym u.entries) a.inside;
                    back = ap (λ (x : Entry). x.rank) is_now ∙ a.back;
                    is = ap (λ (x : Entry). x.is_suspended) is_now ∙ a.is ∙ m.others p n o;
                    height = ap (λ (x : Entry). x.level) is_now ∙ a.height;
                  })
            ]
          ];
      ranked = λ i h1.
          let h : i < length es = subst (λ (n : ℕ). i < n) u.entries h1 in
          elim (cases_eq i place) [
            | inl e ↦ subst (λ (j : ℕ). ((entry_at es1 j).rank < length rs1) × ((rank_at rs1 (entry_at es1 j).rank).place ≡ j)) (sym e)
                (subst (λ (x : Entry). (x.rank < length rs1) × ((rank_at rs1 x.rank).place ≡ place)) (sym u.own) (subst (λ (n : ℕ). to < n) (sym u.ranks) there, ap (λ (x : Rank). x.place) u.there))
            | inr n ↦ elim (cases_eq i k) [
              | inl e ↦
                  let other : k ≡ place → ⊥ = λ x. n (e ∙ x) in
                  let apart : from ≡ to → ⊥ = λ x. other (sym (ap (λ (q : ℕ). (rank_at rs q).place) x) ∙ mine.1) in
                  subst (λ (j : ℕ). ((entry_at es1 j).rank < length rs1) × ((rank_at rs1 (entry_at es1 j).rank).place ≡ j)) (sym e)
                  (subst (λ (x : Entry). (x.rank < length rs1) × ((rank_at rs1 x.rank).place ≡ k)) (sym (u.other other)) (subst (λ (n : ℕ). from < n) (sym u.ranks) mine.0, ap (λ (x : Rank). x.place) (u.here apart)))
              | inr o ↦
                  let r = l.ranked i h in
                  let q = (entry_at es i).rank in
                  let not_to : q ≡ to → ⊥ = λ x. o (sym r.1 ∙ ap (λ (y : ℕ). (rank_at rs y).place) x) in
                  let not_from : q ≡ from → ⊥ = λ x. n (sym r.1 ∙ ap (λ (y : ℕ). (rank_at rs y).place) x ∙ mine.1) in
                  subst (λ (x : Entry). (x.rank < length rs1) × ((rank_at rs1 x.rank).place ≡ i)) (sym (u.rest i n o)) (subst (λ (n : ℕ). q < n) (sym u.ranks) r.0, ap (λ (x : Rank). x.place) (u.ranked q not_to not_from) ∙ r.1)
            ]
          ];
    }

-- what is not put keeps its height
kept-height : (b s s1 place to level : ℕ) (is : Bool) (es es1 : List Entry) (rs rs1 : List Rank) → IsRight b es rs s
    → Moves b s s1 (entry_at es place).rank to level is rs → Put place to level is es rs es1 rs1 → (p : ℕ) → p < s1 → (p ≡ to → ⊥)
    → (above b (rank_at rs1 p).level ≡ above b (rank_at rs p).level) × ((rank_at rs1 p).level < 2 ^ 64)
kept-height b s s1 place to level is es es1 rs rs1 i m u p h n =
    let from = (entry_at es place).rank in
    elim (cases_eq p from) [
      | inl e ↦
          let apart : from ≡ to → ⊥ = λ x. n (e ∙ x) in
          let low : from < s1 = subst (λ (q : ℕ). q < s1) e h in
          subst (λ (q : ℕ). (above b (rank_at rs1 q).level ≡ above b (rank_at rs q).level) × ((rank_at rs1 q).level < 2 ^ 64)) (sym e)
          (ap (λ (x : Rank). above b x.level) (u.here apart) ∙ m.same apart low, subst (λ (x : Rank). x.level < 2 ^ 64) (sym (u.here apart)) (i.falling.levels to (m.known apart low)))
      | inr o ↦ let e = u.ranked p n o in (ap (λ (x : Rank). above b x.level) e, subst (λ (x : Rank). x.level < 2 ^ 64) (sym e) (i.falling.levels p (m.below p h n)))
    ]

pub put-right : (b s s1 place to level : ℕ) (is : Bool) (es es1 : List Entry) (rs rs1 : List Rank) → IsRight b es rs s → place < length es → to < length rs
    → Moves b s s1 (entry_at es place).rank to level is rs → Put place to level is es rs es1 rs1 → IsRight b es1 rs1 s1
put-right b s s1 place to level is es es1 rs rs1 i inside there m u =
    let f = i.falling in
    let kept = kept-height b s s1 place to level is es es1 rs rs1 i m u in
    let mine : above b (rank_at rs1 to).level ≡ above b level = ap (λ (x : Rank). above b x.level) u.there in
    record {
      linked = put-linked b s s1 place to level is es es1 rs rs1 i.linked inside there m u;
      falling = record {
        falls = λ p q pq qs. elim (cases_eq p to) [
          | inl ep ↦ elim (cases_eq q to) [
            | inl eq ↦ subst (λ (x : ℕ). above b (rank_at rs1 q).level ≤ above b (rank_at rs1 x).level) (eq ∙ sym ep) (omega arith)
            | inr nq ↦
                let x = (kept q qs nq).0 in
                let y = m.behind q (omega arith) qs in
                subst (λ (z : ℕ). above b (rank_at rs1 q).level ≤ above b (rank_at rs1 z).level) (sym ep) (omega arith)
          ]
          | inr np ↦ elim (cases_eq q to) [
            | inl eq ↦
                let x = (kept p (omega arith) np).0 in
                let y = m.front p (omega arith) (omega arith) in
                subst (λ (z : ℕ). above b (rank_at rs1 z).level ≤ above b (rank_at rs1 p).level) (sym eq) (omega arith)
            | inr nq ↦
                let x = (kept p (omega arith) np).0 in
                let y = (kept q qs nq).0 in
                let z = f.falls p q pq (m.below q qs nq) in
                omega arith
          ]
        ];
        positive = λ p h. elim (cases_eq p to) [
          | inl e ↦ subst (λ (z : ℕ). 1 ≤ above b (rank_at rs1 z).level) (sym e) (subst (λ (n : ℕ). 1 ≤ n) (sym mine) (m.positive (omega arith)))
          | inr n ↦ let x = (kept p h n).0 in let y = f.positive p (m.below p h n) in omega arith
        ];
        most = λ p h. elim (cases_eq p to) [
          | inl e ↦ subst (λ (z : ℕ). above b (rank_at rs1 z).level ≤ count_most) (sym e) (subst (λ (n : ℕ). n ≤ count_most) (sym mine) (m.most (omega arith)))
          | inr n ↦ let x = (kept p h n).0 in let y = f.most p (m.below p h n) in omega arith
        ];
        levels = λ p h. elim (cases_eq p to) [
          | inl e ↦ subst (λ (z : ℕ). (rank_at rs1 z).level < 2 ^ 64) (sym e) (subst (λ (x : Rank). x.level < 2 ^ 64) (sym u.there) m.bound)
          | inr n ↦ (kept p h n).1
        ];
      };
      few = subst (λ (n : ℕ). n < 2 ^ 32) (sym u.ranks) i.few;
      based = i.based;
    }

-- one count is another, and the rest are as they were
pub put-counts : (b place to level : ℕ) (is : Bool) (es es1 : List Entry) (rs rs1 : List Rank) → place < length es → Put place to level is es rs es1 rs1
    → map (count_at b) es1 ≡ set (map (count_at b) es) place (cond is (above b level) 0)
put-counts b place to level is es es1 rs rs1 inside u =
    let n = cond is (above b level) 0 in
    let k = (rank_at rs to).place in
    ext_get_or 0 (map (count_at b) es1) (set (map (count_at b) es) place n)
    (length-map es1 (count_at b) ∙ u.entries ∙ sym (length-of (map (count_at b) es) place n ∙ length-map es (count_at b)))
    (λ i h1.
    let h2 : i < length es1 = subst (λ (n : ℕ). i < n) (length-map es1 (count_at b)) h1 in
    let h : i < length es = subst (λ (n : ℕ). i < n) u.entries h2 in
    let left = get_or-map (count_at b) es1 i no_entry 0 h2 in
    left ∙ elim (cases_eq i place) as (λ _. count_at b (entry_at es1 i) ≡ get_or (set (map (count_at b) es) place n) i 0) [
      | inl e ↦ subst (λ (j : ℕ). count_at b (entry_at es1 j) ≡ get_or (set (map (count_at b) es) place n) j 0) (sym e)
          (ap (count_at b) u.own ∙ sym (get_or-set_same (map (count_at b) es) place n 0 (subst (λ (n : ℕ). place < n) (sym (length-map es (count_at b))) inside)))
      | inr o ↦
          let right = get_or-set_other (map (count_at b) es) place i n 0 o ∙ get_or-map (count_at b) es i no_entry 0 h in
          elim (cases_eq i k) as (λ _. count_at b (entry_at es1 i) ≡ get_or (set (map (count_at b) es) place n) i 0) [
            | inl e ↦
                let other : k ≡ place → ⊥ = λ x. o (e ∙ x) in
                subst (λ (j : ℕ). count_at b (entry_at es1 j) ≡ count_at b (entry_at es j)) (sym e) (ap (count_at b) (u.other other)) ∙ sym right
            | inr m ↦ ap (count_at b) (u.rest i o m) ∙ sym right
          ]
    ])

-- ---- levels one above and one below

pub level-after : (b l : ℕ) → b < 2 ^ 64 → l < 2 ^ 64 → above b l < 2 ^ 64 - 1 → above b (after l) ≡ above b l + 1
level-after b l hb hl h = elim (cases_lt l b) [
  | inl k ↦ elim (cases_eq l (2 ^ 64 - 1)) [ inl e ↦ grind (arith, nat_tests) | inr e ↦ elim (cases_lt (l + 1) b) [ inl f ↦ grind (arith, nat_tests) | inr f ↦ grind (arith, nat_tests) ] ]
  | inr k ↦ elim (cases_eq l (2 ^ 64 - 1)) [ inl e ↦ elim (cases_lt 0 b) [ inl f ↦ grind (arith, nat_tests) | inr f ↦ grind (arith, nat_tests) ] | inr e ↦ grind (arith, nat_tests) ]
]

pub level-before : (b l : ℕ) → b < 2 ^ 64 → l < 2 ^ 64 → 1 ≤ above b l → above b (before l) ≡ above b l - 1
level-before b l hb hl h = elim (cases_lt l b) [
  | inl k ↦ elim (cases_eq l 0) [ inl e ↦ grind (arith, nat_tests) | inr e ↦ grind (arith, nat_tests) ]
  | inr k ↦ elim (cases_eq l 0) [ inl e ↦ grind (arith, nat_tests) | inr e ↦ elim (cases_lt (l - 1) b) [ inl f ↦ grind (arith, nat_tests) | inr f ↦ grind (arith, nat_tests) ] ]
]

pub level-first : (b : ℕ) → b < 2 ^ 64 → above b (after b) ≡ 1
level-first b hb = elim (cases_eq b (2 ^ 64 - 1)) [ inl e ↦ grind (arith, nat_tests) | inr e ↦ grind (arith, nat_tests) ]

pub level-bound : (l : ℕ) → l < 2 ^ 64 → (after l < 2 ^ 64) × (before l < 2 ^ 64)
level-bound l h = (
  elim (cases_eq l (2 ^ 64 - 1)) [ inl e ↦ grind (arith, nat_tests) | inr e ↦ grind (arith, nat_tests) ],
  elim (cases_eq l 0) [ inl e ↦ grind (arith, nat_tests) | inr e ↦ grind (arith, nat_tests) ],
)

-- ---- the four moves

same-test : (p m n : ℕ) → (p < m → p < n) → (p < n → p < m) → ltb p m ≡ ltb p n
same-test p m n f g = elim (cases_lt p m) [
  | inl h ↦ let k = f h in grind (arith, nat_tests)
  | inr h ↦ elim (cases_lt p n) [ inl k ↦ let x = g k in grind (arith, nat_tests) | inr k ↦ grind (arith, nat_tests) ]
]

test-true : (p n : ℕ) → p < n → true ≡ ltb p n
test-true p n h = grind (arith, nat_tests)

test-false : (p n : ℕ) → n ≤ p → false ≡ ltb p n
test-false p n h = grind (arith, nat_tests)

-- a count that is above 0 rises: before all of its count
pub raises-more : (b s from to level : ℕ) (es : List Entry) (rs : List Rank) → IsRight b es rs s → from < s → level ≡ (rank_at rs from).level → above b level < count_most → Splits b (above b level + 1) to s rs
    → (to < s) × Moves b s s from to (after level) true rs
raises-more b s from to level es rs i low e h sp =
    let f = i.falling in
    let w = i.linked.within in
    let c : above b level ≡ above b (rank_at rs from).level = ap (above b) e in
    let bound : level < 2 ^ 64 = subst (λ (n : ℕ). n < 2 ^ 64) (sym e) (f.levels from low) in
    let new : above b (after level) ≡ above b level + 1 = level-after b level i.based bound (omega arith) in
    let to_from : to ≤ from = elim (cases_lt from to) [ inl k ↦ let x = sp.front from k in absurd (omega arith) | inr k ↦ k ] in
    let at_most = sp.back to (omega arith) (omega arith) in
    let at_least = f.falls to from to_from low in
    let here : above b (rank_at rs to).level ≡ above b level = omega arith in
    let to_low : to < s = omega arith in (
      to_low,
      record {
        within = w;
        here = test-true to s to_low;
        swapped = λ n. sym (test-true to s to_low) ∙ test-true from s low;
        others = λ p n o. refl;
        same = λ n k. here ∙ c;
        known = λ n k. to_low;
        below = λ p k n. k;
        positive = λ k. omega arith;
        most = λ k. omega arith;
        bound = (level-bound level bound).0;
        front = λ p k l. let x = sp.front p k in omega arith;
        behind = λ q k l. let x = f.falls to q (omega arith) l in omega arith;
      },
    )

-- one that runs becomes suspended: behind all that are
pub starts : (b s from : ℕ) (es : List Entry) (rs : List Rank) → IsRight b es rs s → s ≤ from → from < length rs → Moves b s (s + 1) from s (after b) true rs
starts b s from es rs i low h =
    let f = i.falling in
    let one = level-first b i.based in
    record {
      within = omega arith;
      here = test-true s (s + 1) (omega arith);
      swapped = λ n. sym (test-false s s (omega arith)) ∙ test-false from (s + 1) (omega arith);
      others = λ p n o. same-test p s (s + 1) (λ k. omega arith) (λ k. omega arith);
      same = λ n k. absurd (omega arith);
      known = λ n k. absurd (omega arith);
      below = λ p k n. omega arith;
      positive = λ k. omega arith;
      most = λ k. omega arith;
      bound = (level-bound b i.based).0;
      front = λ p k l. let x = f.positive p k in omega arith;
      behind = λ q k l. absurd (omega arith);
    }

-- a count above 1 falls: behind all of its count
pub lowers-more : (b s from t level : ℕ) (es : List Entry) (rs : List Rank) → IsRight b es rs s → from < s → level ≡ (rank_at rs from).level → 2 ≤ above b level → Splits b (above b level) t s rs
    → (1 ≤ t) × (t - 1 < s) × Moves b s s from (t - 1) (before level) true rs
lowers-more b s from t level es rs i low e h sp =
    let f = i.falling in
    let w = i.linked.within in
    let c : above b level ≡ above b (rank_at rs from).level = ap (above b) e in
    let bound : level < 2 ^ 64 = subst (λ (n : ℕ). n < 2 ^ 64) (sym e) (f.levels from low) in
    let new : above b (before level) ≡ above b level - 1 = level-before b level i.based bound (omega arith) in
    let most = f.most from low in
    let from_t : from < t = elim (cases_lt from t) [ inl k ↦ k | inr k ↦ let x = sp.back from k low in absurd (omega arith) ] in
    let t_s = sp.within in
    let at_least = sp.front (t - 1) (omega arith) in
    let at_most = f.falls from (t - 1) (omega arith) (omega arith) in
    let here : above b (rank_at rs (t - 1)).level ≡ above b level = omega arith in
    let to_low : t - 1 < s = omega arith in (
      omega arith,
      to_low,
      record {
        within = w;
        here = test-true (t - 1) s to_low;
        swapped = λ n. sym (test-true (t - 1) s to_low) ∙ test-true from s low;
        others = λ p n o. refl;
        same = λ n k. here ∙ c;
        known = λ n k. to_low;
        below = λ p k n. k;
        positive = λ k. omega arith;
        most = λ k. omega arith;
        bound = (level-bound level bound).1;
        front = λ p k l. let x = sp.front p (omega arith) in omega arith;
        behind = λ q k l. let x = sp.back q (omega arith) l in omega arith;
      },
    )

-- a count of 1 falls: it is the last that is suspended, and runs
pub stops : (b s from t level : ℕ) (es : List Entry) (rs : List Rank) → IsRight b es rs s → from < s → level ≡ (rank_at rs from).level → above b level ≡ 1 → Splits b (above b level) t s rs
    → (t ≡ s) × Moves b s (s - 1) from (t - 1) (before level) false rs
stops b s from t level es rs i low e h sp =
    let f = i.falling in
    let w = i.linked.within in
    let c : above b level ≡ above b (rank_at rs from).level = ap (above b) e in
    let bound : level < 2 ^ 64 = subst (λ (n : ℕ). n < 2 ^ 64) (sym e) (f.levels from low) in
    let t_s = sp.within in
    let all : t ≡ s = elim (cases_lt t s) [ inl k ↦ let x = sp.back t (omega arith) k in let y = f.positive t k in absurd (omega arith) | inr k ↦ omega arith ] in (
      all,
      record {
        within = omega arith;
        here = test-false (t - 1) (s - 1) (omega arith);
        swapped = λ n. sym (test-true (t - 1) s (omega arith)) ∙ test-true from (s - 1) (omega arith);
        others = λ p n o. same-test p s (s - 1) (λ k. omega arith) (λ k. omega arith);
        same = λ n k.
            let x = f.falls from (t - 1) (omega arith) (omega arith) in
            let y = f.positive (t - 1) (omega arith) in
            omega arith;
        known = λ n k. omega arith;
        below = λ p k n. omega arith;
        positive = λ k. absurd (omega arith);
        most = λ k. absurd (omega arith);
        bound = (level-bound level bound).1;
        front = λ p k l. absurd (omega arith);
        behind = λ q k l. absurd (omega arith);
      },
    )

-- where all run, each count is 0
pub cleared-counts : (b s v r : ℕ) (es es1 : List Entry) (rs : List Rank) → AreLinked es rs s → Fallen s 0 es es1 → view_of b es1 v r ≡ cleared (view_of b es v r)
cleared-counts b s v room es es1 rs l r =
    let zeros : map (count_at b) es1 ≡ map none (map (count_at b) es) = ext_get_or 0 (map (count_at b) es1) (map none (map (count_at b) es))
    (length-map es1 (count_at b) ∙ r.entries ∙ sym (length-map (map (count_at b) es) none ∙ length-map es (count_at b)))
    (λ i h1.
    let h2 : i < length es1 = subst (λ (n : ℕ). i < n) (length-map es1 (count_at b)) h1 in
    let h : i < length es = subst (λ (n : ℕ). i < n) r.entries h2 in
    let new = new-state s 0 es es1 rs l (omega arith) r i h in
    let no : ltb (entry_at es i).rank 0 ≡ false = sym (test-false (entry_at es i).rank 0 (omega arith)) in
    get_or-map (count_at b) es1 i no_entry 0 h2 ∙ ap (λ (c : Bool). cond c (above b (entry_at es1 i).level) 0) (new ∙ no)
    ∙ sym (get_or-map none (map (count_at b) es) i 0 0 (subst (λ (n : ℕ). i < n) (sym (length-map es (count_at b))) h))) in
    ap (λ (ns : List ℕ). record { counts = ns; visits = v; capacity = room; looks = 0; rank_looks = 0 }) zeros

-- ---- what the calls leave

count-here : (b place : ℕ) (es : List Entry) → place < length es → get_or (map (count_at b) es) place 0 ≡ count_at b (entry_at es place)
count-here b place es h = get_or-map (count_at b) es place no_entry 0 h

with-view : (b v r place n : ℕ) (es es1 : List Entry) → map (count_at b) es1 ≡ set (map (count_at b) es) place n → view_of b es1 v r ≡ with_count place n (view_of b es v r)
with-view b v r place n es es1 e = ap (λ (ns : List ℕ). record { counts = ns; visits = v; capacity = r; looks = 0; rank_looks = 0 }) e

pub raised-one : (b s v room place to : ℕ) (es es1 : List Entry) (rs rs1 : List Rank) → IsRight b es rs s → place < length es → (entry_at es place).is_suspended ≡ true
    → get_or (map (count_at b) es) place 0 < count_most → Splits b (above b (entry_at es place).level + 1) to s rs → Put place to (after (entry_at es place).level) true es rs es1 rs1
    → IsRight b es1 rs1 s × (view_of b es1 v room ≡ with_count place (raised (get_or (map (count_at b) es) place 0)) (view_of b es v room))
raised-one b s v room place to es es1 rs rs1 i h is below sp u =
    let e = entry_at es place in
    let o = own s es rs i.linked place h in
    let low : e.rank < s = elim (cases_lt e.rank s) [ inl k ↦ k | inr k ↦ absurd (false≢true (test-false e.rank s k ∙ sym o.0 ∙ is)) ] in
    let count : get_or (map (count_at b) es) place 0 ≡ above b e.level = count-here b place es h ∙ ap (λ (c : Bool). cond c (above b e.level) 0) is in
    let m = raises-more b s e.rank to e.level es rs i low o.1 (subst (λ (n : ℕ). n < count_most) count below) sp in
    let w = i.linked.within in
    let bound : e.level < 2 ^ 64 = subst (λ (n : ℕ). n < 2 ^ 64) (sym o.1) (i.falling.levels e.rank low) in
    let new : above b (after e.level) ≡ above b e.level + 1 = level-after b e.level i.based bound (let x = subst (λ (n : ℕ). n < count_most) count below in omega arith) in (
      put-right b s s place to (after e.level) true es es1 rs rs1 i h (let t = m.0 in omega arith) m.1 u,
      with-view b v room place (raised (get_or (map (count_at b) es) place 0)) es es1 (put-counts b place to (after e.level) true es es1 rs rs1 h u ∙ ap (set (map (count_at b) es) place) (new ∙ sym (ap raised count))),
    )

pub room-behind : (b s place : ℕ) (es : List Entry) (rs : List Rank) → IsRight b es rs s → place < length es → (entry_at es place).is_suspended ≡ false → (s ≤ (entry_at es place).rank) × (s < length rs)
room-behind b s place es rs i h is =
    let e = entry_at es place in
    let o = own s es rs i.linked place h in
    let in_order = (i.linked.ranked place h).0 in
    let high : s ≤ e.rank = elim (cases_lt e.rank s) [ inl k ↦ absurd (false≢true (sym is ∙ o.0 ∙ sym (test-true e.rank s k))) | inr k ↦ k ] in
    (high, omega arith)

pub started-one : (b s v room place : ℕ) (es es1 : List Entry) (rs rs1 : List Rank) → IsRight b es rs s → place < length es → (entry_at es place).is_suspended ≡ false
    → Put place s (after b) true es rs es1 rs1
    → IsRight b es1 rs1 (s + 1) × (view_of b es1 v room ≡ with_count place (raised (get_or (map (count_at b) es) place 0)) (view_of b es v room))
started-one b s v room place es es1 rs rs1 i h is u =
    let e = entry_at es place in
    let r = room-behind b s place es rs i h is in
    let count : get_or (map (count_at b) es) place 0 ≡ 0 = count-here b place es h ∙ ap (λ (c : Bool). cond c (above b e.level) 0) is in
    let m = starts b s e.rank es rs i r.0 (i.linked.ranked place h).0 in (
      put-right b s (s + 1) place s (after b) true es es1 rs rs1 i h r.1 m u,
      with-view b v room place (raised (get_or (map (count_at b) es) place 0)) es es1 (put-counts b place s (after b) true es es1 rs rs1 h u ∙ ap (set (map (count_at b) es) place) (level-first b i.based ∙ sym (ap raised count))),
    )

pub lowered-one : (b s v room place t : ℕ) (es es1 : List Entry) (rs rs1 : List Rank) → IsRight b es rs s → place < length es → (entry_at es place).is_suspended ≡ true
    → (above b (entry_at es place).level ≡ 1 → ⊥) → Splits b (above b (entry_at es place).level) t s rs
    → Put place (t - 1) (before (entry_at es place).level) (ltb 1 (above b (entry_at es place).level)) es rs es1 rs1
    → IsRight b es1 rs1 s × (view_of b es1 v room ≡ with_count place (lowered (get_or (map (count_at b) es) place 0)) (view_of b es v room))
lowered-one b s v room place t es es1 rs rs1 i h is more sp u0 =
    let e = entry_at es place in
    let o = own s es rs i.linked place h in
    let low : e.rank < s = elim (cases_lt e.rank s) [ inl k ↦ k | inr k ↦ absurd (false≢true (test-false e.rank s k ∙ sym o.0 ∙ is)) ] in
    let p : 1 ≤ above b e.level = subst (λ (n : ℕ). 1 ≤ above b n) (sym o.1) (i.falling.positive e.rank low) in
    let two : 2 ≤ above b e.level = omega arith in
    let u = subst (λ (c : Bool). Put place (t - 1) (before e.level) c es rs es1 rs1) (sym (test-true 1 (above b e.level) two)) u0 in
    let count : get_or (map (count_at b) es) place 0 ≡ above b e.level = count-here b place es h ∙ ap (λ (c : Bool). cond c (above b e.level) 0) is in
    let m = lowers-more b s e.rank t e.level es rs i low o.1 two sp in
    let w = i.linked.within in
    let bound : e.level < 2 ^ 64 = subst (λ (n : ℕ). n < 2 ^ 64) (sym o.1) (i.falling.levels e.rank low) in
    let new : above b (before e.level) ≡ above b e.level - 1 = level-before b e.level i.based bound p in (
      put-right b s s place (t - 1) (before e.level) true es es1 rs rs1 i h (let x = m.1 in omega arith) m.2 u,
      with-view b v room place (lowered (get_or (map (count_at b) es) place 0)) es es1 (put-counts b place (t - 1) (before e.level) true es es1 rs rs1 h u ∙ ap (set (map (count_at b) es) place) (new ∙ sym (ap lowered count))),
    )

pub stopped-one : (b s v room place t : ℕ) (es es1 : List Entry) (rs rs1 : List Rank) → IsRight b es rs s → place < length es → (entry_at es place).is_suspended ≡ true
    → above b (entry_at es place).level ≡ 1 → Splits b (above b (entry_at es place).level) t s rs
    → Put place (t - 1) (before (entry_at es place).level) (ltb 1 (above b (entry_at es place).level)) es rs es1 rs1
    → IsRight b es1 rs1 (s - 1) × (view_of b es1 v room ≡ with_count place (lowered (get_or (map (count_at b) es) place 0)) (view_of b es v room))
stopped-one b s v room place t es es1 rs rs1 i h is one sp u0 =
    let e = entry_at es place in
    let o = own s es rs i.linked place h in
    let low : e.rank < s = elim (cases_lt e.rank s) [ inl k ↦ k | inr k ↦ absurd (false≢true (test-false e.rank s k ∙ sym o.0 ∙ is)) ] in
    let u = subst (λ (c : Bool). Put place (t - 1) (before e.level) c es rs es1 rs1) (sym (test-false 1 (above b e.level) (omega arith))) u0 in
    let count : get_or (map (count_at b) es) place 0 ≡ above b e.level = count-here b place es h ∙ ap (λ (c : Bool). cond c (above b e.level) 0) is in
    let m = stops b s e.rank t e.level es rs i low o.1 one sp in
    let w = i.linked.within in (
      put-right b s (s - 1) place (t - 1) (before e.level) false es es1 rs rs1 i h (let x = m.0 in omega arith) m.1 u,
      with-view b v room place (lowered (get_or (map (count_at b) es) place 0)) es es1 (put-counts b place (t - 1) (before e.level) false es es1 rs rs1 h u ∙ ap (set (map (count_at b) es) place) (sym (ap lowered (count ∙ one)))),
    )

-- ---- the same of a call, which read the entry first

-- there is room for as many where there is in both
pub same-room : (e e1 o o1 : ℕ) → e1 ≡ e → o1 ≡ o → min e1 o1 ≡ min e o
same-room e e1 o o1 h k = ap (λ (n : ℕ). min n o1) h ∙ ap (min e) k

-- the same lists, by other names
pub put-from : (place to level : ℕ) (is : Bool) (es es0 es1 : List Entry) (rs rs0 rs1 : List Rank) → es0 ≡ es → rs0 ≡ rs → Put place to level is es0 rs0 es1 rs1 → Put place to level is es rs es1 rs1
put-from place to level is es es0 es1 rs rs0 rs1 e r u =
    subst (λ (x : List Entry). Put place to level is x rs es1 rs1) e (subst (λ (y : List Rank). Put place to level is es0 y es1 rs1) r u)

pub raised-call : (b s v room room1 place to more level : ℕ) (e : Entry) (es es1 : List Entry) (rs rs1 : List Rank) → room1 ≡ room → IsRight b es rs s → place < length (map (count_at b) es) → e ≡ entry_at es place → e.is_suspended ≡ true
    → get_or (map (count_at b) es) place 0 < count_most → more ≡ above b e.level → Splits b (more + 1) to s rs → level ≡ after e.level → Put place to level true es rs es1 rs1
    → IsRight b es1 rs1 s × (view_of b es1 v room1 ≡ with_count place (raised (get_or (map (count_at b) es) place 0)) (view_of b es v room))
raised-call b s v room room1 place to more level e es es1 rs rs1 same i h read is below m sp w u =
    let all = raised-one b s v room place to es es1 rs rs1 i (subst (λ (n : ℕ). place < n) (length-map es (count_at b)) h) (sym (ap (λ (x : Entry). x.is_suspended) read) ∙ is) below
    (subst (λ (n : ℕ). Splits b (n + 1) to s rs) (m ∙ ap (λ (x : Entry). above b x.level) read) sp) (subst (λ (n : ℕ). Put place to n true es rs es1 rs1) (w ∙ ap (λ (x : Entry). after x.level) read) u) in (all.0, ap (view_of b es1 v) same ∙ all.1)

pub started-call : (b s v room room1 place level : ℕ) (e : Entry) (es es1 : List Entry) (rs rs1 : List Rank) → room1 ≡ room → IsRight b es rs s → place < length (map (count_at b) es) → e ≡ entry_at es place → e.is_suspended ≡ false
    → level ≡ after b → Put place s level true es rs es1 rs1
    → IsRight b es1 rs1 (s + 1) × (view_of b es1 v room1 ≡ with_count place (raised (get_or (map (count_at b) es) place 0)) (view_of b es v room))
started-call b s v room room1 place level e es es1 rs rs1 same i h read is w u =
    let all = started-one b s v room place es es1 rs rs1 i (subst (λ (n : ℕ). place < n) (length-map es (count_at b)) h) (sym (ap (λ (x : Entry). x.is_suspended) read) ∙ is)
    (subst (λ (n : ℕ). Put place s n true es rs es1 rs1) w u) in (all.0, ap (view_of b es1 v) same ∙ all.1)

-- what both kinds of fall begin with
put-of-fall : (b place t count level : ℕ) (e : Entry) (es es1 : List Entry) (rs rs1 : List Rank) → e ≡ entry_at es place → count ≡ above b e.level → level ≡ before e.level
    → Put place (t - 1) level (ltb 1 count) es rs es1 rs1 → Put place (t - 1) (before (entry_at es place).level) (ltb 1 (above b (entry_at es place).level)) es rs es1 rs1
put-of-fall b place t count level e es es1 rs rs1 read m w u =
    subst (λ (n : ℕ). Put place (t - 1) n (ltb 1 (above b (entry_at es place).level)) es rs es1 rs1) (w ∙ ap (λ (x : Entry). before x.level) read)
    (subst (λ (n : ℕ). Put place (t - 1) level (ltb 1 n) es rs es1 rs1) (m ∙ ap (λ (x : Entry). above b x.level) read) u)

pub lowered-call : (b s v room room1 place t count level : ℕ) (e : Entry) (es es1 : List Entry) (rs rs1 : List Rank) → room1 ≡ room → IsRight b es rs s → place < length (map (count_at b) es) → e ≡ entry_at es place → e.is_suspended ≡ true
    → count ≡ above b e.level → (count ≡ 1 → ⊥) → Splits b count t s rs → level ≡ before e.level → Put place (t - 1) level (ltb 1 count) es rs es1 rs1
    → IsRight b es1 rs1 s × (view_of b es1 v room1 ≡ with_count place (lowered (get_or (map (count_at b) es) place 0)) (view_of b es v room))
lowered-call b s v room room1 place t count level e es es1 rs rs1 same i h read is m more sp w u =
    let height : count ≡ above b (entry_at es place).level = m ∙ ap (λ (x : Entry). above b x.level) read in
    let all = lowered-one b s v room place t es es1 rs rs1 i (subst (λ (n : ℕ). place < n) (length-map es (count_at b)) h) (sym (ap (λ (x : Entry). x.is_suspended) read) ∙ is)
    (λ one. more (height ∙ one)) (subst (λ (n : ℕ). Splits b n t s rs) height sp) (put-of-fall b place t count level e es es1 rs rs1 read m w u) in (all.0, ap (view_of b es1 v) same ∙ all.1)

pub stopped-call : (b s v room room1 place t count level : ℕ) (e : Entry) (es es1 : List Entry) (rs rs1 : List Rank) → room1 ≡ room → IsRight b es rs s → place < length (map (count_at b) es) → e ≡ entry_at es place → e.is_suspended ≡ true
    → count ≡ above b e.level → count ≡ 1 → Splits b count t s rs → level ≡ before e.level → Put place (t - 1) level (ltb 1 count) es rs es1 rs1
    → IsRight b es1 rs1 (s - 1) × (view_of b es1 v room1 ≡ with_count place (lowered (get_or (map (count_at b) es) place 0)) (view_of b es v room))
stopped-call b s v room room1 place t count level e es es1 rs rs1 same i h read is m one sp w u =
    let height : count ≡ above b (entry_at es place).level = m ∙ ap (λ (x : Entry). above b x.level) read in
    let all = stopped-one b s v room place t es es1 rs rs1 i (subst (λ (n : ℕ). place < n) (length-map es (count_at b)) h) (sym (ap (λ (x : Entry). x.is_suspended) read) ∙ is)
    (sym height ∙ one) (subst (λ (n : ℕ). Splits b n t s rs) height sp) (put-of-fall b place t count level e es es1 rs rs1 read m w u) in (all.0, ap (view_of b es1 v) same ∙ all.1)
