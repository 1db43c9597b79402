-- What a move of the base leaves.
use Rattle.std.proofs.Common.{inl, inr, ◌≡◌, ℕ, suc, ◌<◌, ◌≤◌, ◌==◌, ◌^◌, ◌&&◌, ltb, Bool, true, false, cond, List, [], ◌∷◌, length, get_or, map, refl, ◌∙◌, sym, ap, subst, arith, ◌-◌, ◌+◌, eq-eqb, eqb-true}
use Rattle.std.proofs.lemmas.List.{ext_get_or, get_or-map}
use Rattle.std.proofs.lemmas.List.Elements.{All-get_or}
use Rattle.std.proofs.lemmas.List.Sums.{sum_by-cons}
use Rattle.std.specs.List.{All, sum_by}
use Rattle.levels.proofs.Rising.{none-counted, between-in, between-below, between-above}
use Rattle.std.proofs.lemmas.Bool.{cases_lt, cases_eq}
use Rattle.std.proofs.lemmas.Bool.Decides.{nat_tests}
use Rattle.levels.specs.declared.entries.Entry.{Entry}
use Rattle.levels.specs.declared.order.Rank.{Rank}
use Rattle.levels.specs.Counts.{raised, lowered, standing, count_most}
use Rattle.levels.specs.Levels.{AreLinked, IsAt, IsRight, Risen, Fallen, StopsAt, at_base, one_at, one_running, running, above, before, after, count_at, entry_at, rank_at, no_entry}

pub length-map : {X Y : Type 0} (f : X → Y) (xs : List X) → length (map f xs) ≡ length xs
length-map f [] = refl
length-map f (x ∷ xs) = ap suc (length-map f xs)

pub above-before : (b l : ℕ) → b < 2 ^ 64 → l < 2 ^ 64 → above b l < 2 ^ 64 - 1 → above (before b) l ≡ above b l + 1
above-before b l hb hl h = elim (cases_lt l b) [
  | inl k ↦ elim (cases_eq b 0) [ inl e ↦ grind (arith, nat_tests) | inr e ↦ grind (arith, nat_tests) ]
  | inr k ↦ elim (cases_eq b 0) [ inl e ↦ grind (arith, nat_tests) | inr e ↦ grind (arith, nat_tests) ]
]

pub above-after : (b l : ℕ) → b < 2 ^ 64 → l < 2 ^ 64 → 1 ≤ above b l → above (after b) l ≡ above b l - 1
above-after b l hb hl h = elim (cases_lt l b) [
  | inl k ↦ elim (cases_eq b (2 ^ 64 - 1)) [ inl e ↦ grind (arith, nat_tests) | inr e ↦ grind (arith, nat_tests) ]
  | inr k ↦ elim (cases_eq b (2 ^ 64 - 1)) [ inl e ↦ grind (arith, nat_tests) | inr e ↦ grind (arith, nat_tests) ]
]

pub before-bound : (b : ℕ) → b < 2 ^ 64 → before b < 2 ^ 64
before-bound b h = elim (cases_eq b 0) [ inl e ↦ grind (arith, nat_tests) | inr e ↦ grind (arith, nat_tests) ]

pub after-bound : (b : ℕ) → b < 2 ^ 64 → after b < 2 ^ 64
after-bound b h = elim (cases_eq b (2 ^ 64 - 1)) [ inl e ↦ grind (arith, nat_tests) | inr e ↦ grind (arith, nat_tests) ]

pub above-own : (b : ℕ) → b < 2 ^ 64 → above (before b) b ≡ 1
above-own b h = elim (cases_eq b 0) [ inl e ↦ grind (arith, nat_tests) | inr e ↦ grind (arith, nat_tests) ]

pub above-one : (b l : ℕ) → b < 2 ^ 64 → l < 2 ^ 64 → (above b l == 1) ≡ (l == after b)
above-one b l hb hl = elim (cases_lt l b) [
  | inl k ↦ elim (cases_eq b (2 ^ 64 - 1)) [ inl e ↦ grind (arith, nat_tests) | inr e ↦ grind (arith, nat_tests) ]
  | inr k ↦ elim (cases_eq b (2 ^ 64 - 1)) [ inl e ↦ grind (arith, nat_tests) | inr e ↦ grind (arith, nat_tests) ]
]

-- the place of an entry says whether it is suspended, and its level
pub own : (s : ℕ) (es : List Entry) (rs : List Rank) → AreLinked es rs s → (i : ℕ) → i < length es
    → ((entry_at es i).is_suspended ≡ ltb (entry_at es i).rank s) × ((entry_at es i).level ≡ (rank_at rs (entry_at es i).rank).level)
own s es rs l i h =
    let e = entry_at es i in
    let at : IsAt es (rank_at rs e.rank) e.rank s = l.placed e.rank (l.ranked i h).0 in
    let k = (l.ranked i h).1 in (
      sym (ap (λ (x : ℕ). (entry_at es x).is_suspended) k) ∙ at.is,
      sym (ap (λ (x : ℕ). (entry_at es x).level) k) ∙ at.height,
    )

pub low-rank : (s b : ℕ) (es es1 : List Entry) (rs rs1 : List Rank) → Risen s b (length rs) es rs es1 rs1 → (p : ℕ) → p < s → p < length rs → rank_at rs1 p ≡ rank_at rs p
low-rank s b es es1 rs rs1 r p h k = r.rank p k ∙ ap (λ (c : Bool). cond c (record { place = (rank_at rs p).place; level = b }) (rank_at rs p)) (between-below s (length rs) p h)

pub high-rank : (s b : ℕ) (es es1 : List Entry) (rs rs1 : List Rank) → Risen s b (length rs) es rs es1 rs1 → (p : ℕ) → s ≤ p → p < length rs → rank_at rs1 p ≡ record { place = (rank_at rs p).place; level = b }
high-rank s b es es1 rs rs1 r p h k = r.rank p k ∙ ap (λ (c : Bool). cond c (record { place = (rank_at rs p).place; level = b }) (rank_at rs p)) (between-in s (length rs) p h k)

pub low-entry : (s b : ℕ) (es es1 : List Entry) (rs rs1 : List Rank) → Risen s b (length rs) es rs es1 rs1 → (i : ℕ) → i < length es → (entry_at es i).rank < s → entry_at es1 i ≡ entry_at es i
low-entry s b es es1 rs rs1 r i h k = r.entry i h ∙ ap (λ (c : Bool). cond c (record { level = b; rank = (entry_at es i).rank; is_suspended = true }) (entry_at es i)) (between-below s (length rs) (entry_at es i).rank k)

pub high-entry : (s b : ℕ) (es es1 : List Entry) (rs rs1 : List Rank) → Risen s b (length rs) es rs es1 rs1 → (i : ℕ) → i < length es → s ≤ (entry_at es i).rank → (entry_at es i).rank < length rs
    → entry_at es1 i ≡ record { level = b; rank = (entry_at es i).rank; is_suspended = true }
high-entry s b es es1 rs rs1 r i h k n = r.entry i h ∙ ap (λ (c : Bool). cond c (record { level = b; rank = (entry_at es i).rank; is_suspended = true }) (entry_at es i)) (between-in s (length rs) (entry_at es i).rank k n)

pub raised-linked : (s b : ℕ) (es es1 : List Entry) (rs rs1 : List Rank) → AreLinked es rs s → Risen s b (length rs) es rs es1 rs1 → AreLinked es1 rs1 (length rs1)
raised-linked s b es es1 rs rs1 l r = record {
  same = r.ranks ∙ l.same ∙ sym r.entries;
  within = omega arith;
  placed = λ p h1.
      let h : p < length rs = subst (λ (n : ℕ). p < n) r.ranks h1 in
      let at = l.placed p h in
      let k = (rank_at rs p).place in
      let here : ltb p (length rs1) ≡ true = grind (arith, nat_tests) in
      elim (cases_lt p s) [
        | inl low ↦
            let e = low-entry s b es es1 rs rs1 r k at.inside (subst (λ (n : ℕ). n < s) (sym at.back) low) in
            let was : ltb p s ≡ true = grind (arith, nat_tests) in
            subst (λ (x : Rank). IsAt es1 x p (length rs1)) (sym (low-rank s b es es1 rs rs1 r p low h)) (record {
              inside = subst (λ (n : ℕ). k < n) (sym r.entries) at.inside;
              back = ap (λ (x : Entry). x.rank) e ∙ at.back;
              is = ap (λ (x : Entry). x.is_suspended) e ∙ at.is ∙ was ∙ sym here;
              height = ap (λ (x : Entry). x.level) e ∙ at.height;
            })
        | inr high ↦
            let e = high-entry s b es es1 rs rs1 r k at.inside (subst (λ (n : ℕ). s ≤ n) (sym at.back) high) (subst (λ (n : ℕ). n < length rs) (sym at.back) h) in
            subst (λ (x : Rank). IsAt es1 x p (length rs1)) (sym (high-rank s b es es1 rs rs1 r p high h)) (record {
              inside = subst (λ (n : ℕ). k < n) (sym r.entries) at.inside;
              back = ap (λ (x : Entry). x.rank) e ∙ at.back;
              is = ap (λ (x : Entry). x.is_suspended) e ∙ sym here;
              height = ap (λ (x : Entry). x.level) e;
            })
      ];
  ranked = λ i h1.
      let h : i < length es = subst (λ (n : ℕ). i < n) r.entries h1 in
      let e = entry_at es i in
      let was = l.ranked i h in
      elim (cases_lt e.rank s) [
        | inl low ↦
            subst (λ (x : Entry). (x.rank < length rs1) × ((rank_at rs1 x.rank).place ≡ i)) (sym (low-entry s b es es1 rs rs1 r i h low))
            (subst (λ (n : ℕ). e.rank < n) (sym r.ranks) was.0, ap (λ (x : Rank). x.place) (low-rank s b es es1 rs rs1 r e.rank low was.0) ∙ was.1)
        | inr high ↦
            subst (λ (x : Entry). (x.rank < length rs1) × ((rank_at rs1 x.rank).place ≡ i)) (sym (high-entry s b es es1 rs rs1 r i h high was.0))
            (subst (λ (n : ℕ). e.rank < n) (sym r.ranks) was.0, ap (λ (x : Rank). x.place) (high-rank s b es es1 rs rs1 r e.rank high was.0) ∙ was.1)
      ];
}

-- no count of those that are suspended is at the greatest
pub below-most : (s b : ℕ) (es : List Entry) (rs : List Rank) → AreLinked es rs s → All (λ n. n < count_most) (map (count_at b) es) → (p : ℕ) → p < s → above b (rank_at rs p).level < count_most
below-most s b es rs l a p h =
    let within = l.within in
    let at = l.placed p (omega arith) in
    let k = (rank_at rs p).place in
    let is : (entry_at es k).is_suspended ≡ true = at.is ∙ (grind (arith, nat_tests)) in
    let value : get_or (map (count_at b) es) k 0 ≡ above b (rank_at rs p).level = get_or-map (count_at b) es k no_entry 0 at.inside ∙ ap (λ (c : Bool). cond c (above b (entry_at es k).level) 0) is ∙ ap (above b) at.height in
    subst (λ (n : ℕ). n < count_most) value (All-get_or (λ (n : ℕ). n < count_most) (map (count_at b) es) k 0 (subst (λ (n : ℕ). k < n) (sym (length-map (count_at b) es)) at.inside) a)

pub raised-right : (s b : ℕ) (es es1 : List Entry) (rs rs1 : List Rank) → IsRight b es rs s → b < 2 ^ 64 → All (λ n. n < count_most) (map (count_at b) es) → Risen s b (length rs) es rs es1 rs1
    → IsRight (before b) es1 rs1 (length rs1)
raised-right s b es es1 rs rs1 i hb a r =
    let l = i.linked in let f = i.falling in let within = l.within in
    let lower : (p : ℕ) → p < s → above (before b) (rank_at rs1 p).level ≡ above b (rank_at rs p).level + 1 = λ p h.
    let m = f.most p h in
    ap (λ (x : Rank). above (before b) x.level) (low-rank s b es es1 rs rs1 r p h (omega arith)) ∙ above-before b (rank_at rs p).level hb (f.levels p h) (omega arith) in
    let upper : (p : ℕ) → s ≤ p → p < length rs → above (before b) (rank_at rs1 p).level ≡ 1 = λ p h k.
    ap (λ (x : Rank). above (before b) x.level) (high-rank s b es es1 rs rs1 r p h k) ∙ above-own b hb in
    let same = r.ranks in
    record {
      linked = raised-linked s b es es1 rs rs1 l r;
      falling = record {
        falls = λ p q pq qn. elim (cases_lt q s) [
          | inl low ↦ let x = lower p (omega arith) in let y = lower q low in let z = f.falls p q pq low in omega arith
          | inr high ↦ elim (cases_lt p s) [
            | inl plow ↦ let x = lower p plow in let y = upper q high (omega arith) in omega arith
            | inr phigh ↦ let x = upper p phigh (omega arith) in let y = upper q high (omega arith) in omega arith
          ]
        ];
        positive = λ p h. elim (cases_lt p s) [
          | inl low ↦ let x = lower p low in omega arith
          | inr high ↦ let x = upper p high (omega arith) in omega arith
        ];
        most = λ p h. elim (cases_lt p s) [
          | inl low ↦ let x = lower p low in let y = below-most s b es rs l a p low in omega arith
          | inr high ↦ let x = upper p high (omega arith) in omega arith
        ];
        levels = λ p h. elim (cases_lt p s) [
          | inl low ↦ subst (λ (x : Rank). x.level < 2 ^ 64) (sym (low-rank s b es es1 rs rs1 r p low (omega arith))) (f.levels p low)
          | inr high ↦ subst (λ (x : Rank). x.level < 2 ^ 64) (sym (high-rank s b es es1 rs rs1 r p high (omega arith))) hb
        ];
      };
      few = let x = i.few in omega arith;
      based = before-bound b hb;
    }

pub raised-counts : (s b : ℕ) (es es1 : List Entry) (rs rs1 : List Rank) → IsRight b es rs s → b < 2 ^ 64 → Risen s b (length rs) es rs es1 rs1
    → map (count_at (before b)) es1 ≡ map raised (map (count_at b) es)
raised-counts s b es es1 rs rs1 i hb r =
    let l = i.linked in let f = i.falling in
    ext_get_or 0 (map (count_at (before b)) es1) (map raised (map (count_at b) es))
    (length-map (count_at (before b)) es1 ∙ r.entries ∙ sym (length-map raised (map (count_at b) es) ∙ length-map (count_at b) es))
    (λ j h1.
    let h2 : j < length es1 = subst (λ (n : ℕ). j < n) (length-map (count_at (before b)) es1) h1 in
    let h : j < length es = subst (λ (n : ℕ). j < n) r.entries h2 in
    let e = entry_at es j in
    let o = own s es rs l j h in
    let left = get_or-map (count_at (before b)) es1 j no_entry 0 h2 in
    let right : get_or (map raised (map (count_at b) es)) j 0 ≡ raised (count_at b e) = get_or-map raised (map (count_at b) es) j 0 0 (subst (λ (n : ℕ). j < n) (sym (length-map (count_at b) es)) h) ∙ ap raised (get_or-map (count_at b) es j no_entry 0 h) in
    left ∙ elim (cases_lt e.rank s) as (λ _. count_at (before b) (entry_at es1 j) ≡ raised (count_at b e)) [
      | inl low ↦
          let m = f.most e.rank low in
          let below : ltb e.rank s ≡ true = grind (arith, nat_tests) in
          let is = o.0 ∙ below in
          let moved : above (before b) e.level ≡ above b e.level + 1 = above-before b e.level hb (subst (λ (n : ℕ). n < 2 ^ 64) (sym o.1) (f.levels e.rank low)) (subst (λ (n : ℕ). above b n < 2 ^ 64 - 1) (sym o.1) (omega arith)) in
          ap (count_at (before b)) (low-entry s b es es1 rs rs1 r j h low)
          ∙ ap (λ (c : Bool). cond c (above (before b) e.level) 0) is ∙ moved ∙ sym (ap (λ (c : Bool). raised (cond c (above b e.level) 0)) is)
      | inr high ↦
          let not_below : ltb e.rank s ≡ false = grind (arith, nat_tests) in
          let is = o.0 ∙ not_below in
          ap (count_at (before b)) (high-entry s b es es1 rs rs1 r j h high (l.ranked j h).0)
          ∙ above-own b hb ∙ sym (ap (λ (c : Bool). raised (cond c (above b e.level) 0)) is)
    ] ∙ sym right)

-- a count over entries is one over what is made of them
pub counted-by : (f : Entry → ℕ) (g : ℕ → ℕ) (h : Entry → ℕ) (es : List Entry) → ((i : ℕ) → i < length es → f (entry_at es i) ≡ g (h (entry_at es i))) → sum_by f es ≡ sum_by g (map h es)
counted-by f g h [] k = refl
counted-by f g h (e ∷ es) k =
    let first : f e ≡ g (h e) = k 0 (omega arith) in
    let rest : sum_by f es ≡ sum_by g (map h es) = counted-by f g h es (λ i inside. k (suc i) (omega arith)) in
    let left = sum_by-cons f e es in
    let right = sum_by-cons g (h e) (map h es) in
    left ∙ (omega arith) ∙ sym right

abbrev one_standing : ℕ → ℕ → ℕ
one_standing k n = cond (n == k) 1 0

pub raised-visits : (s b : ℕ) (es : List Entry) (rs : List Rank) → IsRight b es rs s → running es ≡ standing 0 (map (count_at b) es)
raised-visits s b es rs i = counted-by one_running (one_standing 0) (count_at b) es (λ j h.
    let e = entry_at es j in
    let o = own s es rs i.linked j h in
    elim (cases_lt e.rank s) [
      | inl low ↦
          let below : ltb e.rank s ≡ true = grind (arith, nat_tests) in
          let is = o.0 ∙ below in
          let p : 1 ≤ above b e.level = subst (λ (n : ℕ). 1 ≤ above b n) (sym o.1) (i.falling.positive e.rank low) in
          let none : (above b e.level == 0) ≡ false = grind (arith, nat_tests) in
          ap (λ (c : Bool). cond c 0 1) is ∙ sym (ap (λ (c : Bool). one_standing 0 (cond c (above b e.level) 0)) is ∙ ap (λ (c : Bool). cond c 1 0) none)
      | inr high ↦
          let not_below : ltb e.rank s ≡ false = grind (arith, nat_tests) in
          let is = o.0 ∙ not_below in
          ap (λ (c : Bool). cond c 0 1) is ∙ sym (ap (λ (c : Bool). one_standing 0 (cond c (above b e.level) 0)) is)
    ])

-- ---- where the base rises

abbrev run : Entry → Entry
run e = record { level = e.level; rank = e.rank; is_suspended = false }

pub kept-entry : (s t : ℕ) (es es1 : List Entry) → Fallen s t es es1 → (i : ℕ) → i < length es → (entry_at es i).rank < t → entry_at es1 i ≡ entry_at es i
kept-entry s t es es1 r i h k = r.entry i h ∙ ap (λ (c : Bool). cond c (run (entry_at es i)) (entry_at es i)) (between-below t s (entry_at es i).rank k)

pub past-entry : (s t : ℕ) (es es1 : List Entry) → Fallen s t es es1 → (i : ℕ) → i < length es → s ≤ (entry_at es i).rank → entry_at es1 i ≡ entry_at es i
past-entry s t es es1 r i h k = r.entry i h ∙ ap (λ (c : Bool). cond c (run (entry_at es i)) (entry_at es i)) (between-above t s (entry_at es i).rank k)

pub fallen-entry : (s t : ℕ) (es es1 : List Entry) → Fallen s t es es1 → (i : ℕ) → i < length es → t ≤ (entry_at es i).rank → (entry_at es i).rank < s → entry_at es1 i ≡ run (entry_at es i)
fallen-entry s t es es1 r i h k n = r.entry i h ∙ ap (λ (c : Bool). cond c (run (entry_at es i)) (entry_at es i)) (between-in t s (entry_at es i).rank k n)

-- what an entry is after the fall, by its place
pub same-rank : (s t : ℕ) (es es1 : List Entry) → Fallen s t es es1 → (i : ℕ) → i < length es → ((entry_at es1 i).rank ≡ (entry_at es i).rank) × ((entry_at es1 i).level ≡ (entry_at es i).level)
same-rank s t es es1 r i h =
    let e = entry_at es i in
    elim (cases_lt e.rank t) [
      | inl low ↦ let x = kept-entry s t es es1 r i h low in (ap (λ (y : Entry). y.rank) x, ap (λ (y : Entry). y.level) x)
      | inr high ↦ elim (cases_lt e.rank s) [
        | inl below ↦ let x = fallen-entry s t es es1 r i h high below in (ap (λ (y : Entry). y.rank) x, ap (λ (y : Entry). y.level) x)
        | inr past ↦ let x = past-entry s t es es1 r i h past in (ap (λ (y : Entry). y.rank) x, ap (λ (y : Entry). y.level) x)
      ]
    ]

-- it is suspended where its place is below the new end
pub new-state : (s t : ℕ) (es es1 : List Entry) (rs : List Rank) → AreLinked es rs s → t ≤ s → Fallen s t es es1 → (i : ℕ) → i < length es → (entry_at es1 i).is_suspended ≡ ltb (entry_at es i).rank t
new-state s t es es1 rs l ts r i h =
    let e = entry_at es i in
    let o = own s es rs l i h in
    elim (cases_lt e.rank t) [
      | inl low ↦
          let now : ltb e.rank t ≡ true = grind (arith, nat_tests) in
          let was : ltb e.rank s ≡ true = grind (arith, nat_tests) in
          ap (λ (y : Entry). y.is_suspended) (kept-entry s t es es1 r i h low) ∙ o.0 ∙ was ∙ sym now
      | inr high ↦
          let now : ltb e.rank t ≡ false = grind (arith, nat_tests) in
          elim (cases_lt e.rank s) [
            | inl below ↦ ap (λ (y : Entry). y.is_suspended) (fallen-entry s t es es1 r i h high below) ∙ sym now
            | inr past ↦
                let was : ltb e.rank s ≡ false = grind (arith, nat_tests) in
                ap (λ (y : Entry). y.is_suspended) (past-entry s t es es1 r i h past) ∙ o.0 ∙ was ∙ sym now
          ]
    ]

pub lowered-linked : (s t : ℕ) (es es1 : List Entry) (rs : List Rank) → AreLinked es rs s → t ≤ s → Fallen s t es es1 → AreLinked es1 rs t
lowered-linked s t es es1 rs l ts r = record {
  same = l.same ∙ sym r.entries;
  within = let w = l.within in omega arith;
  placed = λ p h.
      let at = l.placed p h in
      let k = (rank_at rs p).place in
      let x = same-rank s t es es1 r k at.inside in
      record {
        inside = subst (λ (n : ℕ). k < n) (sym r.entries) at.inside;
        back = x.0 ∙ at.back;
        is = new-state s t es es1 rs l ts r k at.inside ∙ ap (λ (n : ℕ). ltb n t) at.back;
        height = x.1 ∙ at.height;
      };
  ranked = λ i h1.
      let h : i < length es = subst (λ (n : ℕ). i < n) r.entries h1 in
      subst (λ (n : ℕ). (n < length rs) × ((rank_at rs n).place ≡ i)) (sym (same-rank s t es es1 r i h).0) (l.ranked i h);
}

-- those that stay suspended stood above 1
pub above-next : (b s t : ℕ) (es : List Entry) (rs : List Rank) → IsRight b es rs s → StopsAt (after b) s t rs → (p : ℕ) → p < t → 2 ≤ above b (rank_at rs p).level
above-next b s t es rs i st p h =
    let f = i.falling in
    let w = st.within in
    let last = (rank_at rs (t - 1)).level in
    let one = f.positive (t - 1) (omega arith) in
    let fall = f.falls p (t - 1) (omega arith) (omega arith) in
    elim (cases_eq (above b last) 1) [
      | inl e ↦
          let eq : (last == after b) ≡ true = sym (above-one b last i.based (f.levels (t - 1) (omega arith))) ∙ eq-eqb (above b last) 1 e in
          absurd (st.next (omega arith) (eqb-true last (after b) eq))
      | inr n ↦ omega arith
    ]

pub lowered-right : (b s t : ℕ) (es es1 : List Entry) (rs : List Rank) → IsRight b es rs s → StopsAt (after b) s t rs → Fallen s t es es1 → IsRight (after b) es1 rs t
lowered-right b s t es es1 rs i st r =
    let f = i.falling in
    let w = st.within in
    let lower : (p : ℕ) → p < t → above (after b) (rank_at rs p).level ≡ above b (rank_at rs p).level - 1 = λ p h. let x = f.positive p (omega arith) in above-after b (rank_at rs p).level i.based (f.levels p (omega arith)) x in
    record {
      linked = lowered-linked s t es es1 rs i.linked st.within r;
      falling = record {
        falls = λ p q pq qt. let x = lower p (omega arith) in let y = lower q qt in let z = f.falls p q pq (omega arith) in omega arith;
        positive = λ p h. let x = lower p h in let y = above-next b s t es rs i st p h in omega arith;
        most = λ p h. let x = lower p h in let y = f.most p (omega arith) in omega arith;
        levels = λ p h. f.levels p (omega arith);
      };
      few = i.few;
      based = after-bound b i.based;
    }

pub lowered-counts : (b s t : ℕ) (es es1 : List Entry) (rs : List Rank) → IsRight b es rs s → StopsAt (after b) s t rs → Fallen s t es es1
    → map (count_at (after b)) es1 ≡ map lowered (map (count_at b) es)
lowered-counts b s t es es1 rs i st r =
    let l = i.linked in let f = i.falling in
    ext_get_or 0 (map (count_at (after b)) es1) (map lowered (map (count_at b) es))
    (length-map (count_at (after b)) es1 ∙ r.entries ∙ sym (length-map lowered (map (count_at b) es) ∙ length-map (count_at b) es))
    (λ j h1.
    let h2 : j < length es1 = subst (λ (n : ℕ). j < n) (length-map (count_at (after b)) es1) h1 in
    let h : j < length es = subst (λ (n : ℕ). j < n) r.entries h2 in
    let e = entry_at es j in
    let e1 = entry_at es1 j in
    let o = own s es rs l j h in
    let new = new-state s t es es1 rs l st.within r j h in
    let level = (same-rank s t es es1 r j h).1 in
    let w = st.within in
    let left = get_or-map (count_at (after b)) es1 j no_entry 0 h2 in
    let right : get_or (map lowered (map (count_at b) es)) j 0 ≡ lowered (count_at b e) = get_or-map lowered (map (count_at b) es) j 0 0 (subst (λ (n : ℕ). j < n) (sym (length-map (count_at b) es)) h) ∙ ap lowered (get_or-map (count_at b) es j no_entry 0 h) in
    left ∙ elim (cases_lt e.rank s) as (λ _. count_at (after b) e1 ≡ lowered (count_at b e)) [
      | inl below ↦
          let was : ltb e.rank s ≡ true = grind (arith, nat_tests) in
          let is = o.0 ∙ was in
          let p : 1 ≤ above b e.level = subst (λ (n : ℕ). 1 ≤ above b n) (sym o.1) (f.positive e.rank below) in
          let bound : e.level < 2 ^ 64 = subst (λ (n : ℕ). n < 2 ^ 64) (sym o.1) (f.levels e.rank below) in
          elim (cases_lt e.rank t) as (λ _. count_at (after b) e1 ≡ lowered (count_at b e)) [
            | inl low ↦
                let now : ltb e.rank t ≡ true = grind (arith, nat_tests) in
                ap (λ (c : Bool). cond c (above (after b) e1.level) 0) (new ∙ now) ∙ ap (above (after b)) level ∙ above-after b e.level i.based bound p
                ∙ sym (ap (λ (c : Bool). lowered (cond c (above b e.level) 0)) is)
            | inr high ↦
                let now : ltb e.rank t ≡ false = grind (arith, nat_tests) in
                let at : e.level ≡ after b = o.1 ∙ st.here e.rank high below in
                let one : above b e.level ≡ 1 = eqb-true (above b e.level) 1 (above-one b e.level i.based bound ∙ eq-eqb e.level (after b) at) in
                ap (λ (c : Bool). cond c (above (after b) e1.level) 0) (new ∙ now)
                ∙ sym (ap (λ (c : Bool). lowered (cond c (above b e.level) 0)) is ∙ ap lowered one)
          ]
      | inr past ↦
          let was : ltb e.rank s ≡ false = grind (arith, nat_tests) in
          let now : ltb e.rank t ≡ false = grind (arith, nat_tests) in
          ap (λ (c : Bool). cond c (above (after b) e1.level) 0) (new ∙ now)
          ∙ sym (ap (λ (c : Bool). lowered (cond c (above b e.level) 0)) (o.0 ∙ was))
    ] ∙ sym right)

-- those at the new base are those whose count is 1
pub at-base-old : (b s : ℕ) (es : List Entry) (rs : List Rank) → IsRight b es rs s → at_base (after b) es ≡ standing 1 (map (count_at b) es)
at-base-old b s es rs i = counted-by (one_at (after b)) (one_standing 1) (count_at b) es (λ j h.
    let e = entry_at es j in
    let o = own s es rs i.linked j h in
    elim (cases_lt e.rank s) [
      | inl low ↦
          let was : ltb e.rank s ≡ true = grind (arith, nat_tests) in
          let is = o.0 ∙ was in
          let bound : e.level < 2 ^ 64 = subst (λ (n : ℕ). n < 2 ^ 64) (sym o.1) (i.falling.levels e.rank low) in
          ap (λ (c : Bool). cond (c && (e.level == after b)) 1 0) is ∙ ap (λ (c : Bool). cond c 1 0) (sym (above-one b e.level i.based bound)) ∙ sym (ap (λ (c : Bool). one_standing 1 (cond c (above b e.level) 0)) is)
      | inr high ↦
          let was : ltb e.rank s ≡ false = grind (arith, nat_tests) in
          let is = o.0 ∙ was in
          ap (λ (c : Bool). cond (c && (e.level == after b)) 1 0) is ∙ sym (ap (λ (c : Bool). one_standing 1 (cond c (above b e.level) 0)) is)
    ])

-- and afterwards none that is suspended stands there
pub at-base-new : (b s t : ℕ) (es es1 : List Entry) (rs : List Rank) → IsRight b es rs s → StopsAt (after b) s t rs → Fallen s t es es1 → at_base (after b) es1 ≡ 0
at-base-new b s t es es1 rs i st r = none-counted (one_at (after b)) es1 (λ j h1.
    let h : j < length es = subst (λ (n : ℕ). j < n) r.entries h1 in
    let e = entry_at es j in
    let e1 = entry_at es1 j in
    let new = new-state s t es es1 rs i.linked st.within r j h in
    let o = own s es rs i.linked j h in
    let w = st.within in
    elim (cases_lt e.rank t) [
      | inl low ↦
          let now : ltb e.rank t ≡ true = grind (arith, nat_tests) in
          let two : 2 ≤ above b e.level = subst (λ (n : ℕ). 2 ≤ above b n) (sym o.1) (above-next b s t es rs i st e.rank low) in
          let not_one : (above b e.level == 1) ≡ false = grind (arith, nat_tests) in
          let bound : e.level < 2 ^ 64 = subst (λ (n : ℕ). n < 2 ^ 64) (sym o.1) (i.falling.levels e.rank (omega arith)) in
          let off : (e1.level == after b) ≡ false = ap (λ (n : ℕ). n == after b) (same-rank s t es es1 r j h).1 ∙ sym (above-one b e.level i.based bound) ∙ not_one in
          ap (λ (c : Bool). cond (c && (e1.level == after b)) 1 0) (new ∙ now) ∙ ap (λ (c : Bool). cond c 1 0) off
      | inr high ↦
          let now : ltb e.rank t ≡ false = grind (arith, nat_tests) in
          ap (λ (c : Bool). cond (c && (e1.level == after b)) 1 0) (new ∙ now)
    ])
