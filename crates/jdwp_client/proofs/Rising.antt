-- Answers whose tickets rise, from the first on.
use Rattle.std.proofs.Common.{◌≡◌, ◌∙◌, inl, inr, ℕ, zero, suc, ◌+◌, ◌-◌, ◌<◌, ◌≤◌, ◌++◌, List, [], ◌∷◌, length, get_or, Bool, true, false, nat_lt, Some, None, refl, sym, ap, subst, remove, length-append, arith}
use Rattle.std.specs.List.{position, position_or_len}
use Rattle.std.proofs.Math.Nat.{eq-or-lt_of_le}
use Rattle.std.proofs.Math.ListN.{get_or-append}
use Rattle.std.proofs.lemmas.Bool.Decides.{nat_tests}
use Rattle.std.proofs.lemmas.List.Edits.{get_or-remove_above, get_or-remove_below, length-remove}
use Rattle.std.proofs.lemmas.List.Quantifiers.{position-Some}
use Rattle.std.proofs.lemmas.Option.{slice_get_read}
use Rattle.jdwp_layout.specs.declared.answer.Answer.{Answer}
use Rattle.jdwp_debugger.specs.declared.pending.Ticket.{Ticket}
use Rattle.jdwp_client.specs.Keeping.{HandsOut, Rises, is_under}

abbrev Kept : Type 0
Kept = Ticket × Answer

-- ---- first places

passes-first : {X : Type 0} (p : X → Bool) (x : X) (xs : List X) → p x ≡ true → position_or_len p (x ∷ xs) ≡ 0
passes-first p x xs h = rw h refl

fails-first : {X : Type 0} (p : X → Bool) (x : X) (xs : List X) → p x ≡ false → position_or_len p (x ∷ xs) ≡ suc (position_or_len p xs)
fails-first p x xs h = rw h (omega arith)

first-at : {X : Type 0} (p : X → Bool) (xs : List X) (i : ℕ) → i < length xs → ((d : X) → p (get_or xs i d) ≡ true) → ((k : ℕ) (d : X) → k < i → p (get_or xs k d) ≡ false) → position_or_len p xs ≡ i
first-at p [] i within here before = absurd (omega arith)
first-at p (x ∷ xs) zero within here before = passes-first p x xs (here x)
first-at p (x ∷ xs) (suc i) within here before =
    fails-first p x xs (before 0 x (omega arith)) ∙ ap suc (first-at p xs i (omega arith) here (λ k d less. before (suc k) d (omega arith)))

-- the first that passes is at a place
pub first-is-at : {X : Type 0} (p : X → Bool) (xs : List X) (i : ℕ) → i < length xs → ((d : X) → p (get_or xs i d) ≡ true) → ((k : ℕ) (d : X) → k < i → p (get_or xs k d) ≡ false) → Some i ≡ position p xs
first-is-at p xs i within here before =
    let is = first-at p xs i within here before in
    let test : nat_lt i (length xs) ≡ true = grind (arith, nat_tests) in
    rw (is, test) refl

none-at : {X : Type 0} (p : X → Bool) (xs : List X) → ((k : ℕ) (d : X) → k < length xs → p (get_or xs k d) ≡ false) → position_or_len p xs ≡ length xs
none-at p [] fails = refl
none-at p (x ∷ xs) fails = fails-first p x xs (fails 0 x (omega arith)) ∙ ap suc (none-at p xs (λ k d less. fails (suc k) d (omega arith)))

pub none-is-there : {X : Type 0} (p : X → Bool) (xs : List X) → ((k : ℕ) (d : X) → k < length xs → p (get_or xs k d) ≡ false) → None ≡ position p xs
none-is-there p xs fails =
    let is = none-at p xs fails in
    let test : nat_lt (length xs) (length xs) ≡ false = grind (arith, nat_tests) in
    rw (is, test) refl

-- ---- those that rise

pub rises-none : Rises 0 []
rises-none = (omega arith, λ i j d below within. absurd (omega arith))

pub rises-push : (n : ℕ) (xs : List Kept) (y : Kept) → Rises n xs → Rises n (xs ++ y ∷ [])
rises-push n xs y h = (
  omega (arith, length-append xs (y ∷ []), h.0),
  λ i j d below within.
      let few : n ≤ length xs = h.0 in
      let a = get_or-append xs (y ∷ []) d i (omega arith) in
      let b = get_or-append xs (y ∷ []) d j (omega arith) in
      rw (a, b) (h.1 i j d below within),
)

-- the next one rises, too
later : (n : ℕ) (xs : List Kept) (d : Kept) (i : ℕ) → Rises n xs → (0 < n → (get_or xs (n - 1) d).0.0 < (get_or xs n d).0.0) → i < n → (get_or xs i d).0.0 < (get_or xs n d).0.0
later n xs d i h above less =
    let step = above (omega arith) in
    elim (eq-or-lt_of_le {n = i} {m = n - 1} (omega arith)) [
      | inl same ↦ subst (λ (k : ℕ). (get_or xs k d).0.0 < (get_or xs n d).0.0) (sym same) step
      | inr below ↦ let first = h.1 i (n - 1) d below (omega arith) in omega arith
    ]

pub rises-more : (n : ℕ) (xs : List Kept) → Rises n xs → n < length xs → ((d : Kept) → 0 < n → (get_or xs (n - 1) d).0.0 < (get_or xs n d).0.0) → Rises (n + 1) xs
rises-more n xs h within above = (
  omega arith,
  λ i j d below less.
      elim (eq-or-lt_of_le {n = j} {m = n} (omega arith)) [
        | inl same ↦ subst (λ (k : ℕ). (get_or xs i d).0.0 < (get_or xs k d).0.0) (sym same) (later n xs d i h (above d) (omega arith))
        | inr before ↦ h.1 i j d below before
      ],
)

-- where the ones below a place stand without it, and those above
moved : (xs : List Kept) (place k : ℕ) (d : Kept) → place < length xs → (j : ℕ) × (get_or (remove xs place) k d ≡ get_or xs j d) × (k ≤ j) × (j ≤ k + 1) × ((k < place → j ≡ k) × (place ≤ k → j ≡ k + 1))
moved xs place k d within =
    elim (eq-or-lt_of_le {n = 0} {m = place - k} (omega arith)) [
      | inl none ↦ (k + 1, get_or-remove_above xs place d k (omega arith) within, omega arith, omega arith, (λ less. absurd (omega arith), λ more. refl))
      | inr some ↦ (k, get_or-remove_below xs place d k (omega arith) within, omega arith, omega arith, (λ less. refl, λ more. absurd (omega arith)))
    ]

fits : (n m : ℕ) (xs : List Kept) (place : ℕ) → n ≤ length xs → place < length xs → (place < n → m + 1 ≡ n) → (n ≤ place → m ≡ n) → m ≤ length (remove xs place)
fits n m xs place h within below above =
    let left = length-remove xs place within in
    elim (eq-or-lt_of_le {n = 0} {m = n - place} (omega arith)) [
      | inl none ↦ let same = above (omega arith) in omega arith
      | inr some ↦ let less = below (omega arith) in omega arith
    ]

pub rises-without : (n m : ℕ) (xs : List Kept) (place : ℕ) → Rises n xs → place < length xs → (place < n → m + 1 ≡ n) → (n ≤ place → m ≡ n) → Rises m (remove xs place)
rises-without n m xs place h within below above = (
  fits n m xs place h.0 within below above,
  λ i j d less in-them.
      let a = moved xs place i d within in
      let b = moved xs place j d within in
      let there : (get_or xs a.0 d).0.0 < (get_or xs b.0 d).0.0 = h.1 a.0 b.0 d (grind (arith, a.4.0, a.4.1, b.4.0, b.4.1)) (grind (arith, a.4.0, a.4.1, b.4.0, b.4.1, below, above)) in
      rw (a.1, b.1) there,
)

-- ---- halving

pub below-up : (n : ℕ) (xs : List Kept) (middle t : ℕ) → Rises n xs → middle < n → ((d : Kept) → (get_or xs middle d).0.0 < t) → (i : ℕ) (d : Kept) → i < middle + 1 → (get_or xs i d).0.0 < t
below-up n xs middle t h within less i d in-them =
    elim (eq-or-lt_of_le {n = i} {m = middle} (omega arith)) [
      | inl same ↦ subst (λ (k : ℕ). (get_or xs k d).0.0 < t) (sym same) (less d)
      | inr below ↦ let first = h.1 i middle d below within in let second = less d in omega arith
    ]

pub above-down : (n : ℕ) (xs : List Kept) (middle t : ℕ) → Rises n xs → ((d : Kept) → t ≤ (get_or xs middle d).0.0) → (i : ℕ) (d : Kept) → middle ≤ i → i < n → t ≤ (get_or xs i d).0.0
above-down n xs middle t h more i d in-them within =
    elim (eq-or-lt_of_le {n = middle} {m = i} (omega arith)) [
      | inl same ↦ subst (λ (k : ℕ). t ≤ (get_or xs k d).0.0) same (more d)
      | inr above ↦ let first = h.1 middle i d above within in let second = more d in omega arith
    ]

-- ---- one among them

pub unlike-below : (kept : Kept) (t : ℕ) → kept.0.0 < t → is_under t kept ≡ false
unlike-below kept t h = grind (arith, nat_tests)

unlike-above : (kept : Kept) (t : ℕ) → t < kept.0.0 → is_under t kept ≡ false
unlike-above kept t h = grind (arith, nat_tests)

unlike-at-least : (kept : Kept) (t : ℕ) (least : ℕ) → t ≤ least → least < kept.0.0 → is_under t kept ≡ false
unlike-at-least kept t least h more = unlike-above kept t (omega arith)

-- where it is not at the place at which it would be, it is not among them
pub none-among : (n place : ℕ) (xs : List Kept) (t : ℕ) → Rises n xs → ((i : ℕ) (d : Kept) → i < place → (get_or xs i d).0.0 < t) → ((i : ℕ) (d : Kept) → place ≤ i → i < n → t ≤ (get_or xs i d).0.0)
    → ((d : Kept) → place < length xs → false ≡ is_under t (get_or xs place d)) → (k : ℕ) (d : Kept) → k < n → is_under t (get_or xs k d) ≡ false
none-among n place xs t h before behind at k d less =
    elim (eq-or-lt_of_le {n = 0} {m = place - k} (omega arith)) [
      | inr some ↦ unlike-below (get_or xs k d) t (before k d (omega arith))
      | inl none ↦ elim (eq-or-lt_of_le {n = place} {m = k} (omega arith)) [
        | inl same ↦ subst (λ (j : ℕ). is_under t (get_or xs j d) ≡ false) same (sym (at d (omega (arith, h.0))))
        | inr above ↦ unlike-at-least (get_or xs k d) t (get_or xs place d).0.0 (behind place d (omega arith) (omega arith)) (h.1 place k d above less)
      ]
    ]

-- ---- what is handed out

pub within-list : {X : Type 0} (p : X → Bool) (xs : List X) (i : ℕ) → position p xs ≡ Some i → i < length xs
within-list p [] i h = absurd (let e = h in cc)
within-list p (x ∷ xs) i h = (position-Some p (x ∷ xs) i x h).0

under-is : (kept : Kept) (ticket : Ticket) → is_under ticket.0 kept ≡ true → kept.0.0 ≡ ticket.0
under-is kept ticket h = grind (arith, nat_tests)

pub hands-under : (xs : List Kept) (ticket : Ticket) (i : ℕ) (kept : Kept) (new : List Kept) → position (is_under ticket.0) xs ≡ Some i
    → kept ≡ get_or xs i kept → new ≡ remove xs i → HandsOut (is_under ticket.0) xs (ticket, kept.1) new
hands-under xs ticket i kept new first is others =
    let passes = (position-Some (is_under ticket.0) xs i kept first).1 in
    let within = (position-Some (is_under ticket.0) xs i kept first).0 in
    let own : is_under ticket.0 kept ≡ true = subst (λ (k : Kept). is_under ticket.0 k ≡ true) (sym is) passes in
    let same : Some kept ≡ Some (ticket, kept.1) = ap (λ (n : ℕ). Some (record { 0 = n }, kept.1)) (under-is kept ticket own) in
    record { place = i; first = first; is = slice_get_read xs (length xs) i kept refl within is ∙ same; others = others }
