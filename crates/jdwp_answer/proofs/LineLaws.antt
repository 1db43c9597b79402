-- Looking up lines entry by entry.
use Rattle.std.proofs.Common.{◌≡◌, false, ℕ, ◌≤◌, ◌<◌, ℤ, pos, ◌≤ℤ◌, ◌<ℤ◌, List, [], ◌∷◌, length, get_or, drop, add-one, drop-cons, ◌+◌, Option, Some, None, inl, inr, refl, sym, ◌∙◌, ap, subst, arith}
use Rattle.std.specs.Prelude.{IsTrue}
use Rattle.std.proofs.lemmas.Int.{ints}
use Rattle.std.proofs.lemmas.List.{drop_all}
use Rattle.jdwp_answer.specs.declared.method.LineEntry.{LineEntry}
use Rattle.jdwp_answer.specs.Lines.{IsLeast, IsLeft, EachBelow, IsEntryAt, Nearest}

z_trans : (a b c : ℤ) → a ≤ℤ b → b ≤ℤ c → a ≤ℤ c
z_trans a b c h k = omega (arith, ints)

z_weak : (a b c : ℤ) → a <ℤ b → b ≤ℤ c → a ≤ℤ c
z_weak a b c h k = omega (arith, ints)

same_pos : (a b : ℕ) → pos a ≡ pos b → a ≡ b
same_pos a b e = cc

same_some : (a b : ℕ) → Some a ≡ Some b → a ≡ b
same_some a b e = cc

none_some : (a : ℕ) → None ≡ Some a → ⊥
none_some a e = cc

pub pos_not_below : (z : ℤ) (n : ℕ) → z <ℤ pos 0 → z ≡ pos n → ⊥
pos_not_below z n below is = omega (arith, ints)

pub not_true : IsTrue false → ⊥
not_true is = cc

pub not_below : (a b : ℤ) → (a <ℤ b → ⊥) → b ≤ℤ a
not_below a b not = search (arith, ints)

n_trans : (a b c : ℕ) → a ≤ b → b ≤ c → a ≤ c
n_trans a b c h k = omega arith

lt_le : (a b : ℕ) → a < b → a ≤ b
lt_le a b h = omega arith

n_refl : (a : ℕ) → a ≤ a
n_refl a = omega arith

-- ---- where a line begins

-- the least of some numbers is that of more, none of which is below each of the first
least_of_more : (P Q : ℕ → Type 0) → ((n : ℕ) → P n → Q n) → ((n : ℕ) → Q n → (m : ℕ) × P m × (m ≤ n)) → (r : Option ℕ) → IsLeast P r → IsLeast Q r
least_of_more P Q within above None none = λ n q. let (m, p, le) = above n q in none m p
least_of_more P Q within above (Some r) (has, least) = (within r has, λ n q. let (m, p, le) = above n q in n_trans r m n (least m p) le)

-- an entry that says nothing of the line
pub least_skip : (line : ℤ) (best : Option ℕ) (e : LineEntry) (xs : List LineEntry) (r : Option ℕ)
    → ((n : ℕ) → (e.line ≡ line) × (e.code_index ≡ pos n) → ⊥) → IsLeast (IsLeft line best xs) r → IsLeast (IsLeft line best (e ∷ xs)) r
least_skip line best e xs r not h = least_of_more (IsLeft line best xs) (IsLeft line best (e ∷ xs))
    (λ n. elim [ inl is ↦ inl is | inr later ↦ inr (inr later) ])
    (λ n. elim [ inl is ↦ (n, inl is, n_refl n) | inr (inl here) ↦ absurd (not n here) | inr (inr later) ↦ (n, inr later, n_refl n) ]) r h

-- the first that says it
pub least_first : (line : ℤ) (start : ℕ) (e : LineEntry) (xs : List LineEntry) (r : Option ℕ)
    → e.line ≡ line → e.code_index ≡ pos start → IsLeast (IsLeft line (Some start) xs) r → IsLeast (IsLeft line None (e ∷ xs)) r
least_first line start e xs r is at h = least_of_more (IsLeft line (Some start) xs) (IsLeft line None (e ∷ xs))
    (λ n. elim [ inl same ↦ inr (inl (is, at ∙ ap (λ k. pos k) (same_some start n same))) | inr later ↦ inr (inr later) ])
    (λ n. elim [
      | inl none ↦ absurd (none_some n none)
      | inr (inl here) ↦ (n, inl (ap (λ k. Some k) (same_pos start n (sym at ∙ here.1))), n_refl n)
      | inr (inr later) ↦ (n, inr later, n_refl n)
    ]) r h

-- one that begins at or above the least so far
pub least_keep : (line : ℤ) (best start : ℕ) (e : LineEntry) (xs : List LineEntry) (r : Option ℕ)
    → e.code_index ≡ pos start → best ≤ start → IsLeast (IsLeft line (Some best) xs) r → IsLeast (IsLeft line (Some best) (e ∷ xs)) r
least_keep line best start e xs r at le h = least_of_more (IsLeft line (Some best) xs) (IsLeft line (Some best) (e ∷ xs))
    (λ n. elim [ inl is ↦ inl is | inr later ↦ inr (inr later) ])
    (λ n. elim [
      | inl is ↦ (n, inl is, n_refl n)
      | inr (inl here) ↦ (best, inl refl, subst (λ (k : ℕ). best ≤ k) (same_pos start n (sym at ∙ here.1)) le)
      | inr (inr later) ↦ (n, inr later, n_refl n)
    ]) r h

-- one that begins below it
pub least_better : (line : ℤ) (best start : ℕ) (e : LineEntry) (xs : List LineEntry) (r : Option ℕ)
    → e.line ≡ line → e.code_index ≡ pos start → start < best → IsLeast (IsLeft line (Some start) xs) r → IsLeast (IsLeft line (Some best) (e ∷ xs)) r
least_better line best start e xs r is at lt h = least_of_more (IsLeft line (Some start) xs) (IsLeft line (Some best) (e ∷ xs))
    (λ n. elim [ inl same ↦ inr (inl (is, at ∙ ap (λ k. pos k) (same_some start n same))) | inr later ↦ inr (inr later) ])
    (λ n. elim [
      | inl other ↦ (start, inl refl, subst (λ (k : ℕ). start ≤ k) (same_some best n other) (lt_le start best lt))
      | inr (inl here) ↦ (n, inl (ap (λ k. Some k) (same_pos start n (sym at ∙ here.1))), n_refl n)
      | inr (inr later) ↦ (n, inr later, n_refl n)
    ]) r h

-- where none is left, it is the least so far
pub least_end : (line : ℤ) (best : Option ℕ) → IsLeast (IsLeft line best []) best
least_end line None = λ n. elim [ inl none ↦ none_some n none | inr nowhere ↦ nowhere ]
least_end line (Some b) = (inl refl, λ n. elim [ inl same ↦ subst (λ (k : ℕ). b ≤ k) (same_some b n same) (n_refl b) | inr nowhere ↦ absurd nowhere ])

-- the entry at hand is the first that is left
pub least_at : (line : ℤ) (best : Option ℕ) (xs ys : List LineEntry) (i : ℕ) (x : LineEntry) (r : Option ℕ)
    → ys ≡ xs → i < length ys → IsLeast (IsLeft line best (get_or ys i x ∷ drop (i + 1) xs)) r → IsLeast (IsLeft line best (drop i xs)) r
least_at line best xs ys i x r same lt h =
    let lt_xs : i < length xs = subst (λ (l : List LineEntry). i < length l) same lt in
    let e : drop i xs ≡ get_or xs i x ∷ drop (i + 1) xs = rw (add-one, drop-cons xs i x) in
    let h_xs = subst (λ (l : List LineEntry). IsLeast (IsLeft line best (get_or l i x ∷ drop (i + 1) xs)) r) same h in
    subst (λ (l : List LineEntry). IsLeast (IsLeft line best l) r) (sym e) h_xs

-- and behind the last, none is left
pub least_over : (line : ℤ) (best : Option ℕ) (xs ys : List LineEntry) (i : ℕ) → ys ≡ xs → length ys ≤ i → IsLeast (IsLeft line best (drop i xs)) best
least_over line best xs ys i same le =
    let le_xs : length xs ≤ i = subst (λ (l : List LineEntry). length l ≤ i) same le in
    subst (λ (l : List LineEntry). IsLeast (IsLeft line best l) best) (sym (drop_all i xs le_xs)) (least_end line best)

-- ---- in which line a code index is

pub nearest_end : (index : ℕ) (best : Option LineEntry) → Nearest index best [] best
nearest_end index None = tt
nearest_end index (Some b) = inl (refl, tt)

-- an entry that is not above the one further on stands before it
before : (index : ℕ) (e : LineEntry) (xs : List LineEntry) (x : LineEntry) → (e.code_index ≤ℤ pos index → e.code_index ≤ℤ x.code_index) → IsEntryAt index xs (Some x) → IsEntryAt index (e ∷ xs) (Some x)
before index e xs x fine (front, back, is, below, none, each) = (e ∷ front, back, ap (λ (l : List LineEntry). e ∷ l) is, below, (fine, none), each)

-- an entry with none as high behind it
at_front : (index : ℕ) (e : LineEntry) (xs : List LineEntry) → e.code_index ≤ℤ pos index → EachBelow index e xs → IsEntryAt index (e ∷ xs) (Some e)
at_front index e xs below each = ([], xs, refl, below, tt, each)

pub nearest_skip : (index : ℕ) (best : Option LineEntry) (e : LineEntry) (xs : List LineEntry) (r : Option LineEntry) → (e.code_index ≤ℤ pos index → ⊥) → Nearest index best xs r → Nearest index best (e ∷ xs) r
nearest_skip index None e xs None ne h = (ne, h)
nearest_skip index None e xs (Some x) ne h = before index e xs x (λ is. absurd (ne is)) h
nearest_skip index (Some b) e xs None ne h = h
nearest_skip index (Some b) e xs (Some x) ne (inl (is, each)) = inl (is, ((λ is. absurd (ne is)), each))
nearest_skip index (Some b) e xs (Some x) ne (inr (here, le)) = inr (before index e xs x (λ is. absurd (ne is)) here, le)

pub nearest_first : (index : ℕ) (e : LineEntry) (xs : List LineEntry) (r : Option LineEntry) → e.code_index ≤ℤ pos index → Nearest index (Some e) xs r → Nearest index None (e ∷ xs) r
nearest_first index e xs None below h = absurd h
nearest_first index e xs (Some x) below (inl (is, each)) = subst (λ (y : LineEntry). IsEntryAt index (e ∷ xs) (Some y)) (sym is) (at_front index e xs below each)
nearest_first index e xs (Some x) below (inr (here, le)) = before index e xs x (λ is. le) here

pub nearest_keep : (index : ℕ) (b e : LineEntry) (xs : List LineEntry) (r : Option LineEntry) → e.code_index <ℤ b.code_index → Nearest index (Some b) xs r → Nearest index (Some b) (e ∷ xs) r
nearest_keep index b e xs None lt h = h
nearest_keep index b e xs (Some x) lt (inl (is, each)) = inl (is, ((λ below. lt), each))
nearest_keep index b e xs (Some x) lt (inr (here, le)) = inr (before index e xs x (λ is. z_weak e.code_index b.code_index x.code_index lt le) here, le)

pub nearest_better : (index : ℕ) (b e : LineEntry) (xs : List LineEntry) (r : Option LineEntry) → e.code_index ≤ℤ pos index → b.code_index ≤ℤ e.code_index → Nearest index (Some e) xs r → Nearest index (Some b) (e ∷ xs) r
nearest_better index b e xs None below le h = h
nearest_better index b e xs (Some x) below le (inl (is, each)) =
    inr (subst (λ (y : LineEntry). IsEntryAt index (e ∷ xs) (Some y) × (b.code_index ≤ℤ y.code_index)) (sym is) (at_front index e xs below each, le))
nearest_better index b e xs (Some x) below le (inr (here, higher)) = inr (before index e xs x (λ is. higher) here, z_trans b.code_index e.code_index x.code_index le higher)
