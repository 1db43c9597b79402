-- Lists of requests keep their order.
use Rattle.std.proofs.Common.{◌≡◌, ◌∙◌, ℕ, ◌+◌, ◌<◌, ◌≤◌, zero, suc, Bool, true, false, List, [], ◌∷◌, ◌++◌, length, take, drop, get_or, refl, ap, sym, subst, arith, add-one, if◌then◌else◌}
use Rattle.std.specs.Prelude.{nat_lt, ◌==◌}
use Rattle.std.specs.List.{filter, insert}
use Rattle.std.proofs.Math.ListN.{set}
use Rattle.std.proofs.lemmas.List.{drop_more}
use Rattle.std.proofs.lemmas.Bool.Decides.{nat_tests}
use Rattle.jdwp_event.specs.Occurrences.{HappeningMeaning}
use Rattle.jdwp_event.specs.Requests.{AskedRequest, Request}
use Rattle.jdwp_event.specs.Filters.{counted, all_counted, is_of_kind}
use Rattle.jdwp_event.specs.RequestLists.{AllAbove, AllBelow, StartsAbove, AreRising, has_id, placed}
use Rattle.jdwp_event.proofs.Limits.{set_is}

-- ---- a request in its place

above_less : (m n : ℕ) (rs : List Request) → m < n → AllAbove n rs → AllAbove m rs
above_less m n [] lt a = tt
above_less m n (r ∷ rs) lt a = (let b : n < r.asked.id = a.0 in omega arith, above_less m n rs lt a.1)

if_has : (P : List Request → Type 0) (b : Bool) (xs ys : List Request) → P xs → P ys → P (if b then xs else ys)
if_has P true xs ys p q = p
if_has P false xs ys p q = q

if_by : (P : List Request → Type 0) (b : Bool) (xs ys : List Request) → (b ≡ true → P xs) → (b ≡ false → P ys) → P (if b then xs else ys)
if_by P true xs ys p q = p refl
if_by P false xs ys p q = q refl

placed_above : (id : ℕ) (r : Request) (rs : List Request) → id < r.asked.id → AllAbove id rs → AllAbove id (placed r rs)
placed_above id r [] lt a = (lt, tt)
placed_above id r (x ∷ xs) lt a =
    if_has (AllAbove id) (nat_lt x.asked.id r.asked.id) (x ∷ placed r xs) (if x.asked.id == r.asked.id then r ∷ xs else (r ∷ x ∷ xs)) (a.0, placed_above id r xs lt a.1)
    (if_has (AllAbove id) (x.asked.id == r.asked.id) (r ∷ xs) (r ∷ x ∷ xs) (lt, a.1) (lt, a))

less_from : (a b : ℕ) → nat_lt a b ≡ true → a < b
less_from a b e = grind (arith, nat_tests)

same_from : (a b : ℕ) → (a == b) ≡ true → a ≡ b
same_from a b e = grind (arith, nat_tests)

more_from : (a b : ℕ) → nat_lt a b ≡ false → (a == b) ≡ false → b < a
more_from a b e f = grind (arith, nat_tests)

pub placed_rising : (r : Request) (rs : List Request) → AreRising rs → AreRising (placed r rs)
placed_rising r [] rising = (tt, tt)
placed_rising r (x ∷ xs) rising =
    if_by AreRising (nat_lt x.asked.id r.asked.id) (x ∷ placed r xs) (if x.asked.id == r.asked.id then r ∷ xs else (r ∷ x ∷ xs))
    (λ e. (placed_above x.asked.id r xs (less_from x.asked.id r.asked.id e) rising.0, placed_rising r xs rising.1))
    (λ e. if_by AreRising (x.asked.id == r.asked.id) (r ∷ xs) (r ∷ x ∷ xs)
    (λ f. (subst (λ (n : ℕ). AllAbove n xs) (same_from x.asked.id r.asked.id f) rising.0, rising.1))
    (λ f. let lt : r.asked.id < x.asked.id = more_from x.asked.id r.asked.id e f in ((lt, above_less r.asked.id x.asked.id xs lt rising.0), rising)))

lt_true : (a b : ℕ) → a < b → nat_lt a b ≡ true
lt_true a b lt = grind (arith, nat_tests)

lt_false : (a b : ℕ) → b ≤ a → nat_lt a b ≡ false
lt_false a b le = grind (arith, nat_tests)

eq_true : (a b : ℕ) → a ≡ b → (a == b) ≡ true
eq_true a b e = grind (arith, nat_tests)

eq_false : (a b : ℕ) → b < a → (a == b) ≡ false
eq_false a b lt = grind (arith, nat_tests)

placed_front : (r : Request) (rs : List Request) (p : ℕ) → AllBelow r.asked.id (take p rs) → take p rs ++ placed r (drop p rs) ≡ placed r rs
placed_front r [] zero b = refl
placed_front r [] (suc p) b = refl
placed_front r (x ∷ xs) zero b = refl
placed_front r (x ∷ xs) (suc p) b = rw (lt_true x.asked.id r.asked.id b.0) (ap (λ (zs : List Request). x ∷ zs) (placed_front r xs p b.1))

placed_same : (r y : Request) (ys : List Request) → y.asked.id ≡ r.asked.id → placed r (y ∷ ys) ≡ r ∷ ys
placed_same r y ys e = rw (lt_false y.asked.id r.asked.id (omega (arith, e)), eq_true y.asked.id r.asked.id e) refl

pub placed_there : (r : Request) (rs : List Request) (p : ℕ) (d : Request) → p < length rs → AllBelow r.asked.id (take p rs) → (get_or rs p d).asked.id ≡ r.asked.id → set rs p r ≡ placed r rs
placed_there r rs p d lt b e =
    let f : placed r (drop p rs) ≡ r ∷ drop (suc p) rs = rw (drop_more rs p d lt) (placed_same r (get_or rs p d) (drop (p + 1) rs) e ∙ ap (λ (n : ℕ). r ∷ drop n rs) (add-one p)) in
    sym (set_is rs p r lt) ∙ (rw (← f) (placed_front r rs p b))

-- no request of this id comes first
abbrev pub StartsPast : ℕ → List Request → Type 0
StartsPast id [] = Unit {0}
StartsPast id (r ∷ rs) = id < r.asked.id

pub past : (id : ℕ) (rs : List Request) (p : ℕ) (d : Request) → StartsAbove id (drop p rs) → (p < length rs → (get_or rs p d).asked.id ≡ id → ⊥) → StartsPast id (drop p rs)
past id [] zero d above other = tt
past id [] (suc p) d above other = tt
past id (x ∷ xs) zero d above other = let ne : x.asked.id ≡ id → ⊥ = other (omega arith) in omega (arith, above, ne)
past id (x ∷ xs) (suc p) d above other = past id xs p d above (λ lt e. other (omega arith) e)

less_false : (a b : ℕ) → a < b → (a == b) ≡ false
less_false a b lt = grind (arith, nat_tests)

absent_above : (id : ℕ) (rs : List Request) → AllAbove id rs → has_id id rs ≡ false
absent_above id [] a = refl
absent_above id (r ∷ rs) a = rw (eq_false r.asked.id id a.0) (absent_above id rs a.1)

absent_past : (id : ℕ) (rs : List Request) → AreRising rs → StartsPast id rs → has_id id rs ≡ false
absent_past id [] rising lt = refl
absent_past id (r ∷ rs) rising lt = absent_above id (r ∷ rs) (lt, above_less id r.asked.id rs lt rising.0)

-- a request of this id that is not in its place is nowhere
pub absent : (id : ℕ) (rs : List Request) (p : ℕ) → AreRising rs → AllBelow id (take p rs) → StartsPast id (drop p rs) → has_id id rs ≡ false
absent id [] p rising b lt = refl
absent id (x ∷ xs) zero rising b lt = absent_past id (x ∷ xs) rising lt
absent id (x ∷ xs) (suc p) rising b lt = rw (less_false x.asked.id id b.0) (absent id xs p rising.1 b.1 lt)

placed_new : (r : Request) (rs : List Request) → StartsPast r.asked.id rs → placed r rs ≡ r ∷ rs
placed_new r [] lt = refl
placed_new r (x ∷ xs) lt = rw (lt_false x.asked.id r.asked.id (omega (arith, lt)), eq_false x.asked.id r.asked.id lt) refl

pub placed_between : (r : Request) (rs : List Request) (p : ℕ) (d : Request) → AllBelow r.asked.id (take p rs) → StartsAbove r.asked.id (drop p rs) → (p < length rs → (get_or rs p d).asked.id ≡ r.asked.id → ⊥)
    → insert rs p r ≡ placed r rs
placed_between r rs p d b above other = rw (← placed_new r (drop p rs) (past r.asked.id rs p d above other)) (placed_front r rs p b)

pub below_push : (id : ℕ) (rs : List Request) (x : Request) → AllBelow id rs → x.asked.id < id → AllBelow id (rs ++ x ∷ [])
below_push id [] x b lt = (lt, tt)
below_push id (r ∷ rs) x b lt = (b.0, below_push id rs x b.1 lt)

-- ---- fewer

filter_above : (id : ℕ) (test : Request → Bool) (rs : List Request) → AllAbove id rs → AllAbove id (filter test rs)
filter_above id test [] a = tt
filter_above id test (r ∷ rs) a = if_has (AllAbove id) (test r) (r ∷ filter test rs) (filter test rs) (a.0, filter_above id test rs a.1) (filter_above id test rs a.1)

pub filter_rising : (test : Request → Bool) (rs : List Request) → AreRising rs → AreRising (filter test rs)
filter_rising test [] rising = tt
filter_rising test (r ∷ rs) rising = if_has AreRising (test r) (r ∷ filter test rs) (filter test rs) (filter_above r.asked.id test rs rising.0, filter_rising test rs rising.1) (filter_rising test rs rising.1)

-- ---- counted

pub if_asked : (b : Bool) (r s : Request) → r.asked ≡ s.asked → (if b then r else s).asked ≡ s.asked
if_asked true r s e = e
if_asked false r s e = refl

counted_id : (h : HappeningMeaning) (r : Request) → (counted h r).asked.id ≡ r.asked.id
counted_id h r = ap (λ (a : AskedRequest). a.id) (if_asked (is_of_kind h.occurrence r.asked.kind) _ r refl)

counted_above : (id : ℕ) (h : HappeningMeaning) (rs : List Request) → AllAbove id rs → AllAbove id (all_counted h rs)
counted_above id h [] a = tt
counted_above id h (r ∷ rs) a = (subst (λ (n : ℕ). id < n) (sym (counted_id h r)) a.0, counted_above id h rs a.1)

pub counted_rising : (h : HappeningMeaning) (rs : List Request) → AreRising rs → AreRising (all_counted h rs)
counted_rising h [] rising = tt
counted_rising h (r ∷ rs) rising = (subst (λ (n : ℕ). AllAbove n (all_counted h rs)) (sym (counted_id h r)) (counted_above r.asked.id h rs rising.0), counted_rising h rs rising.1)
