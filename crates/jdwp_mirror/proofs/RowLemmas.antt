-- Event requests under their numbers, and the breakpoints among them.
use Rattle.std.proofs.Common.{◌≡◌, ℕ, zero, suc, ◌+◌, ◌<◌, Bool, true, false, not, List, [], ◌∷◌, ◌++◌, length, refl, ◌∙◌, ap, sym, subst, Some, None, if◌then◌else◌, cond, Greater, arith}
use Rattle.std.specs.Prelude.{◌==◌}
use Rattle.std.specs.List.{AllByRecursion, IsDistinct, filter, find}
use Rattle.std.specs.List.Sorted.{IsStrictlySortedBy}
use Rattle.std.specs.Ordering.{eq_by_cmp, nat_cmp}
use Rattle.std.specs.Cmp.{unsigned_Decides, unsigned_tied}
use Rattle.std.specs.Map.{keys_of, lookup, remove_entry, values_of}
use Rattle.std.specs.BTreeMap.{is_at}
use Rattle.std.specs.BTreeSet.{insert_key}
use Rattle.std.specs.Set.{remove_key}
use Rattle.std.proofs.lemmas.List.{append-nil}
use Rattle.std.proofs.lemmas.Map.{lookup-none}
use Rattle.std.proofs.lemmas.Map.Keys.{IsDistinct-from_sorted, IsDistinct-head, IsDistinct-tail}
use Rattle.std.proofs.lemmas.Bool.{both_ways, false≢true, false_from_ne_true}
use Rattle.std.proofs.lemmas.Bool.Decides.{nat_tests}
use Rattle.jdwp_mirror.specs.Mirror.{Kept, is_no_kept_breakpoint}
use Rattle.jdwp_mirror.specs.Rows.{IsMarked, Row, breakpoints_in, is_breakpoint_at, is_no_breakpoint_at, without_first}

-- ---- what holds of each

pub all-map : {X : Type 0} (P Q : X → Type 0) → ((x : X) → P x → Q x) → (xs : List X) → AllByRecursion P xs → AllByRecursion Q xs
all-map P Q f [] a = tt
all-map P Q f (x ∷ xs) a = (f x a.0, all-map P Q f xs a.1)

pub all-both : {X : Type 0} (P Q : X → Type 0) (xs : List X) → AllByRecursion P xs → AllByRecursion Q xs → AllByRecursion (λ x. P x × Q x) xs
all-both P Q [] a b = tt
all-both P Q (x ∷ xs) a b = ((a.0, b.0), all-both P Q xs a.1 b.1)

pub all-push : {X : Type 0} (P : X → Type 0) (xs : List X) (y : X) → AllByRecursion P xs → P y → AllByRecursion P (xs ++ y ∷ [])
all-push P [] y a p = (p, tt)
all-push P (x ∷ xs) y a p = (a.0, all-push P xs y a.1 p)

pub all-values : {X : Type 0} (P : X → Type 0) (es : List (ℕ × X)) → AllByRecursion (λ e. P e.1) es → AllByRecursion P (values_of es)
all-values P [] a = tt
all-values P (e ∷ es) a = (a.0, all-values P es a.1)

pub filter-all : {X : Type 0} (stays : X → Bool) (xs : List X) → AllByRecursion (λ x. stays x ≡ true) xs → filter stays xs ≡ xs
filter-all stays [] a = refl
filter-all stays (x ∷ xs) a = rw a.0 (ap (λ ys. x ∷ ys) (filter-all stays xs a.1))

-- ---- numbers apart

pub at-itself : (n : ℕ) → is_at (nat_cmp n) n ≡ true
at-itself n = let same : (n == n) ≡ true = grind (arith, nat_tests) in unsigned_tied n n ∙ same

pub at-same : (n m : ℕ) → is_at (nat_cmp n) m ≡ true → n ≡ m
at-same n m h = (unsigned_Decides n m).0 (sym (unsigned_tied n m) ∙ h)

at-other : (n m : ℕ) → is_at (nat_cmp n) m ≡ false → is_at (nat_cmp m) n ≡ false
at-other n m h = false_from_ne_true (is_at (nat_cmp m) n) (λ t. both_ways (is_at (nat_cmp n) m) h (ap (λ k. is_at (nat_cmp k) m) (sym (at-same m n t)) ∙ at-itself m))

at-above : (n m : ℕ) → m < n → is_at (nat_cmp n) m ≡ false
at-above n m lt = let other : (n == m) ≡ false = grind (arith, nat_tests) in unsigned_tied n m ∙ other

abbrev pub AreApart : {X : Type 0} → List (ℕ × X) → Type 0
AreApart es = IsDistinct (eq_by_cmp nat_cmp) (keys_of es)

-- none stands under this number
abbrev pub NoneAt : {X : Type 0} → ℕ → List (ℕ × X) → Type 0
NoneAt n es = AllByRecursion (λ e. is_at (nat_cmp n) e.0 ≡ false) es

pub apart-sorted : {X : Type 0} (es : List (ℕ × X)) → IsStrictlySortedBy nat_cmp (keys_of es) → AreApart es
apart-sorted es s = IsDistinct-from_sorted nat_cmp (keys_of es) s

none-after : {X : Type 0} (es : List (ℕ × X)) (n : ℕ) → AllByRecursion (λ y. eq_by_cmp nat_cmp n y ≡ false) (keys_of es) → NoneAt n es
none-after [] n a = tt
none-after (e ∷ es) n a = (a.0, none-after es n a.1)

pub apart-tail : {X : Type 0} (x : ℕ × X) (es : List (ℕ × X)) → AreApart (x ∷ es) → AreApart es
apart-tail x es d = IsDistinct-tail (eq_by_cmp nat_cmp) x.0 (keys_of es) d

pub none-behind : {X : Type 0} (x : ℕ × X) (es : List (ℕ × X)) (n : ℕ) → AreApart (x ∷ es) → is_at (nat_cmp n) x.0 ≡ true → NoneAt n es
none-behind x es n d h = subst (λ m. NoneAt m es) (sym (at-same n x.0 h)) (none-after es x.0 (IsDistinct-head (eq_by_cmp nat_cmp) x.0 (keys_of es) d))

pub none-above : {X : Type 0} (es : List (ℕ × X)) (n : ℕ) → AllByRecursion (λ m. m < n) (keys_of es) → NoneAt n es
none-above [] n a = tt
none-above (e ∷ es) n a = (at-above n e.0 a.0, none-above es n a.1)

-- each is found under its number
pub selves : {X : Type 0} (es : List (ℕ × X)) → AreApart es → AllByRecursion (λ e. lookup (is_at (nat_cmp e.0)) es ≡ Some e.1) es
selves [] d = tt
selves {X} (x ∷ es) d =
    let after = none-after es x.0 (IsDistinct-head (eq_by_cmp nat_cmp) x.0 (keys_of es) d) in
    let rest = selves es (apart-tail x es d) in (
      rw (at-itself x.0) refl,
      all-map (λ (e : ℕ × X). (is_at (nat_cmp x.0) e.0 ≡ false) × (lookup (is_at (nat_cmp e.0)) es ≡ Some e.1)) (λ e. lookup (is_at (nat_cmp e.0)) (x ∷ es) ≡ Some e.1) (λ e h. rw (at-other x.0 e.0 h.0) h.1) es
          (all-both (λ (e : ℕ × X). is_at (nat_cmp x.0) e.0 ≡ false) (λ e. lookup (is_at (nat_cmp e.0)) es ≡ Some e.1) es after rest),
    )

-- ---- one is taken out

stay-all : {X : Type 0} (stays : X → Bool) (n : ℕ) (es : List (ℕ × X)) → NoneAt n es → AllByRecursion (λ e. stays e.1 ≡ not (is_at (nat_cmp n) e.0)) es → AllByRecursion (λ v. stays v ≡ true) (values_of es)
stay-all stays n [] a b = tt
stay-all stays n (e ∷ es) a b = (b.0 ∙ ap not a.0, stay-all stays n es a.1 b.1)

-- where all but the one under a number stay
pub values-left : {X : Type 0} (stays : X → Bool) (n : ℕ) (es : List (ℕ × X)) → AreApart es → AllByRecursion (λ e. stays e.1 ≡ not (is_at (nat_cmp n) e.0)) es → values_of (remove_entry (is_at (nat_cmp n)) es) ≡ filter stays (values_of es)
values-left stays n [] d a = refl
values-left stays n (x ∷ es) d a =
    elim (is_at (nat_cmp n) x.0) as (λ b. is_at (nat_cmp n) x.0 ≡ b → values_of (cond b es (x ∷ remove_entry (is_at (nat_cmp n)) es)) ≡ filter stays (x.1 ∷ values_of es)) [
      | true ↦ λ h. rw (a.0 ∙ ap not h) (sym (filter-all stays (values_of es) (stay-all stays n es (none-behind x es n d h) a.1)))
      | false ↦ λ h. rw (a.0 ∙ ap not h) (ap (λ ys. x.1 ∷ ys) (values-left stays n es (apart-tail x es d) a.1))
    ] refl

pub removed-none : {X : Type 0} (es : List (ℕ × X)) (n : ℕ) → NoneAt n es → remove_entry (is_at (nat_cmp n)) es ≡ es
removed-none [] n a = refl
removed-none (x ∷ es) n a = rw a.0 (ap (λ ys. x ∷ ys) (removed-none es n a.1))

pub removed-push : {X : Type 0} (es : List (ℕ × X)) (m n : ℕ) (v : X) → is_at (nat_cmp m) n ≡ false → remove_entry (is_at (nat_cmp m)) (es ++ (n, v) ∷ []) ≡ remove_entry (is_at (nat_cmp m)) es ++ (n, v) ∷ []
removed-push [] m n v h = rw h refl
removed-push (x ∷ es) m n v h =
    elim (is_at (nat_cmp m) x.0) as (λ b. cond b (es ++ (n, v) ∷ []) (x ∷ remove_entry (is_at (nat_cmp m)) (es ++ (n, v) ∷ [])) ≡ cond b es (x ∷ remove_entry (is_at (nat_cmp m)) es) ++ (n, v) ∷ []) [
      | true ↦ refl
      | false ↦ ap (λ ys. x ∷ ys) (removed-push es m n v h)
    ]

pub removed-last : {X : Type 0} (es : List (ℕ × X)) (n : ℕ) (v : X) → NoneAt n es → remove_entry (is_at (nat_cmp n)) (es ++ (n, v) ∷ []) ≡ es
removed-last [] n v a = rw (at-itself n) refl
removed-last (x ∷ es) n v a = rw a.0 (ap (λ ys. x ∷ ys) (removed-last es n v a.1))

pub removed-below : {X : Type 0} (es : List (ℕ × X)) (m n : ℕ) → AllByRecursion (λ k. k < n) (keys_of es) → AllByRecursion (λ k. k < n) (keys_of (remove_entry (is_at (nat_cmp m)) es))
removed-below [] m n a = tt
removed-below (x ∷ es) m n a =
    elim (is_at (nat_cmp m) x.0) as (λ b. AllByRecursion (λ k. k < n) (keys_of (cond b es (x ∷ remove_entry (is_at (nat_cmp m)) es)))) [
      | true ↦ a.1
      | false ↦ (a.0, removed-below es m n a.1)
    ]

pub lookup-left : {X : Type 0} (es : List (ℕ × X)) (n m : ℕ) → is_at (nat_cmp n) m ≡ false → lookup (is_at (nat_cmp m)) (remove_entry (is_at (nat_cmp n)) es) ≡ lookup (is_at (nat_cmp m)) es
lookup-left [] n m h = refl
lookup-left (x ∷ es) n m h =
    elim (is_at (nat_cmp n) x.0) as (λ b. is_at (nat_cmp n) x.0 ≡ b → lookup (is_at (nat_cmp m)) (cond b es (x ∷ remove_entry (is_at (nat_cmp n)) es)) ≡ lookup (is_at (nat_cmp m)) (x ∷ es)) [
      | true ↦ λ t. rw (ap (is_at (nat_cmp m)) (sym (at-same n x.0 t)) ∙ at-other n m h) refl
      | false ↦ λ t. ap (λ o. cond (is_at (nat_cmp m) x.0) (Some x.1) o) (lookup-left es n m h)
    ] refl

pub lookup-last : {X : Type 0} (es : List (ℕ × X)) (n : ℕ) (v : X) → NoneAt n es → lookup (is_at (nat_cmp n)) (es ++ (n, v) ∷ []) ≡ Some v
lookup-last [] n v a = rw (at-itself n) refl
lookup-last (x ∷ es) n v a = rw a.0 (lookup-last es n v a.1)

pub lookup-front : {X : Type 0} (test : ℕ → Bool) (es fs : List (ℕ × X)) (v : X) → lookup test es ≡ Some v → lookup test (es ++ fs) ≡ Some v
lookup-front test [] fs v e = cc
lookup-front test (x ∷ es) fs v e =
    elim (test x.0) as (λ b. cond b (Some x.1) (lookup test es) ≡ Some v → cond b (Some x.1) (lookup test (es ++ fs)) ≡ Some v) [
      | true ↦ λ h. h
      | false ↦ λ h. lookup-front test es fs v h
    ] e

pub values-push : {X : Type 0} (es : List (ℕ × X)) (n : ℕ) (v : X) → values_of (es ++ (n, v) ∷ []) ≡ values_of es ++ v ∷ []
values-push [] n v = refl
values-push (x ∷ es) n v = ap (λ vs. x.1 ∷ vs) (values-push es n v)

-- ---- the numbers of breakpoints

key-none : (ks : List ℕ) (n : ℕ) → AllByRecursion (λ k. is_at (nat_cmp n) k ≡ false) ks → remove_key (is_at (nat_cmp n)) ks ≡ ks
key-none [] n a = refl
key-none (k ∷ ks) n a = rw a.0 (ap (λ ys. k ∷ ys) (key-none ks n a.1))

key-last : (ks : List ℕ) (n : ℕ) → AllByRecursion (λ k. is_at (nat_cmp n) k ≡ false) ks → remove_key (is_at (nat_cmp n)) (ks ++ n ∷ []) ≡ ks
key-last [] n a = rw (at-itself n) refl
key-last (k ∷ ks) n a = rw a.0 (ap (λ ys. k ∷ ys) (key-last ks n a.1))

below : (n m : ℕ) → m < n → nat_cmp n m ≡ Greater
below n m lt = grind (arith, nat_tests)

pub key-inserted : (ks : List ℕ) (n : ℕ) → AllByRecursion (λ k. k < n) ks → insert_key nat_cmp ks n ≡ ks ++ n ∷ []
key-inserted [] n a = refl
key-inserted (k ∷ ks) n a = rw (below n k a.0) (ap (λ ys. k ∷ ys) (key-inserted ks n a.1))

-- what holds of all numbers holds of those of the breakpoints
pub marks-all : (P : ℕ → Type 0) (row : Row) → AllByRecursion P (keys_of row) → AllByRecursion P (breakpoints_in row)
marks-all P [] a = tt
marks-all P (x ∷ row) a =
    elim (is_breakpoint_at x) as (λ b. AllByRecursion P (keys_of (cond b (x ∷ filter is_breakpoint_at row) (filter is_breakpoint_at row)))) [
      | true ↦ (a.0, marks-all P row a.1)
      | false ↦ marks-all P row a.1
    ]

none-keys : {X : Type 0} (es : List (ℕ × X)) (n : ℕ) → NoneAt n es → AllByRecursion (λ k. is_at (nat_cmp n) k ≡ false) (keys_of es)
none-keys [] n a = tt
none-keys (x ∷ es) n a = (a.0, none-keys es n a.1)

pub marks-none : (row : Row) (n : ℕ) → NoneAt n row → remove_key (is_at (nat_cmp n)) (breakpoints_in row) ≡ breakpoints_in row
marks-none row n a = key-none (breakpoints_in row) n (marks-all (λ k. is_at (nat_cmp n) k ≡ false) row (none-keys row n a))

pub marks-removed : (row : Row) (n : ℕ) → AreApart row → breakpoints_in (remove_entry (is_at (nat_cmp n)) row) ≡ remove_key (is_at (nat_cmp n)) (breakpoints_in row)
marks-removed [] n d = refl
marks-removed (x ∷ row) n d =
    let test = is_at (nat_cmp n) in
    let rest = marks-removed row n (apart-tail x row d) in
    elim (test x.0) as (λ b. test x.0 ≡ b → breakpoints_in (cond b row (x ∷ remove_entry test row)) ≡ remove_key test (breakpoints_in (x ∷ row))) [
      | true ↦ λ h. elim (is_breakpoint_at x) as (λ p. breakpoints_in row ≡ remove_key test (keys_of (cond p (x ∷ filter is_breakpoint_at row) (filter is_breakpoint_at row)))) [
        | true ↦ rw h refl
        | false ↦ sym (marks-none row n (none-behind x row n d h))
      ]
      | false ↦ λ h. elim (is_breakpoint_at x) as (λ p. keys_of (cond p (x ∷ filter is_breakpoint_at (remove_entry test row)) (filter is_breakpoint_at (remove_entry test row)))
          ≡ remove_key test (keys_of (cond p (x ∷ filter is_breakpoint_at row) (filter is_breakpoint_at row)))) [
            | true ↦ rw h (ap (λ ks. x.0 ∷ ks) rest)
            | false ↦ rest
          ]
    ] refl

pub marks-push : (row : Row) (n : ℕ) (r : Kept) → breakpoints_in (row ++ (n, r) ∷ []) ≡ breakpoints_in row ++ breakpoints_in ((n, r) ∷ [])
marks-push [] n r = refl
marks-push (x ∷ row) n r =
    elim (is_breakpoint_at x) as (λ p. keys_of (cond p (x ∷ filter is_breakpoint_at (row ++ (n, r) ∷ [])) (filter is_breakpoint_at (row ++ (n, r) ∷ []))) ≡ keys_of (cond p (x ∷ filter is_breakpoint_at row) (filter is_breakpoint_at row)) ++ breakpoints_in ((n, r) ∷ [])) [
      | true ↦ ap (λ ks. x.0 ∷ ks) (marks-push row n r)
      | false ↦ marks-push row n r
    ]

-- the number of the last is taken back
pub marks-undone : (ks : List ℕ) (n : ℕ) (r : Kept) → AllByRecursion (λ k. k < n) ks → remove_key (is_at (nat_cmp n)) (ks ++ breakpoints_in ((n, r) ∷ [])) ≡ ks
marks-undone ks n r a =
    let none = all-map (λ k. k < n) (λ k. is_at (nat_cmp n) k ≡ false) (at-above n) ks a in
    elim (is_breakpoint_at (n, r)) as (λ b. remove_key (is_at (nat_cmp n)) (ks ++ keys_of (cond b ((n, r) ∷ []) [])) ≡ ks) [
      | true ↦ key-last ks n none
      | false ↦ rw (append-nil ks) (key-none ks n none)
    ]

-- the marks of one alone
pub mark-yes : (n : ℕ) (r : Kept) → is_no_kept_breakpoint r ≡ false → breakpoints_in ((n, r) ∷ []) ≡ n ∷ []
mark-yes n r h = rw h refl

pub mark-no : (n : ℕ) (r : Kept) → is_no_kept_breakpoint r ≡ true → breakpoints_in ((n, r) ∷ []) ≡ []
mark-no n r h = rw h refl

-- ---- the first breakpoint

-- what stands under the first of the numbers, and what is left without it
pub record IsFirst (row : Row) (n : ℕ) (rest : List ℕ) : Type 0 where
  pub entry : ℕ × Kept
  pub found : find is_breakpoint_at row ≡ Some entry
  pub number : entry.0 ≡ n
  pub here : lookup (is_at (nat_cmp n)) row ≡ Some entry.1
  pub left : remove_entry (is_at (nat_cmp n)) row ≡ without_first is_no_breakpoint_at row
  pub marks : breakpoints_in (without_first is_no_breakpoint_at row) ≡ rest

none-here : {X : Type 0} (es : List (ℕ × X)) (n : ℕ) (v : X) → lookup (is_at (nat_cmp n)) es ≡ Some v → NoneAt n es → ⊥
none-here es n v e a = let none = lookup-none (is_at (nat_cmp n)) es a in cc

first-behind : (x : ℕ × Kept) (row : Row) (n : ℕ) (rest : List ℕ) → AreApart (x ∷ row) → is_no_breakpoint_at x ≡ true → IsFirst row n rest → IsFirst (x ∷ row) n rest
first-behind x row n rest d h f =
    let apart : is_at (nat_cmp n) x.0 ≡ false = false_from_ne_true (is_at (nat_cmp n) x.0) (λ t. none-here row n f.entry.1 f.here (none-behind x row n d t)) in
    record {
      entry = f.entry;
      found = rw h f.found;
      number = f.number;
      here = rw apart f.here;
      left = rw (apart, h) (ap (λ (xs : Row). x ∷ xs) f.left);
      marks = rw (h, h) f.marks;
    }

pub first-marked : (row : Row) (n : ℕ) (rest : List ℕ) → AreApart row → breakpoints_in row ≡ n ∷ rest → IsFirst row n rest
first-marked [] n rest d e = cc
first-marked (x ∷ row) n rest d e =
    elim (is_no_breakpoint_at x) as (λ b. is_no_breakpoint_at x ≡ b → keys_of (cond (not b) (x ∷ filter is_breakpoint_at row) (filter is_breakpoint_at row)) ≡ n ∷ rest → IsFirst (x ∷ row) n rest) [
      | true ↦ λ h f. first-behind x row n rest d h (first-marked row n rest (apart-tail x row d) f)
      | false ↦ λ h f.
          let number : x.0 ≡ n = cc in
          let marks : breakpoints_in row ≡ rest = cc in
          let here : is_at (nat_cmp n) x.0 ≡ true = ap (is_at (nat_cmp n)) number ∙ at-itself n in
          record { entry = x; found = rw h refl; number = number; here = rw here refl; left = rw (here, h) refl; marks = rw h marks }
    ] refl e

pub first-taken : (row : Row) (marks : List ℕ) (n : ℕ) (rest : List ℕ) → IsMarked row marks → marks ≡ n ∷ rest → IsFirst row n rest
first-taken row marks n rest i e = first-marked row n rest (apart-sorted row i.ordered) (sym i.marked ∙ e)

pub record HasNone (row : Row) : Type 0 where
  pub found : find is_breakpoint_at row ≡ None
  pub left : without_first is_no_breakpoint_at row ≡ row

pub none-marked : (row : Row) → breakpoints_in row ≡ [] → HasNone row
none-marked [] e = record { found = refl; left = refl }
none-marked (x ∷ row) e =
    elim (is_no_breakpoint_at x) as (λ b. is_no_breakpoint_at x ≡ b → keys_of (cond (not b) (x ∷ filter is_breakpoint_at row) (filter is_breakpoint_at row)) ≡ [] → HasNone (x ∷ row)) [
      | true ↦ λ h f. let rest = none-marked row f in record { found = rw h rest.found; left = rw h (ap (λ (xs : Row). x ∷ xs) rest.left) }
      | false ↦ λ h f. cc
    ] refl e

pub entry-same : (x y : ℕ × Kept) → Some x ≡ Some y → x ≡ y
entry-same x y e = cc

no-keys : (ks : List ℕ) → (0 < length ks → false ≡ true) → ks ≡ []
no-keys [] f = refl
no-keys (k ∷ ks) f = let some : 0 < suc (length ks) = omega arith in absurd (false≢true (f some))

pub none-taken : (row : Row) (marks : List ℕ) → IsMarked row marks → (0 < length marks → false ≡ true) → HasNone row
none-taken row marks i f = none-marked row (sym i.marked ∙ no-keys marks f)

-- the first, where it was found
pub first-left : (row : Row) (e : ℕ × Kept) (marks : List ℕ) → AreApart row → breakpoints_in row ≡ marks → find is_breakpoint_at row ≡ Some e → remove_entry (is_at (nat_cmp e.0)) row ≡ without_first is_no_breakpoint_at row
first-left row e [] d m f = let none = none-marked row m in let no : None ≡ Some e = sym none.found ∙ f in absurd (cc)
first-left row e (n ∷ rest) d m f =
    let first = first-marked row n rest d m in
    let same : first.entry ≡ e = entry-same first.entry e (sym first.found ∙ f) in
    let number : e.0 ≡ n = ap (λ (x : ℕ × Kept). x.0) (sym same) ∙ first.number in
    ap (λ k. remove_entry (is_at (nat_cmp k)) row) number ∙ first.left

-- none was found
pub none-left : (row : Row) (marks : List ℕ) → AreApart row → breakpoints_in row ≡ marks → find is_breakpoint_at row ≡ None → without_first is_no_breakpoint_at row ≡ row
none-left row [] d m f = let none = none-marked row m in none.left
none-left row (n ∷ rest) d m f = let first = first-marked row n rest d m in let no : None ≡ Some first.entry = sym f ∙ first.found in absurd (cc)

-- ---- all of them, one after another

pub values-first : (row : Row) → values_of (without_first is_no_breakpoint_at row) ≡ without_first is_no_kept_breakpoint (values_of row)
values-first [] = refl
values-first (x ∷ row) =
    elim (is_no_breakpoint_at x) as (λ b. values_of (if b then x ∷ without_first is_no_breakpoint_at row else row) ≡ (if b then x.1 ∷ without_first is_no_kept_breakpoint (values_of row) else values_of row)) [
      | true ↦ ap (λ (rs : List Kept). x.1 ∷ rs) (values-first row)
      | false ↦ refl
    ]

abbrev pub leave_in : {X : Type 0} → (X → Bool) → List X → ℕ
leave_in stays xs = length (filter (λ x. not (stays x)) xs)

pub marks-count : (row : Row) → length (breakpoints_in row) ≡ leave_in is_no_kept_breakpoint (values_of row)
marks-count [] = refl
marks-count (x ∷ row) =
    elim (is_no_breakpoint_at x) as (λ b. length (keys_of (cond (not b) (x ∷ filter is_breakpoint_at row) (filter is_breakpoint_at row)))
    ≡ length (cond (not b) (x.1 ∷ filter (λ r. not (is_no_kept_breakpoint r)) (values_of row)) (filter (λ r. not (is_no_kept_breakpoint r)) (values_of row)))) [
      | true ↦ marks-count row
      | false ↦ ap suc (marks-count row)
    ]

pub first-stay : {X : Type 0} (stays : X → Bool) (xs : List X) → filter stays (without_first stays xs) ≡ filter stays xs
first-stay stays [] = refl
first-stay stays (x ∷ xs) =
    elim (stays x) as (λ b. stays x ≡ b → filter stays (if b then x ∷ without_first stays xs else xs) ≡ cond b (x ∷ filter stays xs) (filter stays xs)) [
      | true ↦ λ h. rw h (ap (λ ys. x ∷ ys) (first-stay stays xs))
      | false ↦ λ h. refl
    ] refl

pub first-leaves : {X : Type 0} (stays : X → Bool) (xs : List X) (n : ℕ) → leave_in stays xs ≡ suc n → leave_in stays (without_first stays xs) ≡ n
first-leaves stays [] n e = cc
first-leaves stays (x ∷ xs) n e =
    elim (stays x) as (λ b. stays x ≡ b → length (cond (not b) (x ∷ filter (λ x. not (stays x)) xs) (filter (λ x. not (stays x)) xs)) ≡ suc n → leave_in stays (if b then x ∷ without_first stays xs else xs) ≡ n) [
      | true ↦ λ h f. rw h (first-leaves stays xs n f)
      | false ↦ λ h f. cc
    ] refl e

-- one more is taken out, of so many
pub first-count : {X : Type 0} (stays : X → Bool) (xs : List X) (k m n : ℕ) → leave_in stays xs ≡ m → m + k ≡ n → k < n → leave_in stays (without_first stays xs) + (k + 1) ≡ n
first-count stays xs k zero n e f lt = absurd (omega arith)
first-count stays xs k (suc m) n e f lt = let rest = first-leaves stays xs m e in omega arith

pub none-leaves : {X : Type 0} (stays : X → Bool) (xs : List X) → leave_in stays xs ≡ 0 → filter stays xs ≡ xs
none-leaves stays [] e = refl
none-leaves stays (x ∷ xs) e =
    elim (stays x) as (λ b. length (cond (not b) (x ∷ filter (λ x. not (stays x)) xs) (filter (λ x. not (stays x)) xs)) ≡ 0 → cond b (x ∷ filter stays xs) (filter stays xs) ≡ x ∷ xs) [
      | true ↦ λ f. ap (λ ys. x ∷ ys) (none-leaves stays xs f)
      | false ↦ λ f. cc
    ] e
