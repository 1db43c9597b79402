-- Threads found by their ids.
use Rattle.std.proofs.Common.{◌≡◌, ℕ, ◌<◌, Bool, true, false, not, List, [], ◌∷◌, ◌++◌, map, refl, ◌∙◌, ap, sym, Option, Some, None, is_some, if◌then◌else◌, cond, Greater, arith}
use Rattle.std.specs.Prelude.{◌==◌}
use Rattle.std.specs.List.{AllByRecursion, IsDistinct, filter}
use Rattle.std.specs.Ordering.{eq_by_cmp, nat_cmp}
use Rattle.std.specs.Cmp.{unsigned_tied}
use Rattle.std.specs.Map.{lookup, remove_entry, set_value, keys_of, values_of}
use Rattle.std.specs.BTreeMap.{BTreeMap, get, insert_entry, is_at, Updates}
use Rattle.std.specs.List.Sorted.{IsStrictlySortedBy}
use Rattle.std.proofs.lemmas.Map.Entries.{lookup-filter-keys}
use Rattle.std.proofs.lemmas.Map.Keys.{IsDistinct-from_sorted, IsDistinct-head, IsDistinct-tail}
use Rattle.std.proofs.lemmas.Bool.Decides.{nat_tests}
use Rattle.jdwp_value.specs.declared.id.ObjectId.{ObjectId}
use Rattle.jdwp_mirror.specs.declared.threads.Known.{Known}
use Rattle.jdwp_mirror.specs.KnownThreads.{only, count_in, is_held_in, without, AreDistinct}
use Rattle.jdwp_mirror.specs.Numbering.{known_in, number_in, own_number_in, AreNumbered}
use Rattle.jdwp_mirror.proofs.KnownLemmas.{same_from, turned, other_of, rest_of}

abbrev pub Entries : Type 0
Entries = List (ℕ × Known)

-- ---- a thread among them

pub known-count : (ks : List Known) (t : ℕ) (x : Known) → known_in ks t ≡ Some x → count_in ks t ≡ Some x.count
known-count [] t x e = cc
known-count (k ∷ ks) t x e =
    elim (k.id.0 == t) as (λ b. (if b then Some k else known_in ks t) ≡ Some x → (if b then Some k.count else count_in ks t) ≡ Some x.count) [
      | true ↦ λ f. let same : k ≡ x = cc in ap (λ (y : Known). Some y.count) same
      | false ↦ λ f. known-count ks t x f
    ] e

pub known-held : (ks : List Known) (t : ℕ) (x : Known) → known_in ks t ≡ Some x → is_held_in ks t ≡ x.held
known-held [] t x e = cc
known-held (k ∷ ks) t x e =
    elim (k.id.0 == t) as (λ b. (if b then Some k else known_in ks t) ≡ Some x → (if b then k.held else is_held_in ks t) ≡ x.held) [
      | true ↦ λ f. let same : k ≡ x = cc in ap (λ (y : Known). y.held) same
      | false ↦ λ f. known-held ks t x f
    ] e

pub unknown-count : (ks : List Known) (t : ℕ) → known_in ks t ≡ None → count_in ks t ≡ None
unknown-count [] t e = refl
unknown-count (k ∷ ks) t e =
    elim (k.id.0 == t) as (λ b. (if b then Some k else known_in ks t) ≡ None → (if b then Some k.count else count_in ks t) ≡ None) [
      | true ↦ λ f. cc
      | false ↦ λ f. unknown-count ks t f
    ] e

pub unknown-held : (ks : List Known) (t : ℕ) → known_in ks t ≡ None → is_held_in ks t ≡ false
unknown-held [] t e = refl
unknown-held (k ∷ ks) t e =
    elim (k.id.0 == t) as (λ b. (if b then Some k else known_in ks t) ≡ None → (if b then k.held else is_held_in ks t) ≡ false) [
      | true ↦ λ f. cc
      | false ↦ λ f. unknown-held ks t f
    ] e

-- the thread that a packet is about
abbrev pub own_in : Option ObjectId → List Known → Option Known
own_in None ks = None
own_in (Some t) ks = known_in ks t.0

-- ---- found under its number

at_itself : (n : ℕ) → is_at (nat_cmp n) n ≡ true
at_itself n = let same : (n == n) ≡ true = grind (arith, nat_tests) in unsigned_tied n n ∙ same

at_other : (n m : ℕ) → eq_by_cmp nat_cmp m n ≡ false → is_at (nat_cmp n) m ≡ false
at_other n m e = unsigned_tied n m ∙ turned m n (sym (unsigned_tied m n) ∙ e)

number-apart : (es : Entries) (m t n : ℕ) → AllByRecursion (λ y. eq_by_cmp nat_cmp m y ≡ false) (keys_of es) → number_in es t ≡ Some n → is_at (nat_cmp n) m ≡ false
number-apart [] m t n a e = cc
number-apart (x ∷ es) m t n a e =
    elim (x.1.id.0 == t) as (λ b. (if b then Some x.0 else number_in es t) ≡ Some n → is_at (nat_cmp n) m ≡ false) [
      | true ↦ λ f. let same : x.0 ≡ n = cc in at_other n m (ap (eq_by_cmp nat_cmp m) (sym same) ∙ a.0)
      | false ↦ λ f. number-apart es m t n a.1 f
    ] e

found-under : (es : Entries) (t n : ℕ) → IsDistinct (eq_by_cmp nat_cmp) (keys_of es) → number_in es t ≡ Some n → lookup (is_at (nat_cmp n)) es ≡ known_in (values_of es) t
found-under [] t n d e = cc
found-under (x ∷ es) t n d e =
    elim (x.1.id.0 == t) as (λ b. (if b then Some x.0 else number_in es t) ≡ Some n → cond (is_at (nat_cmp n) x.0) (Some x.1) (lookup (is_at (nat_cmp n)) es) ≡ (if b then Some x.1 else known_in (values_of es) t)) [
      | true ↦ λ f. let same : x.0 ≡ n = cc in rw (same, at_itself n) refl
      | false ↦ λ f. rw (number-apart es x.0 t n (IsDistinct-head (eq_by_cmp nat_cmp) x.0 (keys_of es) d) f) (found-under es t n (IsDistinct-tail (eq_by_cmp nat_cmp) x.0 (keys_of es) d) f)
    ] e

missing-known : (es : Entries) (t : ℕ) → number_in es t ≡ None → known_in (values_of es) t ≡ None
missing-known [] t e = refl
missing-known (x ∷ es) t e =
    elim (x.1.id.0 == t) as (λ b. (if b then Some x.0 else number_in es t) ≡ None → (if b then Some x.1 else known_in (values_of es) t) ≡ None) [
      | true ↦ λ f. cc
      | false ↦ λ f. missing-known es t f
    ] e

distinct-numbers : (threads : Entries) (numbers : BTreeMap ℕ ℕ) → AreNumbered threads numbers → IsDistinct (eq_by_cmp nat_cmp) (keys_of threads)
distinct-numbers threads numbers s = IsDistinct-from_sorted nat_cmp (keys_of threads) s.ordered

pub found : (threads : Entries) (numbers : BTreeMap ℕ ℕ) (t n : ℕ) → AreNumbered threads numbers → get nat_cmp numbers t ≡ Some n → lookup (is_at (nat_cmp n)) threads ≡ known_in (values_of threads) t
found threads numbers t n s e = found-under threads t n (distinct-numbers threads numbers s) (sym (s.found t) ∙ e)

pub missing : (threads : Entries) (numbers : BTreeMap ℕ ℕ) (t : ℕ) → AreNumbered threads numbers → get nat_cmp numbers t ≡ None → known_in (values_of threads) t ≡ None
missing threads numbers t s e = missing-known threads t (sym (s.found t) ∙ e)

pub own-found : (threads : Entries) (numbers : BTreeMap ℕ ℕ) (thread : Option ObjectId) (n : ℕ) → AreNumbered threads numbers → own_number_in numbers thread ≡ Some n → lookup (is_at (nat_cmp n)) threads ≡ own_in thread (values_of threads)
own-found threads numbers None n s e = cc
own-found threads numbers (Some t) n s e = found threads numbers t.0 n s e

pub own-missing : (threads : Entries) (numbers : BTreeMap ℕ ℕ) (thread : Option ObjectId) → AreNumbered threads numbers → own_number_in numbers thread ≡ None → own_in thread (values_of threads) ≡ None
own-missing threads numbers None s e = refl
own-missing threads numbers (Some t) s e = missing threads numbers t.0 s e

number-count : (es : Entries) (t : ℕ) → is_some (number_in es t) ≡ is_some (count_in (values_of es) t)
number-count [] t = refl
number-count (x ∷ es) t =
    elim (x.1.id.0 == t) as (λ b. is_some (if b then Some x.0 else number_in es t) ≡ is_some (if b then Some x.1.count else count_in (values_of es) t)) [
      | true ↦ refl
      | false ↦ number-count es t
    ]

-- known exactly where its number is kept
pub numbered-count : (threads : Entries) (numbers : BTreeMap ℕ ℕ) (ks : List Known) (t : ℕ) → AreNumbered threads numbers → values_of threads ≡ ks → is_some (count_in ks t) ≡ is_some (get nat_cmp numbers t)
numbered-count threads numbers ks t s e = ap (λ (xs : List Known). is_some (count_in xs t)) (sym e) ∙ sym (ap is_some (s.found t) ∙ number-count threads t)

pub none-from : (n : Option ℕ) → is_some n ≡ false → n ≡ None
none-from None e = refl
none-from (Some n) e = cc

-- ---- added

below : (n m : ℕ) → m < n → nat_cmp n m ≡ Greater
below n m lt = grind (arith, nat_tests)

pub inserted-last : {X : Type 0} (es : List (ℕ × X)) (n : ℕ) (k : X) → AllByRecursion (λ m. m < n) (keys_of es) → insert_entry nat_cmp es n k ≡ es ++ (n, k) ∷ []
inserted-last [] n k a = refl
inserted-last (x ∷ es) n k a = rw (below n x.0 a.0) (ap (λ ys. x ∷ ys) (inserted-last es n k a.1))

pub values-added : (es : Entries) (n : ℕ) (k : Known) → values_of (es ++ (n, k) ∷ []) ≡ values_of es ++ k ∷ []
values-added [] n k = refl
values-added (x ∷ es) n k = ap (λ (ks : List Known). x.1 ∷ ks) (values-added es n k)

apart_by : (a b c : ℕ) → (a == c) ≡ false → (a == b) ≡ true → (c == b) ≡ false
apart_by a b c e f = grind (arith, nat_tests)

number-added : (es : Entries) (n : ℕ) (k : Known) → count_in (values_of es) k.id.0 ≡ None → (t : ℕ) → number_in (es ++ (n, k) ∷ []) t ≡ (if k.id.0 == t then Some n else number_in es t)
number-added [] n k e t = refl
number-added (x ∷ es) n k e t =
    let other = other_of (x.1.id.0 == k.id.0) x.1.count (count_in (values_of es) k.id.0) e in
    let rest = rest_of (x.1.id.0 == k.id.0) x.1.count (count_in (values_of es) k.id.0) e in
    elim (x.1.id.0 == t) as (λ b. (x.1.id.0 == t) ≡ b → (if b then Some x.0 else number_in (es ++ (n, k) ∷ []) t) ≡ (if k.id.0 == t then Some n else (if b then Some x.0 else number_in es t))) [
      | true ↦ λ f. rw (apart_by x.1.id.0 t k.id.0 other f) refl
      | false ↦ λ f. number-added es n k rest t
    ] refl

pub numbered-added : (old new : Entries) (before after : BTreeMap ℕ ℕ) (n : ℕ) (k : Known) → AreNumbered old before → count_in (values_of old) k.id.0 ≡ None
    → new ≡ old ++ (n, k) ∷ [] → IsStrictlySortedBy nat_cmp (keys_of new) → Updates nat_cmp before after k.id.0 (Some n) → AreNumbered new after
numbered-added old new before after n k s e entries ordered u = record {
  ordered = ordered;
  found = λ q. u.0 q ∙ (rw (unsigned_tied k.id.0 q) (ap (λ (o : Option ℕ). if k.id.0 == q then Some n else o) (s.found q) ∙ sym (number-added old n k e q)) ∙ ap (λ (es : Entries). number_in es q) (sym entries));
}

unknown-number : (es : Entries) (t : ℕ) → count_in (values_of es) t ≡ None → number_in es t ≡ None
unknown-number [] t e = refl
unknown-number (x ∷ es) t e =
    elim (x.1.id.0 == t) as (λ b. (if b then Some x.1.count else count_in (values_of es) t) ≡ None → (if b then Some x.0 else number_in es t) ≡ None) [
      | true ↦ λ f. cc
      | false ↦ λ f. unknown-number es t f
    ] e

-- a number that was taken back
back : (es : Entries) (t n q : ℕ) (b : Bool) → (t == q) ≡ b → count_in (values_of es) t ≡ None → (if b then None else (if b then Some n else number_in es q)) ≡ number_in es q
back es t n q true h e = sym (ap (number_in es) (sym (same_from t q h)) ∙ unknown-number es t e)
back es t n q false h e = refl

pub numbered-undone : (old new : Entries) (before between after : BTreeMap ℕ ℕ) (t n : ℕ) → AreNumbered old before → count_in (values_of old) t ≡ None
    → new ≡ old → IsStrictlySortedBy nat_cmp (keys_of new) → Updates nat_cmp before between t (Some n) → Updates nat_cmp between after t None → AreNumbered new after
numbered-undone old new before between after t n s e entries ordered u v = record {
  ordered = ordered;
  found = λ q.
      v.0 q ∙ (rw (unsigned_tied t q) (ap (λ (o : Option ℕ). if t == q then None else o) (u.0 q ∙ rw (unsigned_tied t q) (ap (λ (o : Option ℕ). if t == q then Some n else o) (s.found q)))
      ∙ back old t n q (t == q) refl e) ∙ ap (λ (es : Entries). number_in es q) (sym entries));
}

-- ---- taken out

without-none : (ks : List Known) (t : ℕ) → count_in ks t ≡ None → without t ks ≡ ks
without-none [] t e = refl
without-none (k ∷ ks) t e =
    elim (k.id.0 == t) as (λ b. (if b then Some k.count else count_in ks t) ≡ None → (if not b then k ∷ without t ks else without t ks) ≡ k ∷ ks) [
      | true ↦ λ f. cc
      | false ↦ λ f. ap (λ (xs : List Known). k ∷ xs) (without-none ks t f)
    ] e

pub without-unknown : (ks : List Known) (t : ℕ) → known_in ks t ≡ None → without t ks ≡ ks
without-unknown ks t e = without-none ks t (unknown-count ks t e)

values-removed : (es : Entries) (t n : ℕ) → AreDistinct (values_of es) → IsDistinct (eq_by_cmp nat_cmp) (keys_of es) → number_in es t ≡ Some n → values_of (remove_entry (is_at (nat_cmp n)) es) ≡ without t (values_of es)
values-removed [] t n d i e = cc
values-removed (x ∷ es) t n d i e =
    elim (x.1.id.0 == t) as (λ b. (x.1.id.0 == t) ≡ b → (if b then Some x.0 else number_in es t) ≡ Some n
    → values_of (remove_entry (is_at (nat_cmp n)) (x ∷ es)) ≡ (if not b then x.1 ∷ without t (values_of es) else without t (values_of es))) [
      | true ↦ λ h f.
          let same : x.0 ≡ n = cc in
          rw (same, at_itself n) (sym (without-none (values_of es) t (ap (count_in (values_of es)) (sym (same_from x.1.id.0 t h)) ∙ d.0)))
      | false ↦ λ h f.
          let other = number-apart es x.0 t n (IsDistinct-head (eq_by_cmp nat_cmp) x.0 (keys_of es) i) f in
          rw other (ap (λ (ks : List Known). x.1 ∷ ks) (values-removed es t n d.1 (IsDistinct-tail (eq_by_cmp nat_cmp) x.0 (keys_of es) i) f))
    ] refl e

number-removed : (es : Entries) (t n : ℕ) → AreDistinct (values_of es) → IsDistinct (eq_by_cmp nat_cmp) (keys_of es) → number_in es t ≡ Some n
    → (q : ℕ) → number_in (remove_entry (is_at (nat_cmp n)) es) q ≡ (if t == q then None else number_in es q)
number-removed [] t n d i e q = cc
number-removed (x ∷ es) t n d i e q =
    elim (x.1.id.0 == t) as (λ b. (x.1.id.0 == t) ≡ b → (if b then Some x.0 else number_in es t) ≡ Some n
    → number_in (remove_entry (is_at (nat_cmp n)) (x ∷ es)) q ≡ (if t == q then None else (if x.1.id.0 == q then Some x.0 else number_in es q))) [
      | true ↦ λ h f.
          let same : x.0 ≡ n = cc in
          let here : x.1.id.0 ≡ t = same_from x.1.id.0 t h in
          rw (same, at_itself n, sym here) (elim (x.1.id.0 == q) as (λ b. (x.1.id.0 == q) ≡ b → number_in es q ≡ (if b then None else (if b then Some n else number_in es q))) [
            | true ↦ λ g. ap (number_in es) (sym (same_from x.1.id.0 q g)) ∙ unknown-number es x.1.id.0 d.0
            | false ↦ λ g. refl
          ] refl)
      | false ↦ λ h f.
          let other = number-apart es x.0 t n (IsDistinct-head (eq_by_cmp nat_cmp) x.0 (keys_of es) i) f in
          let rest = number-removed es t n d.1 (IsDistinct-tail (eq_by_cmp nat_cmp) x.0 (keys_of es) i) f q in
          rw other (elim (x.1.id.0 == q) as (λ b. (x.1.id.0 == q) ≡ b → (if b then Some x.0 else number_in (remove_entry (is_at (nat_cmp n)) es) q) ≡ (if t == q then None else (if b then Some x.0 else number_in es q))) [
            | true ↦ λ g. rw (apart_by x.1.id.0 q t h g) refl
            | false ↦ λ g. rest
          ] refl)
    ] refl e

pub threads-removed : (threads : Entries) (numbers : BTreeMap ℕ ℕ) (t n : ℕ) → AreNumbered threads numbers → AreDistinct (values_of threads) → get nat_cmp numbers t ≡ Some n
    → values_of (remove_entry (is_at (nat_cmp n)) threads) ≡ without t (values_of threads)
threads-removed threads numbers t n s d e = values-removed threads t n d (distinct-numbers threads numbers s) (sym (s.found t) ∙ e)

pub numbered-removed : (old new : Entries) (before after : BTreeMap ℕ ℕ) (t n : ℕ) → AreNumbered old before → AreDistinct (values_of old) → get nat_cmp before t ≡ Some n
    → new ≡ remove_entry (is_at (nat_cmp n)) old → IsStrictlySortedBy nat_cmp (keys_of new) → Updates nat_cmp before after t None → AreNumbered new after
numbered-removed old new before after t n s d e entries ordered u = record {
  ordered = ordered;
  found = λ q.
      u.0 q ∙ (rw (unsigned_tied t q) (ap (λ (o : Option ℕ). if t == q then None else o) (s.found q) ∙ sym (number-removed old t n d (distinct-numbers old before s) (sym (s.found t) ∙ e) q))
      ∙ ap (λ (es : Entries). number_in es q) (sym entries));
}

-- ---- some of them

abbrev pub only_entries : (ℕ → Bool) → Entries → Entries
only_entries test es = filter (λ (x : ℕ × Known). test x.1.id.0) es

pub values-only : (test : ℕ → Bool) (es : Entries) → values_of (only_entries test es) ≡ only test (values_of es)
values-only test [] = refl
values-only test (x ∷ es) =
    elim (test x.1.id.0) as (λ b. values_of (if b then x ∷ only_entries test es else only_entries test es) ≡ (if b then x.1 ∷ only test (values_of es) else only test (values_of es))) [
      | true ↦ ap (λ (ks : List Known). x.1 ∷ ks) (values-only test es)
      | false ↦ values-only test es
    ]

neither : (b : Bool) → number_in [] 0 ≡ (if b then number_in [] 0 else None)
neither true = refl
neither false = refl

number-only : (test : ℕ → Bool) (es : Entries) (t : ℕ) → number_in (only_entries test es) t ≡ (if test t then number_in es t else None)
number-only test [] t = neither (test t)
number-only test (x ∷ es) t =
    elim (x.1.id.0 == t) as (λ b. (x.1.id.0 == t) ≡ b → number_in (only_entries test (x ∷ es)) t ≡ (if test t then (if b then Some x.0 else number_in es t) else None)) [
      | true ↦ λ e.
          let same : x.1.id.0 ≡ t = same_from x.1.id.0 t e in
          elim (test x.1.id.0) as (λ b. test x.1.id.0 ≡ b → number_in (if b then x ∷ only_entries test es else only_entries test es) t ≡ (if test t then Some x.0 else None)) [
            | true ↦ λ f. rw (e, sym (ap test same) ∙ f) refl
            | false ↦ λ f. rw (sym (ap test same) ∙ f) (number-only test es t ∙ rw (sym (ap test same) ∙ f) refl)
          ] refl
      | false ↦ λ e.
          elim (test x.1.id.0) as (λ b. number_in (if b then x ∷ only_entries test es else only_entries test es) t ≡ (if test t then number_in es t else None)) [
            | true ↦ rw e (number-only test es t)
            | false ↦ number-only test es t
          ]
    ] refl

alike : (test : ℕ → Bool) (t k : ℕ) → is_at (nat_cmp t) k ≡ true → test k ≡ test t
alike test t k e = ap test (sym (same_from t k (sym (unsigned_tied t k) ∙ e)))

pub numbered-only : (test : ℕ → Bool) (old new : Entries) (before after : BTreeMap ℕ ℕ) → AreNumbered old before → new ≡ only_entries test old → IsStrictlySortedBy nat_cmp (keys_of new)
    → after.entries ≡ filter (λ (x : ℕ × ℕ). test x.0) before.entries → AreNumbered new after
numbered-only test old new before after s entries ordered numbers = record {
  ordered = ordered;
  found = λ t.
      ap (λ (xs : List (ℕ × ℕ)). lookup (is_at (nat_cmp t)) xs) numbers
      ∙ (lookup-filter-keys (is_at (nat_cmp t)) test (test t) (alike test t) before.entries
      ∙ (ap (λ (o : Option ℕ). if test t then o else None) (s.found t) ∙ (sym (number-only test old t) ∙ ap (λ (es : Entries). number_in es t) (sym entries))));
}

-- ---- changed

pub known-id : (ks : List Known) (t : ℕ) (w : Known) → known_in ks t ≡ Some w → w.id.0 ≡ t
known-id [] t w e = cc
known-id (k ∷ ks) t w e =
    elim (k.id.0 == t) as (λ b. (k.id.0 == t) ≡ b → (if b then Some k else known_in ks t) ≡ Some w → w.id.0 ≡ t) [
      | true ↦ λ j f. let same : k ≡ w = cc in ap (λ (x : Known). x.id.0) (sym same) ∙ same_from k.id.0 t j
      | false ↦ λ j f. known-id ks t w f
    ] refl e

pub own-number : (ks : List Known) (numbers : BTreeMap ℕ ℕ) (thread : Option ObjectId) (n : ℕ) (w : Known) → own_number_in numbers thread ≡ Some n → own_in thread ks ≡ Some w → get nat_cmp numbers w.id.0 ≡ Some n
own-number ks numbers None n w e f = cc
own-number ks numbers (Some t) n w e f = ap (get nat_cmp numbers) (known-id ks t.0 w f) ∙ e

-- another in place of the thread with its id
abbrev pub put_in : Known → Known → Known
put_in new k = if k.id.0 == new.id.0 then new else k

pub put-absent : (v : Known) (ks : List Known) → count_in ks v.id.0 ≡ None → map (put_in v) ks ≡ ks
put-absent v [] e = refl
put-absent v (k ∷ ks) e =
    let other : (k.id.0 == v.id.0) ≡ false = other_of (k.id.0 == v.id.0) k.count (count_in ks v.id.0) e in
    let rest = put-absent v ks (rest_of (k.id.0 == v.id.0) k.count (count_in ks v.id.0) e) in
    ap (λ (b : Bool). (if b then v else k) ∷ map (put_in v) ks) other ∙ ap (λ (xs : List Known). k ∷ xs) rest

put-at : (v : Known) (es : Entries) (n : ℕ) → AreDistinct (values_of es) → IsDistinct (eq_by_cmp nat_cmp) (keys_of es) → number_in es v.id.0 ≡ Some n
    → values_of (set_value (is_at (nat_cmp n)) es v) ≡ map (put_in v) (values_of es)
put-at v [] n d i e = cc
put-at v (x ∷ es) n d i e =
    elim (x.1.id.0 == v.id.0) as (λ b. (x.1.id.0 == v.id.0) ≡ b → (if b then Some x.0 else number_in es v.id.0) ≡ Some n
    → values_of (set_value (is_at (nat_cmp n)) (x ∷ es) v) ≡ (if b then v else x.1) ∷ map (put_in v) (values_of es)) [
      | true ↦ λ j f.
          let same : x.0 ≡ n = cc in
          let absent : count_in (values_of es) v.id.0 ≡ None = ap (count_in (values_of es)) (sym (same_from x.1.id.0 v.id.0 j)) ∙ d.0 in
          rw (same, at_itself n) (ap (λ (ks : List Known). v ∷ ks) (sym (put-absent v (values_of es) absent)))
      | false ↦ λ j f.
          let other = number-apart es x.0 v.id.0 n (IsDistinct-head (eq_by_cmp nat_cmp) x.0 (keys_of es) i) f in
          rw other (ap (λ (ks : List Known). x.1 ∷ ks) (put-at v es n d.1 (IsDistinct-tail (eq_by_cmp nat_cmp) x.0 (keys_of es) i) f))
    ] refl e

pub put-found : (v : Known) (threads : Entries) (numbers : BTreeMap ℕ ℕ) (n : ℕ) → AreNumbered threads numbers → AreDistinct (values_of threads) → get nat_cmp numbers v.id.0 ≡ Some n
    → values_of (set_value (is_at (nat_cmp n)) threads v) ≡ map (put_in v) (values_of threads)
put-found v threads numbers n s d e = put-at v threads n d (distinct-numbers threads numbers s) (sym (s.found v.id.0) ∙ e)

-- where the thread under a number is replaced by one of its id
number-written : (es : Entries) (n : ℕ) (w v : Known) → lookup (is_at (nat_cmp n)) es ≡ Some v → w.id.0 ≡ v.id.0 → (t : ℕ) → number_in (set_value (is_at (nat_cmp n)) es w) t ≡ number_in es t
number-written [] n w v e i t = refl
number-written (x ∷ es) n w v e i t =
    elim (is_at (nat_cmp n) x.0) as (λ b. (if b then Some x.1 else lookup (is_at (nat_cmp n)) es) ≡ Some v → number_in (if b then (x.0, w) ∷ es else x ∷ set_value (is_at (nat_cmp n)) es w) t ≡ (if x.1.id.0 == t then Some x.0 else number_in es t)) [
      | true ↦ λ f.
          let same : x.1 ≡ v = cc in
          let alike_ids : w.id.0 ≡ x.1.id.0 = i ∙ ap (λ (k : Known). k.id.0) (sym same) in
          ap (λ (u : ℕ). if u == t then Some x.0 else number_in es t) alike_ids
      | false ↦ λ f. ap (λ (o : Option ℕ). if x.1.id.0 == t then Some x.0 else o) (number-written es n w v f i t)
    ] e

pub numbered-written : (old new : Entries) (numbers : BTreeMap ℕ ℕ) (n : ℕ) (w v : Known) → AreNumbered old numbers → lookup (is_at (nat_cmp n)) old ≡ Some v → w.id.0 ≡ v.id.0 → new ≡ set_value (is_at (nat_cmp n)) old w
    → IsStrictlySortedBy nat_cmp (keys_of new) → AreNumbered new numbers
numbered-written old new numbers n w v s g i e ordered = record {
  ordered = ordered;
  found = λ t. s.found t ∙ (sym (number-written old n w v g i t) ∙ ap (λ (es : Entries). number_in es t) (sym e));
}
