-- Event requests found by their ids.
use Rattle.std.proofs.Common.{◌≡◌, ℕ, ℤ, ◌<◌, Bool, true, false, not, ◌&&◌, List, [], ◌∷◌, ◌++◌, refl, ◌∙◌, ap, sym, subst, Option, Some, None, cond}
use Rattle.std.specs.Prelude.{◌==◌}
use Rattle.std.specs.List.{AllByRecursion, filter, find}
use Rattle.std.specs.Ordering.{int_eq, nat_cmp}
use Rattle.std.specs.Cmp.{int_eq_equiv}
use Rattle.std.specs.Map.{keys_of, lookup, remove_entry, values_of}
use Rattle.std.specs.BTreeMap.{is_at}
use Rattle.std.specs.Option.{option_map}
use Rattle.std.proofs.lemmas.Bool.{and_right, both_ways, false_from_ne_true}
use Rattle.std.proofs.lemmas.Bool.Decides.{Decides-int_eq}
use Rattle.std.proofs.lemmas.Map.{lookup-none}
use Rattle.jdwp_mirror.specs.Mirror.{Kept, has_other_id, is_not_kept}
use Rattle.jdwp_mirror.specs.Rows.{AreNamed, HasNumber, Row, breakpoints_in, is_breakpoint_at, is_no_breakpoint_at, is_of_kind, kind_at, request_at, request_id, request_kind, without_first}
use Rattle.jdwp_mirror.proofs.RowLemmas.{AreApart, NoneAt, all-both, all-map, all-push, all-values, at-itself, at-same, entry-same, filter-all, first-left, lookup-front, lookup-last, lookup-left, none-above, none-behind, apart-tail, none-left, removed-below, removed-last, removed-push, selves, values-left, values-push}

-- the numbers by id, where this one is given, or taken away
abbrev pub numbered : ℤ → Option ℕ → (ℤ → Option ℕ) → ℤ → Option ℕ
numbered id n number q = cond (int_eq id q) n (number q)

int-itself : (id : ℤ) → int_eq id id ≡ true
int-itself id = int_eq_equiv.refl id

int-same : (a b : ℤ) → int_eq a b ≡ true → a ≡ b
int-same a b h = (Decides-int_eq a b).0 h

some-same : {X : Type 0} (x y : X) → Some x ≡ Some y → x ≡ y
some-same x y e = cc

-- another id, since it has a number, and this one has another or none
id-apart : (number : ℤ → Option ℕ) (id q : ℤ) (n : ℕ) → number id ≡ None → number q ≡ Some n → int_eq id q ≡ false
id-apart number id q n e f = false_from_ne_true (int_eq id q) (λ t. let both : number q ≡ number id = ap number (sym (int-same id q t)) in let none : Some n ≡ None = sym f ∙ both ∙ e in absurd (cc))

-- ---- found by its id

-- of a request, where this id has this number
abbrev pub IsMatch : ℤ → ℕ → ℕ × Kept → Type 0
IsMatch id n e = is_at (nat_cmp n) e.0 ≡ int_eq e.1.id id

match-at : (row : Row) (number : ℤ → Option ℕ) (id : ℤ) (n : ℕ) (e : ℕ × Kept) → AreNamed row number → number id ≡ Some n → HasNumber number e → IsMatch id n e
match-at row number id n e s f h =
    elim (int_eq e.1.id id) as (λ b. int_eq e.1.id id ≡ b → is_at (nat_cmp n) e.0 ≡ b) [
      | true ↦ λ t.
          let both : Some n ≡ Some e.0 = sym f ∙ (ap number (sym (int-same e.1.id id t)) ∙ h) in
          ap (is_at (nat_cmp n)) (sym (some-same n e.0 both)) ∙ at-itself n
      | false ↦ λ t. false_from_ne_true (is_at (nat_cmp n) e.0) (λ u.
          let same : n ≡ e.0 = at-same n e.0 u in
          let own : number e.1.id ≡ Some n = h ∙ ap Some (sym same) in
          let ids : Some e.1.id ≡ Some id = sym (s.named e.1.id n own) ∙ s.named id n f in
          let one : int_eq e.1.id id ≡ true = ap (λ i. int_eq i id) (some-same e.1.id id ids) ∙ int-itself id in
          both_ways (int_eq e.1.id id) t one)
    ] refl

matches : (row : Row) (number : ℤ → Option ℕ) (id : ℤ) (n : ℕ) → AreNamed row number → number id ≡ Some n → AllByRecursion (IsMatch id n) row
matches row number id n s f = all-map (HasNumber number) (IsMatch id n) (λ e h. match-at row number id n e s f h) row s.found

-- no request has an id that has no number
unnamed : (row : Row) (number : ℤ → Option ℕ) (id : ℤ) → AreNamed row number → number id ≡ None → AllByRecursion (λ e. int_eq e.1.id id ≡ false) row
unnamed row number id s none = all-map (HasNumber number) (λ e. int_eq e.1.id id ≡ false) (λ e h. int_eq_equiv.symm e.1.id id ∙ id-apart number id e.1.id e.0 none h) row s.found

pub unnamed-others : (row : Row) (number : ℤ → Option ℕ) (id : ℤ) → AreNamed row number → number id ≡ None → filter (has_other_id id) (values_of row) ≡ values_of row
unnamed-others row number id s none =
    filter-all (has_other_id id) (values_of row) (all-values (λ r. has_other_id id r ≡ true) row
    (all-map (λ (e : ℕ × Kept). int_eq e.1.id id ≡ false) (λ e. has_other_id id e.1 ≡ true) (λ e h. ap not h) row (unnamed row number id s none)))

pub named-others : (row : Row) (number : ℤ → Option ℕ) (id : ℤ) (n : ℕ) → AreApart row → AreNamed row number → number id ≡ Some n → values_of (remove_entry (is_at (nat_cmp n)) row) ≡ filter (has_other_id id) (values_of row)
named-others row number id n d s f =
    values-left (has_other_id id) n row d (all-map (IsMatch id n) (λ e. has_other_id id e.1 ≡ not (is_at (nat_cmp n) e.0)) (λ e h. ap not (sym h)) row (matches row number id n s f))

-- ---- taken out

-- of a request, where this number is not its own
abbrev pub IsBeside : ℕ → ℕ × Kept → Type 0
IsBeside n e = is_at (nat_cmp n) e.0 ≡ false

-- it keeps its number
still : (number after : ℤ → Option ℕ) (id : ℤ) (v : Option ℕ) (e : ℕ × Kept) → ((q : ℤ) → after q ≡ numbered id v number q) → int_eq e.1.id id ≡ false → HasNumber number e → HasNumber after e
still number after id v e u t h =
    let apart : int_eq id e.1.id ≡ false = int_eq_equiv.symm id e.1.id ∙ t in
    u e.1.id ∙ (ap (λ b. cond b v (number e.1.id)) apart ∙ h)

removed-found : (number after : ℤ → Option ℕ) (id : ℤ) (n : ℕ) (es : Row) → AreApart es → ((q : ℤ) → after q ≡ numbered id None number q) → AllByRecursion (HasNumber number) es → AllByRecursion (IsMatch id n) es
    → AllByRecursion (HasNumber after) (remove_entry (is_at (nat_cmp n)) es)
removed-found number after id n [] d u a m = tt
removed-found number after id n (x ∷ es) d u a m =
    elim (is_at (nat_cmp n) x.0) as (λ b. is_at (nat_cmp n) x.0 ≡ b → AllByRecursion (HasNumber after) (cond b es (x ∷ remove_entry (is_at (nat_cmp n)) es))) [
      | true ↦ λ h.
          let all = all-both (IsBeside n) (λ e. HasNumber number e × IsMatch id n e) es (none-behind x es n d h) (all-both (HasNumber number) (IsMatch id n) es a.1 m.1) in
          all-map (λ e. IsBeside n e × (HasNumber number e × IsMatch id n e)) (HasNumber after) (λ e k. still number after id None e u (sym k.1.1 ∙ k.0) k.1.0) es all
      | false ↦ λ h. (still number after id None x u (sym m.0 ∙ h) a.0, removed-found number after id n es (apart-tail x es d) u a.1 m.1)
    ] refl

named-still : (row : Row) (number : ℤ → Option ℕ) (id : ℤ) (n : ℕ) → AreNamed row number → number id ≡ Some n → (q : ℤ) (m : ℕ) → int_eq id q ≡ false → number q ≡ Some m
    → option_map request_id (lookup (is_at (nat_cmp m)) (remove_entry (is_at (nat_cmp n)) row)) ≡ Some q
named-still row number id n s f q m t g =
    let apart : is_at (nat_cmp n) m ≡ false = false_from_ne_true (is_at (nat_cmp n) m) (λ u.
    let own : number q ≡ Some n = g ∙ ap Some (sym (at-same n m u)) in
    let ids : Some id ≡ Some q = sym (s.named id n f) ∙ s.named q n own in
    let one : int_eq id q ≡ true = ap (int_eq id) (sym (some-same id q ids)) ∙ int-itself id in
    both_ways (int_eq id q) t one) in
    ap (option_map request_id) (lookup-left row n m apart) ∙ s.named q m g

pub named-removed : (row : Row) (number after : ℤ → Option ℕ) (id : ℤ) (n : ℕ) → AreApart row → AreNamed row number → number id ≡ Some n → ((q : ℤ) → after q ≡ numbered id None number q) → AreNamed (remove_entry (is_at (nat_cmp n)) row) after
named-removed row number after id n d s f u = record {
  found = removed-found number after id n row d u s.found (matches row number id n s f);
  named = λ q m g. elim (int_eq id q) as (λ b. int_eq id q ≡ b → cond b None (number q) ≡ Some m → option_map request_id (lookup (is_at (nat_cmp m)) (remove_entry (is_at (nat_cmp n)) row)) ≡ Some q) [
    | true ↦ λ t e. cc
    | false ↦ λ t e. named-still row number id n s f q m t e
  ] refl (sym (u q) ∙ g);
}

-- where there was none of this id
pub unnamed-removed : (row : Row) (number after : ℤ → Option ℕ) (id : ℤ) → AreNamed row number → number id ≡ None → ((q : ℤ) → after q ≡ numbered id None number q) → AreNamed row after
unnamed-removed row number after id s none u = record {
  found = all-map (λ e. HasNumber number e × (int_eq e.1.id id ≡ false)) (HasNumber after) (λ e k. still number after id None e u k.1 k.0) row
      (all-both (HasNumber number) (λ e. int_eq e.1.id id ≡ false) row s.found (unnamed row number id s none));
  named = λ q m g. elim (int_eq id q) as (λ b. cond b None (number q) ≡ Some m → option_map request_id (lookup (is_at (nat_cmp m)) row) ≡ Some q) [
    | true ↦ λ e. cc
    | false ↦ λ e. s.named q m e
  ] (sym (u q) ∙ g);
}

-- ---- added

front : (row : Row) (m n : ℕ) (r : Kept) (q : ℤ) (o : Option Kept) → lookup (is_at (nat_cmp m)) row ≡ o → option_map request_id o ≡ Some q → option_map request_id (lookup (is_at (nat_cmp m)) (row ++ (n, r) ∷ [])) ≡ Some q
front row m n r q None e f = cc
front row m n r q (Some x) e f = ap (option_map request_id) (lookup-front (is_at (nat_cmp m)) row ((n, r) ∷ []) x e) ∙ f

pub named-added : (row : Row) (number after : ℤ → Option ℕ) (n : ℕ) (r : Kept) → AllByRecursion (λ m. m < n) (keys_of row) → AreNamed row number → number r.id ≡ None → ((q : ℤ) → after q ≡ numbered r.id (Some n) number q)
    → AreNamed (row ++ (n, r) ∷ []) after
named-added row number after n r above s none u = record {
  found = all-push (HasNumber after) row (n, r)
      (all-map (λ e. HasNumber number e × (int_eq e.1.id r.id ≡ false)) (HasNumber after) (λ e k. still number after r.id (Some n) e u k.1 k.0) row
      (all-both (HasNumber number) (λ e. int_eq e.1.id r.id ≡ false) row s.found (unnamed row number r.id s none)))
      (u r.id ∙ ap (λ b. cond b (Some n) (number r.id)) (int-itself r.id));
  named = λ q m g. elim (int_eq r.id q) as (λ b. int_eq r.id q ≡ b → cond b (Some n) (number q) ≡ Some m → option_map request_id (lookup (is_at (nat_cmp m)) (row ++ (n, r) ∷ [])) ≡ Some q) [
    | true ↦ λ t e.
        ap (λ k. option_map request_id (lookup (is_at (nat_cmp k)) (row ++ (n, r) ∷ []))) (sym (some-same n m e)) ∙ ap (option_map request_id) (lookup-last row n r (none-above row n above)) ∙ ap Some (int-same r.id q t)
    | false ↦ λ t e. front row m n r q (lookup (is_at (nat_cmp m)) row) refl (s.named q m e)
  ] refl (sym (u q) ∙ g);
}

-- ---- put: added in place of an older one

-- a request stands last, and none of its id before it
pub record IsPut (row new : Row) (after : ℤ → Option ℕ) (r : Kept) : Type 0 where
  pub named : AreNamed new after
  pub values : values_of new ≡ filter (has_other_id r.id) (values_of row) ++ r ∷ []

pub put-new : (row new : Row) (number after : ℤ → Option ℕ) (n : ℕ) (r : Kept) → AllByRecursion (λ m. m < n) (keys_of row) → AreNamed row number → number r.id ≡ None → ((q : ℤ) → after q ≡ numbered r.id (Some n) number q) → new ≡ row ++ (n, r) ∷ []
    → IsPut row new after r
put-new row new number after n r above s none u e = record {
  named = subst (λ (xs : Row). AreNamed xs after) (sym e) (named-added row number after n r above s none u);
  values = ap values_of e ∙ values-push row n r ∙ ap (λ (rs : List Kept). rs ++ r ∷ []) (sym (unnamed-others row number r.id s none));
}

without-twice : (id q : ℤ) (n : ℕ) (number : ℤ → Option ℕ) → numbered id (Some n) number q ≡ numbered id (Some n) (numbered id None number) q
without-twice id q n number = elim (int_eq id q) as (λ b. cond b (Some n) (number q) ≡ cond b (Some n) (cond b None (number q))) [ true ↦ refl | false ↦ refl ]

named-none : (row : Row) (m : ℕ) (id : ℤ) → option_map request_id (lookup (is_at (nat_cmp m)) row) ≡ Some id → NoneAt m row → ⊥
named-none row m id e none = let gone = ap (option_map request_id) (lookup-none (is_at (nat_cmp m)) row none) in absurd (cc)

-- an older number is another
older-apart : (row : Row) (number : ℤ → Option ℕ) (id : ℤ) (m n : ℕ) → AllByRecursion (λ k. k < n) (keys_of row) → AreNamed row number → number id ≡ Some m → is_at (nat_cmp m) n ≡ false
older-apart row number id m n above s f = false_from_ne_true (is_at (nat_cmp m) n) (λ t.
    let same : m ≡ n = at-same m n t in
    named-none row m id (s.named id m f) (subst (λ k. NoneAt k row) (sym same) (none-above row n above)))

pub put-anew : (row added new : Row) (number after : ℤ → Option ℕ) (m n : ℕ) (r : Kept) → AreApart row → AllByRecursion (λ k. k < n) (keys_of row) → AreNamed row number → number r.id ≡ Some m → ((q : ℤ) → after q ≡ numbered r.id (Some n) number q)
    → added ≡ row ++ (n, r) ∷ [] → new ≡ remove_entry (is_at (nat_cmp m)) added → IsPut row new after r
put-anew row added new number after m n r d above s f u first second =
    let left = remove_entry (is_at (nat_cmp m)) row in
    let between : ℤ → Option ℕ = numbered r.id None number in
    let gone : between r.id ≡ None = ap (λ b. cond b None (number r.id)) (int-itself r.id) in
    let without = named-removed row number between r.id m d s f (λ q. refl) in
    let e : new ≡ left ++ (n, r) ∷ [] = second ∙ ap (remove_entry (is_at (nat_cmp m))) first ∙ removed-push row m n r (older-apart row number r.id m n above s f) in
    record {
      named = subst (λ (xs : Row). AreNamed xs after) (sym e) (named-added left between after n r (removed-below row m n above) without gone (λ q. u q ∙ without-twice r.id q n number));
      values = ap values_of e ∙ values-push left n r ∙ ap (λ (rs : List Kept). rs ++ r ∷ []) (named-others row number r.id m d s f);
    }

-- ---- cleared by kind and id

-- what is found under the number of an id
abbrev pub IsSelf : Row → ℕ × Kept → Type 0
IsSelf row e = lookup (is_at (nat_cmp e.0)) row ≡ Some e.1

kind-here : (row : Row) (n kind : ℕ) (e : ℕ × Kept) (b : Bool) → is_of_kind kind (kind_at row n) ≡ b → is_at (nat_cmp n) e.0 ≡ true → IsSelf row e → (e.1.kind == kind) ≡ b
kind-here row n kind e b f t h = sym (ap (λ m. is_of_kind kind (kind_at row m)) (at-same n e.0 t) ∙ ap (λ (o : Option Kept). is_of_kind kind (option_map request_kind o)) h) ∙ f

cleared-at : (row : Row) (kind : ℕ) (id : ℤ) (n : ℕ) (e : ℕ × Kept) → is_of_kind kind (kind_at row n) ≡ true → IsMatch id n e → IsSelf row e → is_not_kept kind id e.1 ≡ not (is_at (nat_cmp n) e.0)
cleared-at row kind id n e f m h =
    elim (is_at (nat_cmp n) e.0) as (λ b. is_at (nat_cmp n) e.0 ≡ b → is_not_kept kind id e.1 ≡ not b) [
      | true ↦ λ t. rw (kind-here row n kind e true f t h, sym m ∙ t) refl
      | false ↦ λ t. ap not (and_right (e.1.kind == kind) (int_eq e.1.id id) (sym m ∙ t))
    ] refl

pub cleared : (row : Row) (number : ℤ → Option ℕ) (kind : ℕ) (id : ℤ) (n : ℕ) → AreApart row → AreNamed row number → number id ≡ Some n → is_of_kind kind (kind_at row n) ≡ true
    → values_of (remove_entry (is_at (nat_cmp n)) row) ≡ filter (is_not_kept kind id) (values_of row)
cleared row number kind id n d s f k =
    values-left (is_not_kept kind id) n row d (all-map (λ e. IsMatch id n e × IsSelf row e) (λ e. is_not_kept kind id e.1 ≡ not (is_at (nat_cmp n) e.0)) (λ e h. cleared-at row kind id n e k h.0 h.1) row
    (all-both (IsMatch id n) (IsSelf row) row (matches row number id n s f) (selves row d)))

uncleared-at : (row : Row) (kind : ℕ) (id : ℤ) (n : ℕ) (e : ℕ × Kept) → is_of_kind kind (kind_at row n) ≡ false → IsMatch id n e → IsSelf row e → is_not_kept kind id e.1 ≡ true
uncleared-at row kind id n e f m h =
    elim (is_at (nat_cmp n) e.0) as (λ b. is_at (nat_cmp n) e.0 ≡ b → is_not_kept kind id e.1 ≡ true) [
      | true ↦ λ t. rw (kind-here row n kind e false f t h) refl
      | false ↦ λ t. ap not (and_right (e.1.kind == kind) (int_eq e.1.id id) (sym m ∙ t))
    ] refl

pub uncleared : (row : Row) (number : ℤ → Option ℕ) (kind : ℕ) (id : ℤ) (n : ℕ) → AreApart row → AreNamed row number → number id ≡ Some n → is_of_kind kind (kind_at row n) ≡ false → filter (is_not_kept kind id) (values_of row) ≡ values_of row
uncleared row number kind id n d s f k =
    filter-all (is_not_kept kind id) (values_of row) (all-values (λ r. is_not_kept kind id r ≡ true) row (all-map (λ e. IsMatch id n e × IsSelf row e) (λ e. is_not_kept kind id e.1 ≡ true) (λ e h. uncleared-at row kind id n e k h.0 h.1) row
    (all-both (IsMatch id n) (IsSelf row) row (matches row number id n s f) (selves row d))))

pub uncleared-none : (row : Row) (number : ℤ → Option ℕ) (kind : ℕ) (id : ℤ) → AreNamed row number → number id ≡ None → filter (is_not_kept kind id) (values_of row) ≡ values_of row
uncleared-none row number kind id s none =
    filter-all (is_not_kept kind id) (values_of row) (all-values (λ r. is_not_kept kind id r ≡ true) row
    (all-map (λ (e : ℕ × Kept). int_eq e.1.id id ≡ false) (λ e. is_not_kept kind id e.1 ≡ true) (λ e h. ap not (and_right (e.1.kind == kind) (int_eq e.1.id id) h)) row (unnamed row number id s none)))

-- ---- the first breakpoint

found-numbered : (number : ℤ → Option ℕ) (row : Row) (e : ℕ × Kept) → AllByRecursion (HasNumber number) row → find is_breakpoint_at row ≡ Some e → HasNumber number e
found-numbered number [] e a f = cc
found-numbered number (x ∷ row) e a f =
    elim (is_breakpoint_at x) as (λ b. cond b (Some x) (find is_breakpoint_at row) ≡ Some e → HasNumber number e) [
      | true ↦ λ h. subst (HasNumber number) (entry-same x e h) a.0
      | false ↦ λ h. found-numbered number row e a.1 h
    ] f

first-gone : (row new : Row) (number after : ℤ → Option ℕ) (r : Kept) (o : Option (ℕ × Kept)) → AreApart row → AreNamed row number → find is_breakpoint_at row ≡ o → Some r ≡ option_map request_at o → new ≡ without_first is_no_breakpoint_at row
    → ((q : ℤ) → after q ≡ numbered r.id None number q) → AreNamed new after
first-gone row new number after r None d s f g e u = let no : Some r ≡ None = g in absurd (cc)
first-gone row new number after r (Some x) d s f g e u =
    let same : r ≡ x.1 = some-same r x.1 g in
    let numbered-r : number r.id ≡ Some x.0 = ap (λ (k : Kept). number k.id) same ∙ found-numbered number row x s.found f in
    let left = first-left row x (breakpoints_in row) d refl f in
    subst (λ (xs : Row). AreNamed xs after) (left ∙ sym e) (named-removed row number after r.id x.0 d s numbered-r u)

pub first-removed : (row new : Row) (number after : ℤ → Option ℕ) (r : Kept) → AreApart row → AreNamed row number → Some r ≡ option_map request_at (find is_breakpoint_at row) → new ≡ without_first is_no_breakpoint_at row
    → ((q : ℤ) → after q ≡ numbered r.id None number q) → AreNamed new after
first-removed row new number after r d s g e u = first-gone row new number after r (find is_breakpoint_at row) d s refl g e u

no-entry : (o : Option (ℕ × Kept)) → None ≡ option_map request_at o → o ≡ None
no-entry None e = refl
no-entry (Some x) e = cc

pub first-none : (row new : Row) (number : ℤ → Option ℕ) → AreApart row → AreNamed row number → None ≡ option_map request_at (find is_breakpoint_at row) → new ≡ without_first is_no_breakpoint_at row → AreNamed new number
first-none row new number d s g e =
    let left = none-left row (breakpoints_in row) d refl (no-entry (find is_breakpoint_at row) g) in
    subst (λ (xs : Row). AreNamed xs number) (sym (e ∙ left)) s

-- ---- undone

pub put-undone : (row added new : Row) (number after : ℤ → Option ℕ) (n : ℕ) (r : Kept) → AllByRecursion (λ m. m < n) (keys_of row) → AreNamed row number → ((q : ℤ) → after q ≡ number q) → added ≡ row ++ (n, r) ∷ [] → new ≡ remove_entry (is_at (nat_cmp n)) added
    → AreNamed new after × (new ≡ row)
put-undone row added new number after n r above s u first second =
    let same : new ≡ row = second ∙ ap (remove_entry (is_at (nat_cmp n))) first ∙ removed-last row n r (none-above row n above) in (
      subst (λ (xs : Row). AreNamed xs after) (sym same) (record { found = all-map (HasNumber number) (HasNumber after) (λ e h. u e.1.id ∙ h) row s.found; named = λ q m g. s.named q m (sym (u q) ∙ g) }),
      same,
    )
