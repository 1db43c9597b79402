-- Commands that were settled while they were the oldest: they stand in front of those that wait.
use Rattle.std.proofs.Common.{◌≡◌, ◌∙◌, ℕ, zero, suc, ◌+◌, ◌-◌, ◌≤◌, ◌<◌, Bool, true, false, cond, ◌++◌, ◌==◌, List, [], ◌∷◌, length, Option, Some, None, drop, take, remove, is_some, slice_get, sym, ap, subst, refl, eqb, eqb-true, leb, leb-true, leb-false, le-leb, not, inl, inr, arith}
use Rattle.std.proofs.lemmas.Bool.{cases_Bool, lt-leb}
use Rattle.std.proofs.lemmas.Iterator.Adapters.{position_from-zero}
use Rattle.std.proofs.lemmas.List.{drop-append-le, drop-drop, drop-map, length-append, take-append-le}
use Rattle.std.proofs.lemmas.List.Edits.{length-remove}
use Rattle.std.proofs.lemmas.Option.{slice_get-map}
use Rattle.std.specs.Prelude.{OnErr, OnOk, Result, Ok, Err}
use Rattle.std.specs.Bool.{OnFalse, OnTrue}
use Rattle.std.specs.List.{AllByRecursion, IsDistinct, position, position_from}
use Rattle.std.specs.Map.{lookup, keys_of}
use Rattle.std.specs.Option.{SomeIff, option_map}
use Rattle.indexmap.proofs.CallerLemmas.{insert_entry-new}
use Rattle.indexmap.proofs.SetLemmas.{map-remove}
use Rattle.indexmap.specs.IndexMap.{IndexMap, insert_entry, set_value_at}
use Rattle.indexmap.specs.Layout.{length-set_value_at}
use Rattle.jdwp_debugger.specs.declared.pending.Asked as kept
use Rattle.jdwp_debugger.specs.Asking.{is_outstanding}
use Rattle.jdwp_debugger.specs.Debuggers.{Asked}
use Rattle.jdwp_debugger.specs.News.{has_id, place_of}
use Rattle.jdwp_debugger.specs.PendingKept.{IsBare, KeepsNoSettled, asked_in, asked_of, bare, waiting_in}
use Rattle.jdwp_debugger.proofs.Entries.{any_step, asked_behind, none_of, outstanding_is, place_is}

-- ---- places behind the first so many

slice_get-behind : {X : Type 0} (s : ℕ) (xs : List X) (i : ℕ) → slice_get (drop s xs) i ≡ slice_get xs (s + i)
slice_get-behind zero xs i = let on : i ≡ zero + i = omega arith in ap (slice_get xs) on
slice_get-behind (suc s) [] i = refl
slice_get-behind (suc s) (x ∷ xs) i =
    let on : suc (s + i) ≡ suc s + i = omega arith in
    slice_get-behind s xs i ∙ ap (slice_get (x ∷ xs)) on

none_left : {X : Type 0} (i : ℕ) → [] ≡ remove {X = X} [] i
none_left zero = refl
none_left (suc i) = refl

remove-behind : {X : Type 0} (s : ℕ) (xs : List X) (i : ℕ) → drop s (remove xs (s + i)) ≡ remove (drop s xs) i
remove-behind zero xs i = let on : zero + i ≡ i = omega arith in ap (remove xs) on
remove-behind {X} (suc s) [] i =
    let on : suc s + i ≡ suc (s + i) = omega arith in
    ap (λ (k : ℕ). drop (suc s) (remove {X = X} [] k)) on ∙ none_left i
remove-behind (suc s) (x ∷ xs) i =
    let on : suc s + i ≡ suc (s + i) = omega arith in
    ap (λ (k : ℕ). drop (suc s) (remove (x ∷ xs) k)) on ∙ remove-behind s xs i

-- the command at a place is the one that stands so many further on
pub waits_at : (s i : ℕ) (es : List (ℕ × kept.Asked)) → slice_get (waiting_in s es) i ≡ option_map asked_of (slice_get es (s + i))
waits_at s i es = slice_get-map asked_of (drop s es) i ∙ ap (option_map asked_of) (slice_get-behind s es i)

-- one that waits is removed from behind the settled ones
pub one_less : (s i : ℕ) (es : List (ℕ × kept.Asked)) → waiting_in s (remove es (s + i)) ≡ remove (waiting_in s es) i
one_less s i es = ap asked_in (remove-behind s es i) ∙ map-remove asked_of (drop s es) i

-- the oldest is settled
pub one_settled : (s : ℕ) (es : List (ℕ × kept.Asked)) → waiting_in (s + 1) es ≡ remove (waiting_in s es) 0
one_settled s es = ap asked_in (sym (drop-drop 1 s es)) ∙ map-remove asked_of (drop s es) 0

none-behind : {X : Type 0} (xs : List X) → drop (length xs) xs ≡ []
none-behind [] = refl
none-behind (x ∷ xs) = none-behind xs

-- the only one is settled
pub all_settled : (s : ℕ) (es : List (ℕ × kept.Asked)) → s + 1 ≡ length es → [] ≡ remove (waiting_in s es) 0
all_settled s es all = sym (ap (λ (n : ℕ). waiting_in n es) all ∙ ap asked_in (none-behind es)) ∙ one_settled s es

-- ---- one more

-- where no command waits under an id, no entry behind the settled ones has it
pub none_waits : (s id : ℕ) (es : List (ℕ × kept.Asked)) → is_outstanding (waiting_in s es) id ≡ false → lookup (eqb id) (drop s es) ≡ None
none_waits s id es free = none_of (lookup (eqb id) (drop s es)) (outstanding_is id (drop s es) ∙ free)

-- it goes behind those that wait
pub one_more : {S : Type 0} (m : IndexMap ℕ kept.Asked S) (s id : ℕ) (asked : kept.Asked) → s ≤ length m.entries → lookup (eqb id) m.entries ≡ None
    → waiting_in s (insert_entry eqb m.entries id asked) ≡ waiting_in s m.entries ++ asked_of (id, asked) ∷ []
one_more m s id asked within none =
    ap (waiting_in s) (insert_entry-new eqb m id asked none)
    ∙ ap asked_in (drop-append-le s m.entries ((id, asked) ∷ []) within)
    ∙ asked_behind (drop s m.entries) (id, asked)

-- ---- looked up by an id

some_place : (id i : ℕ) (ps : List Asked) → is_some (position_from (has_id id) i ps) ≡ is_outstanding ps id
some_place id i [] = refl
some_place id i (p ∷ ps) = any_step (has_id id p) i (position_from (has_id id) (i + 1) ps) (is_outstanding ps id) (some_place id (i + 1) ps)

-- one waits under an id just where it has a place
pub has_place : (id : ℕ) (ps : List Asked) → is_some (place_of id ps) ≡ is_outstanding ps id
has_place id ps = some_place id 0 ps

-- a list that begins one further on has each place one further on
moved : (b : Bool) (i : ℕ) (r q : Option ℕ) → r ≡ option_map suc q → cond b (Some (suc i)) r ≡ option_map suc (cond b (Some i) q)
moved true i r q e = refl
moved false i r q e = e

position-on : (k i : ℕ) (ks : List ℕ) → position_from (eqb k) (suc i) ks ≡ option_map suc (position_from (eqb k) i ks)
position-on k i [] = refl
position-on k i (x ∷ ks) =
    let on : suc i + 1 ≡ suc (i + 1) = omega arith in
    moved (eqb k x) i (position_from (eqb k) (suc i + 1) ks) (position_from (eqb k) (i + 1) ks) (ap (λ (n : ℕ). position_from (eqb k) n ks) on ∙ position-on k (i + 1) ks)

-- what is at no place of a list is at none behind the first so many
none_later : (k i s : ℕ) (ks : List ℕ) → AllByRecursion (λ y. eqb k y ≡ false) ks → position_from (eqb k) i (drop s ks) ≡ None
none_later k i zero [] all = refl
none_later k i zero (x ∷ ks) all = ap (λ (b : Bool). cond b (Some i) (position_from (eqb k) (i + 1) ks)) all.0 ∙ none_later k (i + 1) zero ks all.1
none_later k i (suc s) [] all = refl
none_later k i (suc s) (x ∷ ks) all = none_later k i s ks all.1

-- the place among those behind the first so many
abbrev pub place_behind : ℕ → Option ℕ → Option ℕ
place_behind s None = None
place_behind s (Some p) = cond (leb s p) (Some (p - s)) None

behind_none : (r : Option ℕ) → place_behind zero r ≡ r
behind_none None = refl
behind_none (Some p) =
    let from : p - zero ≡ p = omega arith in
    ap (λ (b : Bool). cond b (Some (p - zero)) None) (le-leb zero p (omega arith)) ∙ ap Some from

behind_first : (s : ℕ) → place_behind (suc s) (Some zero) ≡ None
behind_first s = ap (λ (b : Bool). cond b (Some (zero - suc s)) None) (lt-leb (suc s) zero (omega arith))

behind_more : (s : ℕ) (r : Option ℕ) → place_behind (suc s) (option_map suc r) ≡ place_behind s r
behind_more s None = refl
behind_more s (Some p) =
    let from : suc p - suc s ≡ p - s = omega arith in
    let same : leb (suc s) (suc p) ≡ leb s p = elim (cases_Bool (leb s p)) [
      | inl t ↦ le-leb (suc s) (suc p) (omega (arith, leb-true s p t)) ∙ sym t
      | inr f ↦ lt-leb (suc s) (suc p) (omega (arith, leb-false s p f)) ∙ sym f
    ] in
    (λ j. cond (same j) (Some (from j)) None)

-- where no two are equal, one found behind the first so many is the one found in the whole
key_behind : (k s : ℕ) (ks : List ℕ) → IsDistinct eqb ks → place_behind s (position_from (eqb k) 0 ks) ≡ position_from (eqb k) 0 (drop s ks)
unfolding IsDistinct
key_behind k zero ks apart = behind_none (position_from (eqb k) 0 ks)
key_behind k (suc s) [] apart = refl
key_behind k (suc s) (x ∷ ks) apart = by (eqb k x) refl (key_behind k s ks apart.1)
  where
    by : (b : Bool) → eqb k x ≡ b → place_behind s (position_from (eqb k) 0 ks) ≡ position_from (eqb k) 0 (drop s ks) → place_behind (suc s) (cond b (Some 0) (position_from (eqb k) 1 ks)) ≡ position_from (eqb k) 0 (drop s ks)
    by true e rest = behind_first s ∙ sym (none_later k 0 s ks (subst (λ (n : ℕ). AllByRecursion (λ y. eqb n y ≡ false) ks) (sym (eqb-true k x e)) apart.0))
    by false e rest = ap (place_behind (suc s)) (position-on k 0 ks) ∙ behind_more s (position_from (eqb k) 0 ks) ∙ rest

-- the oldest is found at once
pub oldest_place : (id : ℕ) (ps : List Asked) (p : Asked) → slice_get ps 0 ≡ Some p → (p.id == id) ≡ true → place_of id ps ≡ Some 0
oldest_place id [] p here is = absurd cc
oldest_place id (q ∷ qs) p here is =
    let same : q ≡ p = cc in
    ap (λ (b : Bool). cond b (Some 0) (position_from (has_id id) 1 qs)) (ap (λ (a : Asked). a.id == id) same ∙ is)

pub oldest_first : (id : ℕ) (ps : List Asked) (p : Asked) → slice_get ps 0 ≡ Some p → OnTrue (p.id == id) (place_of id ps ≡ Some 0)
oldest_first id ps p here = by (p.id == id) refl
  where
    by : (b : Bool) → (p.id == id) ≡ b → OnTrue b (place_of id ps ≡ Some 0)
    by true is = oldest_place id ps p here is
    by false is = tt

-- what waits under no id stands under none where none is settled
pub none_settled : (s id : ℕ) (es : List (ℕ × kept.Asked)) → is_outstanding (waiting_in s es) id ≡ false → OnFalse (not (eqb s 0)) (lookup (eqb id) es ≡ None)
none_settled s id es free = by (eqb s 0) refl
  where
    by : (b : Bool) → eqb s 0 ≡ b → OnFalse (not b) (lookup (eqb id) es ≡ None)
    by true is = subst (λ (n : ℕ). lookup (eqb id) (drop n es) ≡ None) (eqb-true s 0 is) (none_waits s id es free)
    by false is = tt

pub where_false : {P : Type 0} (b : Bool) → b ≡ false → OnFalse b P → P
where_false true is holds = absurd cc
where_false false is holds = holds

-- an id that is found in the whole waits where it stands behind the settled ones
pub place_waits : (id s : ℕ) (es : List (ℕ × kept.Asked)) (found : Option ℕ) → IsDistinct eqb (keys_of es) → found ≡ position (eqb id) (keys_of es) → place_behind s found ≡ place_of id (waiting_in s es)
place_waits id s es found apart is =
    ap (place_behind s) (is ∙ position_from-zero (eqb id) (keys_of es))
    ∙ key_behind id s (keys_of es) apart
    ∙ ap (position_from (eqb id) 0) (drop-map (λ (e : ℕ × kept.Asked). e.0) s es)
    ∙ place_is id 0 (drop s es)

-- the place less so many, where it is no less
pub behind_from : (s p : ℕ) (r : Option ℕ) → SomeIff r (s ≤ p) (p - s) → r ≡ place_behind s (Some p)
behind_from s p None past = elim (cases_Bool (leb s p)) [
  | inl t ↦ absurd (past (leb-true s p t))
  | inr f ↦ sym (ap (λ (b : Bool). cond b (Some (p - s)) None) f)
]
behind_from s p (Some x) is = ap Some is.1 ∙ sym (ap (λ (b : Bool). cond b (Some (p - s)) None) (le-leb s p is.0))

-- ---- what is kept of those that are settled

-- one that is settled leaves those behind it and those in front of it as they are
behind_set : (s : ℕ) (es : List (ℕ × kept.Asked)) (w : kept.Asked) → drop (suc s) (set_value_at es s w) ≡ drop (suc s) es
behind_set s [] w = refl
behind_set zero (e ∷ es) w = refl
behind_set (suc s) (e ∷ es) w = behind_set s es w

pub waits_behind : (s : ℕ) (es : List (ℕ × kept.Asked)) (w : kept.Asked) → waiting_in (s + 1) (set_value_at es s w) ≡ waiting_in (s + 1) es
waits_behind s es w =
    let next : suc s ≡ s + 1 = omega arith in
    subst (λ (n : ℕ). waiting_in n (set_value_at es s w) ≡ waiting_in n es) next (ap asked_in (behind_set s es w))

bare_next : (s : ℕ) (es : List (ℕ × kept.Asked)) → AllByRecursion IsBare (take s es) → AllByRecursion IsBare (take (suc s) (set_value_at es s bare))
bare_next zero [] all = tt
bare_next zero (e ∷ es) all = (refl, tt)
bare_next (suc s) [] all = tt
bare_next (suc s) (e ∷ es) all = (all.0, bare_next s es all.1)

-- one more is settled
pub bare_more : (s : ℕ) (es : List (ℕ × kept.Asked)) → s < length es → KeepsNoSettled s es → KeepsNoSettled (s + 1) (set_value_at es s bare)
bare_more s es more keeps =
    let next : suc s ≡ s + 1 = omega arith in
    let long : length (set_value_at es s bare) ≡ length es = length-set_value_at es s bare in
    (omega (arith, long, more), subst (λ (n : ℕ). AllByRecursion IsBare (take n (set_value_at es s bare))) next (bare_next s es keeps.1))

-- where one waits, not all are settled
pub some_wait : (s : ℕ) (es : List (ℕ × kept.Asked)) → 0 < length (waiting_in s es) → s < length es
some_wait zero [] some = absurd (omega (arith, some))
some_wait zero (e ∷ es) some = omega arith
some_wait (suc s) [] some = absurd (omega (arith, some))
some_wait (suc s) (e ∷ es) some = let more = some_wait s es some in omega (arith, more)

-- none is settled
pub bare_none : (n : ℕ) (es : List (ℕ × kept.Asked)) → n ≡ 0 → KeepsNoSettled n es
bare_none n es none = subst (λ (k : ℕ). KeepsNoSettled k es) (sym none) (omega arith, tt)

-- one more waits
pub bare_pushed : (s : ℕ) (es : List (ℕ × kept.Asked)) (e : ℕ × kept.Asked) → KeepsNoSettled s es → KeepsNoSettled s (es ++ e ∷ [])
bare_pushed s es e keeps =
    let long : length (es ++ e ∷ []) ≡ length es + 1 = length-append es (e ∷ []) in
    (omega (arith, long, keeps.0), subst (AllByRecursion IsBare) (sym (take-append-le s es (e ∷ []) keeps.0)) keeps.1)

in_front_removed : (s i : ℕ) (es : List (ℕ × kept.Asked)) → take s (remove es (s + i)) ≡ take s es
in_front_removed zero i es = refl
in_front_removed (suc s) i [] =
    let on : suc s + i ≡ suc (s + i) = omega arith in
    ap (λ (k : ℕ). take (suc s) (remove {X = ℕ × kept.Asked} [] k)) on
in_front_removed (suc s) i (e ∷ es) =
    let on : suc s + i ≡ suc (s + i) = omega arith in
    ap (λ (k : ℕ). take (suc s) (remove (e ∷ es) k)) on ∙ ap (λ (rest : List (ℕ × kept.Asked)). e ∷ rest) (in_front_removed s i es)

-- one that waits is removed
pub bare_left : (s i : ℕ) (es : List (ℕ × kept.Asked)) → s + i < length es → KeepsNoSettled s es → KeepsNoSettled s (remove es (s + i))
bare_left s i es within keeps =
    let long = length-remove es (s + i) within in
    (omega (arith, long, within), subst (AllByRecursion IsBare) (sym (in_front_removed s i es)) keeps.1)

-- one that is inserted under a new id is behind them, and where it is not, nothing has changed
pub bare_inserted : {V E S : Type 0} (r : Result V E) (m : IndexMap ℕ kept.Asked S) (new : List (ℕ × kept.Asked)) (s id : ℕ) (asked : kept.Asked) → KeepsNoSettled s m.entries → lookup (eqb id) m.entries ≡ None
    → OnOk r (new ≡ insert_entry eqb m.entries id asked) → OnErr r (new ≡ m.entries) → KeepsNoSettled s new
bare_inserted (Ok v) m new s id asked keeps none ok err = subst (KeepsNoSettled s) (sym (ok ∙ insert_entry-new eqb m id asked none)) (bare_pushed s m.entries (id, asked) keeps)
bare_inserted (Err e) m new s id asked keeps none ok err = subst (KeepsNoSettled s) (sym err) keeps
