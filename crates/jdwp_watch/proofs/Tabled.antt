-- What is known of each thread, as it is kept: a thread that was named, and moves of all threads.
use Rattle.std.proofs.Common.{◌≡◌, ℕ, ◌+◌, ◌≤◌, inl, inr, Bool, true, false, List, [], ◌∷◌, ◌++◌, length, drop, map, fold, Option, Some, None, refl, sym, ap, ◌∙◌, subst, if◌then◌else◌, arith}
use Rattle.std.specs.Prelude.{◌==◌, unwrap_or}
use Rattle.std.specs.BTreeMap.{BTreeMap, Updates, get, is_at}
use Rattle.std.specs.Cmp.{unsigned_tied}
use Rattle.std.specs.Map.{keys_of, lookup}
use Rattle.std.specs.Option.{option_map}
use Rattle.std.specs.Ordering.{nat_cmp}
use Rattle.std.proofs.lemmas.Bool.{cases_eq}
use Rattle.std.proofs.lemmas.Bool.Decides.{nat_tests}
use Rattle.std.proofs.lemmas.List.{drop-append-le, length_push}
use Rattle.std.proofs.lemmas.List.Sums.{fold_push}
use Rattle.std.proofs.lemmas.Map.Made.{lookup-map_values}
use Rattle.std.proofs.Math.Seq.{drop-length}
use Rattle.jdwp_value.specs.declared.id.ObjectId.{ObjectId}
use Rattle.jdwp_watch.specs.declared.standing.Standing.{Standing}
use Rattle.jdwp_watch.specs.declared.standing.Change.{Change}
use Rattle.jdwp_watch.specs.declared.standing.Change.TheVariants.{Keep}
use Rattle.jdwp_watch.specs.declared.standings.Met.{Met}
use Rattle.jdwp_watch.specs.Standings.{changed}
use Rattle.jdwp_watch.specs.Tables.{AreBefore, Table, anew, at, change_for, changed_by, seen, threads_seen}

abbrev pub Kept : Type 0
Kept = BTreeMap ℕ Met

abbrev pub table_of : List Change → Kept → Standing → Table
table_of moves es others = record { threads = threads_seen moves es.entries; others = others }

pub at-kept : (moves : List Change) (es : Kept) (others : Standing) (t : ℕ) → at (table_of moves es others) t ≡ unwrap_or (option_map (seen moves) (get nat_cmp es t)) others
at-kept moves es others t = ap (λ (x : Option Standing). unwrap_or x others) (lookup-map_values (seen moves) (is_at (nat_cmp t)) es.entries)

abbrev pub written : ℕ → Standing → Met
written time s = record { standing = s; time = time }

-- a thread that was written just now
seen-now : (moves : List Change) (s : Standing) → seen moves (written (length moves) s) ≡ s
seen-now moves s = ap (fold changed_by s) (drop-length moves)

-- one more move
seen-later : (moves : List Change) (c : Change) (m : Met) → m.time ≤ length moves → seen (moves ++ c ∷ []) m ≡ changed c (seen moves m)
seen-later moves c m le = ap (fold changed_by m.standing) (drop-append-le m.time moves (c ∷ []) le) ∙ fold_push changed_by m.standing (drop m.time moves) c

-- where it is looked up
put-at : (es new : Kept) (k t : ℕ) (m : Met) → Updates nat_cmp es new k (Some m) → get nat_cmp new t ≡ (if k == t then Some m else get nat_cmp es t)
put-at es new k t m u = u.0 t ∙ ap (λ (b : Bool). if b then Some m else get nat_cmp es t) (unsigned_tied k t)

is-here : (k t : ℕ) → k ≡ t → (k == t) ≡ true
is-here k t e = grind (arith, nat_tests)

is-apart : (k t : ℕ) → (k ≡ t → ⊥) → (k == t) ≡ false
is-apart k t n = grind (arith, nat_tests)

here : (es new : Kept) (k t : ℕ) (m : Met) → Updates nat_cmp es new k (Some m) → k ≡ t → get nat_cmp new t ≡ Some m
here es new k t m u e = put-at es new k t m u ∙ ap (λ (b : Bool). if b then Some m else get nat_cmp es t) (is-here k t e)

apart : (es new : Kept) (k t : ℕ) (m : Met) → Updates nat_cmp es new k (Some m) → (k ≡ t → ⊥) → get nat_cmp new t ≡ get nat_cmp es t
apart es new k t m u n = put-at es new k t m u ∙ ap (λ (b : Bool). if b then Some m else get nat_cmp es t) (is-apart k t n)

-- a thread is written, and no other
pub one-changed : (moves : List Change) (es new : Kept) (others : Standing) (k : ObjectId) (own : Change) (m : Met) → m ≡ written (length moves) (changed own (at (table_of moves es others) k.0)) → Updates nat_cmp es new k.0 (Some m)
    → (t : ℕ) → at (table_of moves new others) t ≡ changed (change_for (Some k) own Keep t) (at (table_of moves es others) t)
one-changed moves es new others k own m is u t =
    let shown = λ (x : Option Met). unwrap_or (option_map (seen moves) x) others in
    let old = at (table_of moves es others) in
    let change = λ (b : Bool). changed (if b then own else Keep) (old t) in
    elim (cases_eq k.0 t) [
      | inl e ↦
          at-kept moves new others t ∙ (ap shown (here es new k.0 t m u e) ∙ (ap (seen moves) is ∙ (seen-now moves (changed own (old k.0))
          ∙ (ap (λ (n : ℕ). changed own (old n)) e ∙ sym (ap change (is-here k.0 t e))))))
      | inr n ↦
          at-kept moves new others t ∙ (ap shown (apart es new k.0 t m u n) ∙ (sym (at-kept moves es others t) ∙ sym (ap change (is-apart k.0 t n))))
    ]

-- what is looked up moves
all-moved : (moves : List Change) (c : Change) (es : Kept) (others : Standing) (t : ℕ) (x : Option Met) → ((m : Met) → x ≡ Some m → m.time ≤ length moves)
    → unwrap_or (option_map (seen (moves ++ c ∷ [])) x) (changed c others) ≡ changed c (unwrap_or (option_map (seen moves) x) others)
all-moved moves c es others t None h = refl
all-moved moves c es others t (Some m) h = seen-later moves c m (h m refl)

-- all move
pub all-changed : (moves : List Change) (es : Kept) (others : Standing) (c : Change) → AreBefore moves es
    → (t : ℕ) → at (table_of (moves ++ c ∷ []) es (changed c others)) t ≡ changed c (at (table_of moves es others) t)
all-changed moves es others c before t =
    at-kept (moves ++ c ∷ []) es (changed c others) t ∙ (all-moved moves c es others t (get nat_cmp es t) (before t) ∙ sym (ap (changed c) (at-kept moves es others t)))

-- a thread is written, and all others move
pub both-changed : (moves : List Change) (es new : Kept) (others : Standing) (k : ObjectId) (own c : Change) (m : Met) → AreBefore moves es → m ≡ written (length moves + 1) (changed own (at (table_of moves es others) k.0)) → Updates nat_cmp es new k.0 (Some m)
    → (t : ℕ) → at (table_of (moves ++ c ∷ []) new (changed c others)) t ≡ changed (change_for (Some k) own c t) (at (table_of moves es others) t)
both-changed moves es new others k own c m before is u t =
    let later = moves ++ c ∷ [] in
    let shown = λ (x : Option Met). unwrap_or (option_map (seen later) x) (changed c others) in
    let old = at (table_of moves es others) in
    let change = λ (b : Bool). changed (if b then own else c) (old t) in
    let longer : length moves + 1 ≡ length later = sym (length_push moves c) in
    elim (cases_eq k.0 t) [
      | inl e ↦
          at-kept later new (changed c others) t ∙ (ap shown (here es new k.0 t m u e) ∙ (ap (seen later) (is ∙ ap (λ (n : ℕ). written n (changed own (old k.0))) longer) ∙ (seen-now later (changed own (old k.0))
          ∙ (ap (λ (n : ℕ). changed own (old n)) e ∙ sym (ap change (is-here k.0 t e))))))
      | inr n ↦
          at-kept later new (changed c others) t
          ∙ (ap shown (apart es new k.0 t m u n) ∙ (all-moved moves c es others t (get nat_cmp es t) (before t) ∙ (sym (ap (changed c) (at-kept moves es others t)) ∙ sym (ap change (is-apart k.0 t n)))))
    ]

-- none was written after more moves than there are
pub still-before : (moves later : List Change) (es : Kept) → AreBefore moves es → length moves ≤ length later → AreBefore later es
still-before moves later es before le t m e = let first = before t m e in omega arith

pub put-before : (moves later : List Change) (es new : Kept) (k : ℕ) (m : Met) → AreBefore moves es → length moves ≤ length later → m.time ≤ length later → Updates nat_cmp es new k (Some m) → AreBefore later new
put-before moves later es new k m before le last u t x e =
    elim (cases_eq k t) [
      | inl same ↦ let is : Some m ≡ Some x = sym (here es new k t m u same) ∙ e in let equal : m ≡ x = cc in subst (λ (y : Met). y.time ≤ length later) equal last
      | inr n ↦ let first = before t x (sym (apart es new k t m u n) ∙ e) in omega arith
    ]

-- ---- all are written anew

abbrev pub anew_entries : List Change → List (ℕ × Met) → List (ℕ × Met)
anew_entries moves entries = map (λ (e : ℕ × Met). (e.0, anew moves e.1)) entries

-- each as it is, and no moves
kept-anew : (moves : List Change) (entries : List (ℕ × Met)) → threads_seen [] (anew_entries moves entries) ≡ threads_seen moves entries
kept-anew moves [] = refl
kept-anew moves (e ∷ entries) = ap (λ (es : List (ℕ × Standing)). (e.0, seen moves e.1) ∷ es) (kept-anew moves entries)

pub written-table : (moves none : List Change) (es new : Kept) (others : Standing) → new.entries ≡ anew_entries moves es.entries → none ≡ [] → table_of none new others ≡ table_of moves es others
written-table moves none es new others e n =
    ap (λ (ms : List Change). table_of ms new others) n ∙ ap (λ (xs : List (ℕ × Standing)). let table : Table = record { threads = xs; others = others } in table) (ap (threads_seen []) e ∙ kept-anew moves es.entries)

at-zero : (moves : List Change) (o : Option Met) (m : Met) → option_map (anew moves) o ≡ Some m → m.time ≡ 0
at-zero moves None m e = cc
at-zero moves (Some x) m e = let same : anew moves x ≡ m = cc in sym (ap (λ (y : Met). y.time) same)

pub written-before : (moves none : List Change) (es new : Kept) → new.entries ≡ anew_entries moves es.entries → AreBefore none new
written-before moves none es new e t m found =
    let there : option_map (anew moves) (get nat_cmp es t) ≡ Some m = sym (lookup-map_values (anew moves) (is_at (nat_cmp t)) es.entries) ∙ (sym (ap (λ (xs : List (ℕ × Met)). lookup (is_at (nat_cmp t)) xs) e) ∙ found) in
    let zero_time = at-zero moves (get nat_cmp es t) m there in
    omega arith

-- ---- which threads were named

pub keys-seen : (moves : List Change) (entries : List (ℕ × Met)) → keys_of (threads_seen moves entries) ≡ keys_of entries
keys-seen moves [] = refl
keys-seen moves (e ∷ entries) = ap (λ (ks : List ℕ). e.0 ∷ ks) (keys-seen moves entries)
