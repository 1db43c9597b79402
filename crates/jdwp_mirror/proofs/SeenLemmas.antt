-- Threads as they are kept, and as they are.
use Rattle.std.proofs.Common.{◌≡◌, ℕ, suc, ◌≤◌, Bool, true, false, List, [], ◌∷◌, ◌++◌, length, map, refl, ◌∙◌, ap, sym, subst, Option, Some, if◌then◌else◌, cond, arith}
use Rattle.std.specs.Prelude.{◌==◌}
use Rattle.std.specs.List.{filter}
use Rattle.std.specs.List.Sorted.{IsStrictlySortedBy}
use Rattle.std.specs.Map.{lookup, remove_entry, set_value, keys_of, values_of}
use Rattle.std.specs.BTreeMap.{BTreeMap}
use Rattle.std.specs.Option.{option_map}
use Rattle.std.specs.Ordering.{nat_cmp}
use Rattle.std.proofs.lemmas.List.{length_push}
use Rattle.jdwp_mirror.specs.declared.drift.Drift.{Drift}
use Rattle.jdwp_mirror.specs.declared.met.Met.{Met}
use Rattle.jdwp_mirror.specs.declared.threads.Known.{Known}
use Rattle.jdwp_mirror.specs.declared.threads.Lesson.{Lesson}
use Rattle.jdwp_mirror.specs.KnownThreads.{all_taught, taught_by}
use Rattle.jdwp_mirror.specs.Drifts.{after, drifted}
use Rattle.jdwp_mirror.specs.Numbering.{AreBefore, AreNumbered, anew, entries_seen, number_in, seen, standing_of, with_standing}
use Rattle.jdwp_mirror.proofs.Drifting.{after-next, after-stays}
use Rattle.jdwp_mirror.proofs.NumberingLemmas.{Entries, only_entries}

abbrev pub Kept : Type 0
Kept = List (ℕ × Met)

-- ---- one thread

-- where it was just written
pub seen-new : (moves : List Drift) (k : Known) → seen moves (record { known = k; time = length moves }) ≡ k
seen-new moves k = ap (with_standing k) (after-stays moves (length moves) (length moves) (standing_of k) (omega arith))

-- where there is one move more
pub seen-more : (moves : List Drift) (d : Drift) (m : Met) → m.time ≤ length moves → seen (moves ++ d ∷ []) m ≡ with_standing m.known (drifted d (standing_of (seen moves m)))
seen-more moves d m le =
    let more = length_push moves d in
    let next : length (moves ++ d ∷ []) ≡ suc (length moves) = omega arith in
    ap (λ (n : ℕ). with_standing m.known (after (moves ++ d ∷ []) m.time n (standing_of m.known))) next
    ∙ ap (with_standing m.known) (after-next moves d m.time (standing_of m.known) le)

-- ---- all of them

pub values-seen : (moves : List Drift) (es : Kept) → values_of (entries_seen moves es) ≡ map (seen moves) (values_of es)
values-seen moves [] = refl
values-seen moves (x ∷ es) = ap (λ (ks : List Known). seen moves x.1 ∷ ks) (values-seen moves es)

keys-seen : (moves : List Drift) (es : Kept) → keys_of (entries_seen moves es) ≡ keys_of es
keys-seen moves [] = refl
keys-seen moves (x ∷ es) = ap (λ (ns : List ℕ). x.0 ∷ ns) (keys-seen moves es)

pub ordered-seen : (moves : List Drift) (es : Kept) → IsStrictlySortedBy nat_cmp (keys_of es) → IsStrictlySortedBy nat_cmp (keys_of (entries_seen moves es))
ordered-seen moves es s = subst (λ (ns : List ℕ). IsStrictlySortedBy nat_cmp ns) (sym (keys-seen moves es)) s

pub lookup-seen : (test : ℕ → Bool) (moves : List Drift) (es : Kept) → lookup test (entries_seen moves es) ≡ option_map (seen moves) (lookup test es)
lookup-seen test moves [] = refl
lookup-seen test moves (x ∷ es) =
    elim (test x.0) as (λ b. cond b (Some (seen moves x.1)) (lookup test (entries_seen moves es)) ≡ option_map (seen moves) (cond b (Some x.1) (lookup test es))) [
      | true ↦ refl
      | false ↦ lookup-seen test moves es
    ]

pub removed-seen : (test : ℕ → Bool) (moves : List Drift) (es : Kept) → entries_seen moves (remove_entry test es) ≡ remove_entry test (entries_seen moves es)
removed-seen test moves [] = refl
removed-seen test moves (x ∷ es) =
    elim (test x.0) as (λ b. entries_seen moves (cond b es (x ∷ remove_entry test es)) ≡ cond b (entries_seen moves es) ((x.0, seen moves x.1) ∷ remove_entry test (entries_seen moves es))) [
      | true ↦ refl
      | false ↦ ap (λ (ys : Entries). (x.0, seen moves x.1) ∷ ys) (removed-seen test moves es)
    ]

pub written-seen : (test : ℕ → Bool) (moves : List Drift) (es : Kept) (w : Met) → entries_seen moves (set_value test es w) ≡ set_value test (entries_seen moves es) (seen moves w)
written-seen test moves [] w = refl
written-seen test moves (x ∷ es) w =
    elim (test x.0) as (λ b. entries_seen moves (cond b ((x.0, w) ∷ es) (x ∷ set_value test es w)) ≡ cond b ((x.0, seen moves w) ∷ entries_seen moves es) ((x.0, seen moves x.1) ∷ set_value test (entries_seen moves es) (seen moves w))) [
      | true ↦ refl
      | false ↦ ap (λ (ys : Entries). (x.0, seen moves x.1) ∷ ys) (written-seen test moves es w)
    ]

pub added-seen : (moves : List Drift) (es : Kept) (n : ℕ) (m : Met) → entries_seen moves (es ++ (n, m) ∷ []) ≡ entries_seen moves es ++ (n, seen moves m) ∷ []
added-seen moves [] n m = refl
added-seen moves (x ∷ es) n m = ap (λ (ys : Entries). (x.0, seen moves x.1) ∷ ys) (added-seen moves es n m)

abbrev pub only_kept : (ℕ → Bool) → Kept → Kept
only_kept test es = filter (λ (x : ℕ × Met). test x.1.known.id.0) es

pub only-seen : (test : ℕ → Bool) (moves : List Drift) (es : Kept) → entries_seen moves (only_kept test es) ≡ only_entries test (entries_seen moves es)
only-seen test moves [] = refl
only-seen test moves (x ∷ es) =
    elim (test x.1.known.id.0) as (λ b. entries_seen moves (if b then x ∷ only_kept test es else only_kept test es) ≡ (if b then (x.0, seen moves x.1) ∷ only_entries test (entries_seen moves es) else only_entries test (entries_seen moves es))) [
      | true ↦ ap (λ (ys : Entries). (x.0, seen moves x.1) ∷ ys) (only-seen test moves es)
      | false ↦ only-seen test moves es
    ]

-- ---- none was written later

pub before-later : (moves later : ℕ) (es : Kept) → moves ≤ later → AreBefore moves es → AreBefore later es
before-later moves later [] le b = tt
before-later moves later (x ∷ es) le b =
    let first = b.0 in
    let still : x.1.time ≤ later = omega arith in (still, before-later moves later es le b.1)

pub before-removed : (test : ℕ → Bool) (moves : ℕ) (es : Kept) → AreBefore moves es → AreBefore moves (remove_entry test es)
before-removed test moves [] b = tt
before-removed test moves (x ∷ es) b =
    elim (test x.0) as (λ c. AreBefore moves (cond c es (x ∷ remove_entry test es))) [
      | true ↦ b.1
      | false ↦ (b.0, before-removed test moves es b.1)
    ]

pub before-written : (test : ℕ → Bool) (moves : ℕ) (es : Kept) (w : Met) → w.time ≤ moves → AreBefore moves es → AreBefore moves (set_value test es w)
before-written test moves [] w le b = tt
before-written test moves (x ∷ es) w le b =
    elim (test x.0) as (λ c. AreBefore moves (cond c ((x.0, w) ∷ es) (x ∷ set_value test es w))) [
      | true ↦ (le, b.1)
      | false ↦ (b.0, before-written test moves es w le b.1)
    ]

pub before-added : (moves : ℕ) (es : Kept) (n : ℕ) (m : Met) → m.time ≤ moves → AreBefore moves es → AreBefore moves (es ++ (n, m) ∷ [])
before-added moves [] n m le b = (le, tt)
before-added moves (x ∷ es) n m le b = (b.0, before-added moves es n m le b.1)

pub before-only : (test : ℕ → Bool) (moves : ℕ) (es : Kept) → AreBefore moves es → AreBefore moves (only_kept test es)
before-only test moves [] b = tt
before-only test moves (x ∷ es) b =
    elim (test x.1.known.id.0) as (λ c. AreBefore moves (if c then x ∷ only_kept test es else only_kept test es)) [
      | true ↦ (b.0, before-only test moves es b.1)
      | false ↦ before-only test moves es b.1
    ]

-- ---- their numbers stay, however all move

number-seen : (old new : List Drift) (es : Kept) (t : ℕ) → number_in (entries_seen new es) t ≡ number_in (entries_seen old es) t
number-seen old new [] t = refl
number-seen old new (x ∷ es) t = ap (λ (o : Option ℕ). if x.1.known.id.0 == t then Some x.0 else o) (number-seen old new es t)

pub numbered-seen : (old new : List Drift) (es : Kept) (numbers : BTreeMap ℕ ℕ) → AreNumbered (entries_seen old es) numbers → AreNumbered (entries_seen new es) numbers
numbered-seen old new es numbers s = record {
  ordered = ordered-seen new es (subst (λ (ns : List ℕ). IsStrictlySortedBy nat_cmp ns) (keys-seen old es) s.ordered);
  found = λ t. s.found t ∙ sym (number-seen old new es t);
}

-- ---- all written anew, as a lesson leaves them

abbrev pub taught_kept : Lesson → List Drift → Kept → Kept
taught_kept l moves es = map (λ (x : ℕ × Met). (x.0, anew (taught_by l (seen moves x.1)))) es

pub values-anew : (l : Lesson) (moves : List Drift) (es : Kept) → values_of (entries_seen [] (taught_kept l moves es)) ≡ all_taught l (values_of (entries_seen moves es))
values-anew l moves [] = refl
values-anew l moves (x ∷ es) = ap (λ (ks : List Known). seen [] (anew (taught_by l (seen moves x.1))) ∷ ks) (values-anew l moves es)
    ∙ ap (λ (k : Known). k ∷ all_taught l (values_of (entries_seen moves es))) (seen-new [] (taught_by l (seen moves x.1)))

number-anew : (l : Lesson) (moves : List Drift) (es : Kept) (t : ℕ) → number_in (entries_seen [] (taught_kept l moves es)) t ≡ number_in (entries_seen moves es) t
number-anew l moves [] t = refl
number-anew l moves (x ∷ es) t = ap (λ (o : Option ℕ). if x.1.known.id.0 == t then Some x.0 else o) (number-anew l moves es t)

pub numbered-anew : (l : Lesson) (moves : List Drift) (es new : Kept) (numbers : BTreeMap ℕ ℕ) → AreNumbered (entries_seen moves es) numbers → new ≡ taught_kept l moves es → IsStrictlySortedBy nat_cmp (keys_of new)
    → AreNumbered (entries_seen [] new) numbers
numbered-anew l moves es new numbers s e ordered = record {
  ordered = ordered-seen [] new ordered;
  found = λ t. s.found t ∙ (sym (number-anew l moves es t) ∙ ap (λ (ys : Kept). number_in (entries_seen [] ys) t) (sym e));
}

pub before-anew : (l : Lesson) (moves : List Drift) (es : Kept) → AreBefore 0 (taught_kept l moves es)
before-anew l moves [] = tt
before-anew l moves (x ∷ es) = let none : 0 ≤ 0 = omega arith in (none, before-anew l moves es)
