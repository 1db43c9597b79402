-- What calls leave of threads as they are kept: what holds of them goes on, and which threads they are.
use Rattle.std.proofs.Common.{◌≡◌, ℕ, ◌≤◌, Bool, ◌||◌, not, List, [], ◌∷◌, ◌++◌, length, map, refl, ◌∙◌, ap, sym, subst, Option, Some, None, false, arith}
use Rattle.std.specs.Prelude.{◌==◌}
use Rattle.std.specs.List.{filter}
use Rattle.std.specs.List.Sorted.{IsStrictlySortedBy}
use Rattle.std.specs.Map.{lookup, remove_entry, set_value, keys_of, values_of}
use Rattle.std.specs.BTreeMap.{BTreeMap, Updates, get, is_at}
use Rattle.std.specs.Option.{option_map}
use Rattle.std.specs.Ordering.{nat_cmp}
use Rattle.std.proofs.lemmas.List.{length_push}
use Rattle.jdwp_mirror.specs.declared.drift.Drift.{Drift}
use Rattle.jdwp_mirror.specs.declared.met.Met.{Met}
use Rattle.jdwp_mirror.specs.declared.threads.Change.{Change}
use Rattle.jdwp_mirror.specs.declared.threads.Change.TheVariants.{Keep, Raise, Lower, Set}
use Rattle.jdwp_mirror.specs.declared.threads.Known.{Known}
use Rattle.jdwp_mirror.specs.declared.threads.Lesson.{Lesson}
use Rattle.jdwp_mirror.specs.KnownThreads.{AreSound, all_taught, count_by, count_in, only, shown_by, taught_by, without}
use Rattle.jdwp_mirror.specs.Numbering.{AreBefore, AreKept, HasNoted, entries_seen, own_number_in, seen, taught_at}
use Rattle.jdwp_mirror.specs.Drifts.{lowered, raised}
use Rattle.jdwp_mirror.proofs.KnownLemmas.{and_twice, sound-added, sound-only, sound-taught, sound-without}
use Rattle.jdwp_mirror.proofs.NumberingLemmas.{found, known-id, numbered-added, numbered-only, numbered-removed, numbered-undone, numbered-written, only_entries, own-found, own-missing, own-number, own_in, put-found, put_in, threads-removed, values-added, values-only}
use Rattle.jdwp_mirror.proofs.SeenLemmas.{Kept, added-seen, before-added, before-anew, before-later, before-only, before-removed, before-written, lookup-seen, numbered-anew, numbered-seen, only-seen, only_kept, ordered-seen, removed-seen, seen-new, taught_kept, values-anew, written-seen}
use Rattle.jdwp_mirror.proofs.AlikeLemmas.{IsCounted, alike-others, alike-own, moved, moved-kept, seen-lowered, seen-raised, sound-moved, sound-put}

abbrev pub written : ℕ → Known → Met
written time k = record { known = k; time = time }

-- the threads, as they are
abbrev pub now : List Drift → Kept → List Known
now moves es = values_of (entries_seen moves es)

-- what holds of threads goes on, and they are as a lesson leaves them
abbrev pub AreTaught : Lesson → List Drift → List Drift → Kept → Kept → BTreeMap ℕ ℕ → Type 0
AreTaught l moves later es new numbers = AreKept later new numbers × (now later new ≡ all_taught l (now moves es))

pub added-kept : (moves : List Drift) (es new : Kept) (before after : BTreeMap ℕ ℕ) (n : ℕ) (m : Met) (k : Known) → AreKept moves es before → count_in (now moves es) k.id.0 ≡ None → IsCounted k → m ≡ written (length moves) k
    → new ≡ es ++ (n, m) ∷ [] → IsStrictlySortedBy nat_cmp (keys_of new) → Updates nat_cmp before after k.id.0 (Some n)
    → AreKept moves new after × (now moves new ≡ now moves es ++ k ∷ [])
added-kept moves es new before after n m k s u h w e ordered updates =
    let shown : seen moves m ≡ k = ap (seen moves) w ∙ seen-new moves k in
    let entries : entries_seen moves new ≡ entries_seen moves es ++ (n, k) ∷ [] = ap (entries_seen moves) e ∙ added-seen moves es n m ∙ ap (λ (x : Known). entries_seen moves es ++ (n, x) ∷ []) shown in
    let values : now moves new ≡ now moves es ++ k ∷ [] = ap values_of entries ∙ values-added (entries_seen moves es) n k in
    let same : length moves ≤ length moves = omega arith in
    let time : m.time ≤ length moves = subst (λ (x : Met). x.time ≤ length moves) (sym w) same in (
      record {
        sound = subst AreSound (sym values) (sound-added (now moves es) k u h s.sound);
        numbered = numbered-added (entries_seen moves es) (entries_seen moves new) before after n k s.numbered u entries (ordered-seen moves new ordered) updates;
        before = subst (λ (xs : Kept). AreBefore (length moves) xs) (sym e) (before-added (length moves) es n m time s.before);
      },
      values,
    )

pub undone-kept : (moves : List Drift) (es new : Kept) (before between after : BTreeMap ℕ ℕ) (t n : ℕ) → AreKept moves es before → count_in (now moves es) t ≡ None → new ≡ es → IsStrictlySortedBy nat_cmp (keys_of new)
    → Updates nat_cmp before between t (Some n) → Updates nat_cmp between after t None → AreKept moves new after
undone-kept moves es new before between after t n s u e ordered first second = record {
  sound = subst (λ (xs : Kept). AreSound (now moves xs)) (sym e) s.sound;
  numbered = numbered-undone (entries_seen moves es) (entries_seen moves new) before between after t n s.numbered u (ap (entries_seen moves) e) (ordered-seen moves new ordered) first second;
  before = subst (λ (xs : Kept). AreBefore (length moves) xs) (sym e) s.before;
}

pub removed-kept : (moves : List Drift) (es new : Kept) (before after : BTreeMap ℕ ℕ) (t n : ℕ) → AreKept moves es before → get nat_cmp before t ≡ Some n → new ≡ remove_entry (is_at (nat_cmp n)) es
    → IsStrictlySortedBy nat_cmp (keys_of new) → Updates nat_cmp before after t None
    → AreKept moves new after × (now moves new ≡ without t (now moves es))
removed-kept moves es new before after t n s g e ordered updates =
    let entries : entries_seen moves new ≡ remove_entry (is_at (nat_cmp n)) (entries_seen moves es) = ap (entries_seen moves) e ∙ removed-seen (is_at (nat_cmp n)) moves es in
    let values : now moves new ≡ without t (now moves es) = ap values_of entries ∙ threads-removed (entries_seen moves es) before t n s.numbered s.sound.distinct g in (
      record {
        sound = subst AreSound (sym values) (sound-without t (now moves es) s.sound);
        numbered = numbered-removed (entries_seen moves es) (entries_seen moves new) before after t n s.numbered s.sound.distinct g entries (ordered-seen moves new ordered) updates;
        before = subst (λ (xs : Kept). AreBefore (length moves) xs) (sym e) (before-removed (is_at (nat_cmp n)) (length moves) es s.before);
      },
      values,
    )

pub only-kept : (test : ℕ → Bool) (moves : List Drift) (es new : Kept) (before after : BTreeMap ℕ ℕ) → AreKept moves es before → new ≡ only_kept test es → IsStrictlySortedBy nat_cmp (keys_of new)
    → after.entries ≡ filter (λ (x : ℕ × ℕ). test x.0) before.entries
    → AreKept moves new after × (now moves new ≡ only test (now moves es))
only-kept test moves es new before after s e ordered numbers =
    let entries : entries_seen moves new ≡ only_entries test (entries_seen moves es) = ap (entries_seen moves) e ∙ only-seen test moves es in
    let values : now moves new ≡ only test (now moves es) = ap values_of entries ∙ values-only test (entries_seen moves es) in (
      record {
        sound = subst AreSound (sym values) (sound-only test (now moves es) s.sound);
        numbered = numbered-only test (entries_seen moves es) (entries_seen moves new) before after s.numbered entries (ordered-seen moves new ordered) numbers;
        before = subst (λ (xs : Kept). AreBefore (length moves) xs) (sym e) (before-only test (length moves) es s.before);
      },
      values,
    )

put-kept : (moves : List Drift) (es new : Kept) (numbers : BTreeMap ℕ ℕ) (n : ℕ) (m w : Met) (v : Known) → AreKept moves es numbers → IsCounted v → get nat_cmp numbers v.id.0 ≡ Some n → lookup (is_at (nat_cmp n)) es ≡ Some m
    → w ≡ written (length moves) v → new ≡ set_value (is_at (nat_cmp n)) es w → IsStrictlySortedBy nat_cmp (keys_of new)
    → AreKept moves new numbers × (now moves new ≡ map (put_in v) (now moves es))
put-kept moves es new numbers n m w v s h g here is e ordered =
    let test = is_at (nat_cmp n) in
    let shown : seen moves w ≡ v = ap (seen moves) is ∙ seen-new moves v in
    let entries : entries_seen moves new ≡ set_value test (entries_seen moves es) v = ap (entries_seen moves) e ∙ written-seen test moves es w ∙ ap (set_value test (entries_seen moves es)) shown in
    let values : now moves new ≡ map (put_in v) (now moves es) = ap values_of entries ∙ put-found v (entries_seen moves es) numbers n s.numbered s.sound.distinct g in
    let old : lookup test (entries_seen moves es) ≡ Some (seen moves m) = lookup-seen test moves es ∙ ap (option_map (seen moves)) here in
    let id : v.id.0 ≡ m.known.id.0 = sym (known-id (now moves es) v.id.0 (seen moves m) (sym (found (entries_seen moves es) numbers v.id.0 n s.numbered g) ∙ old)) in
    let same : length moves ≤ length moves = omega arith in
    let time : w.time ≤ length moves = subst (λ (x : Met). x.time ≤ length moves) (sym is) same in (
      record {
        sound = subst AreSound (sym values) (sound-put v (now moves es) h s.sound);
        numbered = numbered-written (entries_seen moves es) (entries_seen moves new) numbers n v (seen moves m) s.numbered old id entries (ordered-seen moves new ordered);
        before = subst (λ (xs : Kept). AreBefore (length moves) xs) (sym e) (before-written test (length moves) es w time s.before);
      },
      values,
    )

moved-on : (l : Lesson) (moves : List Drift) (d : Drift) (es : Kept) (numbers : BTreeMap ℕ ℕ) → now (moves ++ d ∷ []) es ≡ map (moved l) (now moves es) → AreKept moves es numbers → AreKept (moves ++ d ∷ []) es numbers
moved-on l moves d es numbers values s =
    let more = length_push moves d in
    let later : length moves ≤ length (moves ++ d ∷ []) = omega arith in record {
      sound = subst AreSound (sym values) (sound-moved l (now moves es) s.sound);
      numbered = numbered-seen moves (moves ++ d ∷ []) es numbers s.numbered;
      before = before-later (length moves) (length (moves ++ d ∷ [])) es later s.before;
    }

-- where the change of the others is noted
alike-kept : (l : Lesson) (moves later : List Drift) (es : Kept) (numbers : BTreeMap ℕ ℕ) → HasNoted l.others moves later → AreKept moves es numbers
    → AreKept later es numbers × (now later es ≡ map (moved l) (now moves es))
alike-kept l moves later es numbers next s =
    elim l.others as (λ (o : Change). l.others ≡ o → HasNoted o moves later → AreKept later es numbers × (now later es ≡ map (moved l) (now moves es))) [
      | Keep ↦ λ o f. (subst (λ (r : List Drift). AreKept r es numbers) (sym f) s, ap (λ (r : List Drift). now r es) f ∙ moved-kept l (now moves es) o s.sound.counted)
      | Raise ↦ λ o f.
          let values = seen-raised l moves es o s.before s.sound.counted in
          (subst (λ (r : List Drift). AreKept r es numbers) (sym f) (moved-on l moves raised es numbers values s), ap (λ (r : List Drift). now r es) f ∙ values)
      | Lower ↦ λ o f.
          let values = seen-lowered l moves es o s.before s.sound.counted in
          (subst (λ (r : List Drift). AreKept r es numbers) (sym f) (moved-on l moves lowered es numbers values s), ap (λ (r : List Drift). now r es) f ∙ values)
      | Set n ↦ λ o f. absurd f
    ] refl next

-- where, besides, the thread that the lesson is about is not known, or it is about none
pub others-kept : (l : Lesson) (moves later : List Drift) (es : Kept) (numbers : BTreeMap ℕ ℕ) → l.shows_all ≡ false → HasNoted l.others moves later → AreKept moves es numbers → own_in l.thread (now moves es) ≡ None
    → AreTaught l moves later es es numbers
others-kept l moves later es numbers m next s none =
    let others = alike-kept l moves later es numbers next s in (others.0, others.1 ∙ alike-others l (now moves es) m s.sound none)

-- where, besides, the thread that the lesson is about is written
pub own-kept : (l : Lesson) (moves later : List Drift) (es new : Kept) (numbers : BTreeMap ℕ ℕ) (n : ℕ) (m w : Met) → l.shows_all ≡ false → HasNoted l.others moves later → AreKept moves es numbers → own_number_in numbers l.thread ≡ Some n
    → lookup (is_at (nat_cmp n)) es ≡ Some m → w ≡ written (length later) (taught_by l (seen moves m)) → new ≡ set_value (is_at (nat_cmp n)) es w → IsStrictlySortedBy nat_cmp (keys_of new)
    → AreTaught l moves later es new numbers
own-kept l moves later es new numbers n m w a next s g here is e ordered =
    let k = seen moves m in
    let v = taught_by l k in
    let there : lookup (is_at (nat_cmp n)) (entries_seen moves es) ≡ Some k = lookup-seen (is_at (nat_cmp n)) moves es ∙ ap (option_map (seen moves)) here in
    let own : own_in l.thread (now moves es) ≡ Some k = sym (own-found (entries_seen moves es) numbers l.thread n s.numbered g) ∙ there in
    let counted : IsCounted v = and_twice (not (count_by l k.id.0 k.count == 0)) (shown_by l k.id.0 || k.held) in
    let others = alike-kept l moves later es numbers next s in
    let all = put-kept later es new numbers n m w v others.0 counted (own-number (now moves es) numbers l.thread n k g own) here is e ordered in
    (all.0, all.1 ∙ (ap (map (put_in v)) others.1 ∙ alike-own l (now moves es) k a s.sound own))

pub anew-kept : (l : Lesson) (moves : List Drift) (es new : Kept) (numbers : BTreeMap ℕ ℕ) → AreKept moves es numbers → new ≡ taught_kept l moves es → IsStrictlySortedBy nat_cmp (keys_of new)
    → AreTaught l moves [] es new numbers
anew-kept l moves es new numbers s e ordered =
    let values : now [] new ≡ all_taught l (now moves es) = ap (now []) e ∙ values-anew l moves es in (
      record {
        sound = subst AreSound (sym values) (sound-taught l (now moves es) s.sound);
        numbered = numbered-anew l moves es new numbers s.numbered e ordered;
        before = subst (λ (xs : Kept). AreBefore 0 xs) (sym e) (before-anew l moves es);
      },
      values,
    )

-- where the thread under a number was found, and what a lesson leaves of it
pub record IsTaughtAt (moves : List Drift) (entries : BTreeMap ℕ Met) (numbers : BTreeMap ℕ ℕ) (l : Lesson) (n : ℕ) (k : Known) : Type 0 where
  pub met : Met
  pub number : own_number_in numbers l.thread ≡ Some n
  pub here : lookup (is_at (nat_cmp n)) entries.entries ≡ Some met
  pub taught : k ≡ taught_by l (seen moves met)

some-inside : (x y : ℕ × Known) → Some x ≡ Some y → x ≡ y
some-inside x y e = cc

found-as : (moves : List Drift) (entries : BTreeMap ℕ Met) (numbers : BTreeMap ℕ ℕ) (l : Lesson) (m n : ℕ) (k : Known) (o : Option Met) → own_number_in numbers l.thread ≡ Some m → lookup (is_at (nat_cmp m)) entries.entries ≡ o
    → option_map {U = ℕ × Known} (λ (met : Met). (m, taught_by l (seen moves met))) o ≡ Some (n, k) → IsTaughtAt moves entries numbers l n k
found-as moves entries numbers l m n k None g e f = absurd (cc)
found-as moves entries numbers l m n k (Some met) g e f =
    let given : ℕ × Known = (m, taught_by l (seen moves met)) in
    let wanted : ℕ × Known = (n, k) in
    let pair : given ≡ wanted = some-inside given wanted f in
    let number : m ≡ n = ap (λ (x : ℕ × Known). x.0) pair in
    let taught : taught_by l (seen moves met) ≡ k = ap (λ (x : ℕ × Known). x.1) pair in
    record { met = met; number = g ∙ ap (λ (i : ℕ). Some i) number; here = ap (λ (i : ℕ). lookup (is_at (nat_cmp i)) entries.entries) (sym number) ∙ e; taught = sym taught }

pub taught-found : (moves : List Drift) (entries : BTreeMap ℕ Met) (numbers : BTreeMap ℕ ℕ) (l : Lesson) (number : Option ℕ) (n : ℕ) (k : Known) → number ≡ own_number_in numbers l.thread → taught_at moves entries l number ≡ Some (n, k)
    → IsTaughtAt moves entries numbers l n k
taught-found moves entries numbers l None n k g e = absurd (cc)
taught-found moves entries numbers l (Some m) n k g e = found-as moves entries numbers l m n k (lookup (is_at (nat_cmp m)) entries.entries) (sym g) refl e

-- where none was found
pub taught-missing : (moves : List Drift) (entries : BTreeMap ℕ Met) (numbers : BTreeMap ℕ ℕ) (l : Lesson) (number : Option ℕ) → AreKept moves entries.entries numbers → number ≡ own_number_in numbers l.thread → taught_at moves entries l number ≡ None
    → own_in l.thread (now moves entries.entries) ≡ None
taught-missing moves entries numbers l None s g e = own-missing (entries_seen moves entries.entries) numbers l.thread s.numbered (sym g)
taught-missing moves entries numbers l (Some m) s g e =
    elim (lookup (is_at (nat_cmp m)) entries.entries) as (λ (o : Option Met). lookup (is_at (nat_cmp m)) entries.entries ≡ o → option_map {U = ℕ × Known} (λ (met : Met). (m, taught_by l (seen moves met))) o ≡ None → own_in l.thread (now moves entries.entries) ≡ None) [
      | None ↦ λ here f.
          sym (own-found (entries_seen moves entries.entries) numbers l.thread m s.numbered (sym g)) ∙ (lookup-seen (is_at (nat_cmp m)) moves entries.entries ∙ ap (option_map (seen moves)) here)
      | Some met ↦ λ here f. absurd (cc)
    ] refl e

-- ---- a lesson without a walk

pub alike-found-kept : (l : Lesson) (moves later : List Drift) (entries new : BTreeMap ℕ Met) (numbers : BTreeMap ℕ ℕ) (number : Option ℕ) (n : ℕ) (k : Known) (w : Met) → l.shows_all ≡ false → HasNoted l.others moves later → AreKept moves entries.entries numbers
    → number ≡ own_number_in numbers l.thread → taught_at moves entries l number ≡ Some (n, k) → w ≡ written (length later) k → new.entries ≡ set_value (is_at (nat_cmp n)) entries.entries w → IsStrictlySortedBy nat_cmp (keys_of new.entries)
    → AreTaught l moves later entries.entries new.entries numbers
alike-found-kept l moves later entries new numbers number n k w a next s own found is e ordered =
    let at = taught-found moves entries numbers l number n k own found in
    own-kept l moves later entries.entries new.entries numbers n at.met w a next s at.number at.here (is ∙ ap (written (length later)) at.taught) e ordered

pub alike-missing-kept : (l : Lesson) (moves later : List Drift) (entries : BTreeMap ℕ Met) (numbers : BTreeMap ℕ ℕ) (number : Option ℕ) → l.shows_all ≡ false → HasNoted l.others moves later → AreKept moves entries.entries numbers
    → number ≡ own_number_in numbers l.thread → taught_at moves entries l number ≡ None → AreTaught l moves later entries.entries entries.entries numbers
alike-missing-kept l moves later entries numbers number a next s own none = others-kept l moves later entries.entries numbers a next s (taught-missing moves entries numbers l number s own none)
