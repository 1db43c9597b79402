-- Proofs that where a script with no fault begins, each thread can make its steps, whatever is done to the machine from there.
use Rattle.std.proofs.Common.{◌≡◌, ◌⊎◌, ℕ, zero, suc, ◌+◌, ◌<◌, ◌≤◌, ◌==◌, ◌||◌, ◌&&◌, Bool, true, false, not, cond, if◌then◌else◌, List, [], ◌∷◌, ◌++◌, map, length, refl, sym, ◌∙◌, ap, arith, Some, None, inl, inr}
use Rattle.std.proofs.lemmas.Bool.{eqb-true, eq-eqb, false≢true}
use Rattle.std.specs.List.{list_any, flat_map, AllByRecursion, IsDistinct}
use Rattle.jdwp_script.specs.Parts.{ClassPart, StepPart, Call, Go, Return, Throwing, Prepare, Start, Again, ThreadPart, ScriptPart}
use Rattle.jdwp_script.specs.Limits.{over, is_long, is_in, started_by, started, group_passes, class_passes, object_passes, step_passes, is_deep, thread_passes, passes_limit}
use Rattle.jdwp_script.specs.References.{nothing, Known, known_in, groups_lost, types_lost, class_lost, object_lost, step_lost, frames_left, steps_lost, loop_lost, thread_lost, module_lost, group_class_lost, thread_class_lost}
use Rattle.jdwp_script.specs.Twice.{shared_ids, class_ids, is_twice, has_id_twice}
use Rattle.jdwp_script.specs.Faults.{first_fault}
use Rattle.jdwp_value.specs.Rising.{rising}
use Rattle.jdwp_script_machine.specs.LookUps.{with_id}
use Rattle.jdwp_script_machine.specs.States.{Waits, Lives, ThreadNow, has_begun, begun, may_begin, class_arranged, arranged, some_step, starts_thread, opening_thread, opening}
use Rattle.jdwp_script_machine.specs.Sites.{thread_in}
use Rattle.jdwp_script_machine.specs.Sound.{thread_ids}
use Rattle.jdwp_script_machine.specs.StateLaws.{either, has_id}
use Rattle.jdwp_script_machine.specs.OpeningLaws.{neither, none_passes, with_both, with_each, all_rising, distinct_all, distinct_rising, opening_sound}
use Rattle.jdwp_script_machine.specs.Runs.{Deed, after_all, MayAllBe, CanGoOn, goes_round, NeverRunsOut}
use Rattle.jdwp_script_machine.proofs.CanSteps.{AreApart, any_map, not_false, CanMakeAll, can_make_all}
use Rattle.jdwp_script_machine.proofs.Going.{starts_left, StandsIn, Goes, IsMade, IsGoing, can_go_on, never_runs_out}
use Rattle.jdwp_script_machine.proofs.Loops.{starts, begins}
use Rattle.jdwp_script_machine.proofs.GoingOn.{going_after_all}
use Rattle.jdwp_script_machine.proofs.Openings.{total, total_rising, any_rising, starts_at_opening, faultless}

-- ---- how often a number is in a list

abbrev one_for : ℕ → ℕ → ℕ
one_for n m = cond (m == n) 1 0

abbrev times : ℕ → List ℕ → ℕ
times n ns = total (one_for n) ns

times_append : (n : ℕ) (ms ns : List ℕ) → times n (ms ++ ns) ≡ times n ms + times n ns
times_append n [] ns = omega arith
times_append n (m ∷ ms) ns = let rest = times_append n ms ns in omega arith

not_in : (n : ℕ) (ns : List ℕ) → is_in ns n ≡ false → times n ns ≡ 0
not_in n [] h = refl
not_in n (m ∷ ns) h = let both = neither (m == n) (is_in ns n) h in rw (both.0, not_in n ns both.1) refl

-- a number that no list has twice is in it once at most
once_in : (n : ℕ) (ns : List ℕ) → is_twice ns ≡ false → times n ns ≤ 1
once_in n [] h = omega arith
once_in n (m ∷ ns) h =
    let both = neither (is_in ns m) (is_twice ns) h in
    elim (either (m == n)) [
      | inl k ↦ let same : m ≡ n = eqb-true m n k in let none : times n ns ≡ 0 = not_in n ns (rw same at both.0) in rw (k, none) (omega arith)
      | inr k ↦ let rest = once_in n ns both.1 in rw k (omega arith)
    ]

is_in_once : (n : ℕ) (ns : List ℕ) → 1 ≤ times n ns → is_in ns n ≡ true
is_in_once n ns h = elim (either (is_in ns n)) [ inl k ↦ k | inr k ↦ absurd (let none = not_in n ns k in omega arith) ]

-- ---- how often a thread is started

starts_times : (n : ℕ) (steps : List StepPart) → starts n steps ≡ times n (flat_map started_by steps)
starts_times n [] = refl
starts_times n (Start m ∷ steps) = ap (λ k. one_for n m + k) (starts_times n steps)
starts_times n (Call c ∷ steps) = let rest = starts_times n steps in omega arith
starts_times n (Go i ∷ steps) = let rest = starts_times n steps in omega arith
starts_times n (Return v ∷ steps) = let rest = starts_times n steps in omega arith
starts_times n (Throwing x ∷ steps) = let rest = starts_times n steps in omega arith
starts_times n (Prepare c ∷ steps) = let rest = starts_times n steps in omega arith
starts_times n (Again k ∷ steps) = let rest = starts_times n steps in omega arith

-- how many steps of these threads start a thread
abbrev starts_of : ℕ → List ThreadPart → ℕ
starts_of n ts = total (λ (t : ThreadPart). starts n t.steps) ts

all_times : (n : ℕ) (ts : List ThreadPart) → starts_of n ts ≡ times n (started ts)
all_times n [] = refl
all_times n (t ∷ ts) = let here = starts_times n t.steps in let rest = all_times n ts in let both = times_append n (flat_map started_by t.steps) (started ts) in omega arith

-- ---- a thread is found by its own id

skipped : {A : Type 0} (key : A → ℕ) (x : A) (xs ys : List A) → AllByRecursion (λ (n : ℕ). (key x == n) ≡ false) (map key ys) → AllByRecursion (λ (y : A). with_id key (key y) xs ≡ Some y) ys
    → AllByRecursion (λ (y : A). with_id key (key y) (x ∷ xs) ≡ Some y) ys
skipped key x xs [] apart all = tt
skipped key x xs (y ∷ ys) apart all = (rw apart.0 all.0, skipped key x xs ys apart.1 all.1)

found_self : {A : Type 0} (key : A → ℕ) (xs : List A) → IsDistinct (λ (a b : ℕ). a == b) (map key xs) → AllByRecursion (λ (x : A). with_id key (key x) xs ≡ Some x) xs
unfolding IsDistinct
found_self key [] distinct = tt
found_self key (x ∷ xs) distinct = (rw (eq-eqb (key x) (key x) refl) refl, skipped key x xs xs distinct.0 (found_self key xs distinct.1))

-- ---- the threads as they begin

abbrev FindsItself : ScriptPart → ThreadPart → Type 0
FindsItself script t = thread_in script t.id ≡ Some t

ids_at_opening : (script : ScriptPart) (ts : List ThreadPart) → thread_ids (map (opening_thread script) ts) ≡ map (λ (t : ThreadPart). t.id) ts
ids_at_opening script [] = refl
ids_at_opening script (t ∷ ts) = ap (λ ns. t.id ∷ ns) (ids_at_opening script ts)

some_round : (steps : List StepPart) → goes_round steps ≡ true → 0 < length steps
some_round [] h = absurd (false≢true h)
some_round (step ∷ steps) h = omega arith

stands_first : (t : ThreadPart) → loop_lost t.steps ≡ false → StandsIn t 0 0
stands_first t h = record { frames = refl; onward = begins t.steps h; within = some_round t.steps }

goes_at_opening : (script : ScriptPart) (ts : List ThreadPart) → AllByRecursion (FindsItself script) ts → AllByRecursion (IsMade script) ts → AllByRecursion (Goes script) (map (opening_thread script) ts)
goes_at_opening script [] finds made = tt
goes_at_opening script (t ∷ ts) finds made = (inr (rw finds.0 (stands_first t made.0.back), tt), goes_at_opening script ts finds.1 made.1)

starts_left_at_opening : (script : ScriptPart) (n : ℕ) (ts : List ThreadPart) → AllByRecursion (FindsItself script) ts → starts_left script n (map (opening_thread script) ts) ≡ starts_of n ts
starts_left_at_opening script n [] finds = refl
starts_left_at_opening script n (t ∷ ts) finds = rw finds.0 (ap (λ k. starts n t.steps + k) (starts_left_at_opening script n ts finds.1))

has_id_at_opening : (script : ScriptPart) (n : ℕ) (ts : List ThreadPart) → has_id (map (opening_thread script) ts) n ≡ list_any (λ (t : ThreadPart). t.id == n) ts
has_id_at_opening script n ts = any_map (λ (e : ThreadNow). e.id == n) (opening_thread script) ts

waits_or_not : (b : Bool) → (if has_begun (if b then Waits else Lives) then false else false) ≡ false
waits_or_not true = refl
waits_or_not false = refl

-- who is started by a step did not begin
none_begun : (script : ScriptPart) (n : ℕ) → some_step (starts_thread n) script ≡ true → (ts : List ThreadPart) → begun (map (opening_thread script) ts) n ≡ false
none_begun script n h [] = refl
none_begun script n h (t ∷ ts) = elim (either (t.id == n)) [
  | inl k ↦ rw (eqb-true t.id n k, h) (none_begun script n h ts)
  | inr k ↦ rw (k, waits_or_not (some_step (starts_thread t.id) script)) (none_begun script n h ts)
]

begins_at_opening : (es : List ThreadNow) (n : ℕ) → begun es n ≡ false → has_id es n ≡ true → may_begin es n ≡ true
begins_at_opening es n h k = rw (h, k) refl

-- ---- who is started is known

starts_known : (k : Known) (n : ℕ) (frames : List ℕ) (steps : List StepPart) → steps_lost k frames steps ≡ false → 1 ≤ starts n steps → k.thread n ≡ true
starts_known k n frames [] lost h = absurd (omega arith)
starts_known k n frames (Start m ∷ steps) lost h =
    let both = neither (not (k.thread m)) _ lost in
    elim (either (m == n)) [
      | inl is ↦ rw (← eqb-true m n is) (not_false (k.thread m) both.0)
      | inr off ↦ starts_known k n frames steps both.1 (let some = rw off at h in omega arith)
    ]
starts_known k n frames (Call c ∷ steps) lost h = starts_known k n (frames_left k frames (Call c)) steps (neither (step_lost k frames (Call c)) _ lost).1 (omega arith)
starts_known k n frames (Go i ∷ steps) lost h = starts_known k n frames steps (neither (step_lost k frames (Go i)) _ lost).1 (omega arith)
starts_known k n frames (Return v ∷ steps) lost h = starts_known k n (frames_left k frames (Return v)) steps (neither (step_lost k frames (Return v)) _ lost).1 (omega arith)
starts_known k n frames (Throwing x ∷ steps) lost h = starts_known k n frames steps (neither (step_lost k frames (Throwing x)) _ lost).1 (omega arith)
starts_known k n frames (Prepare c ∷ steps) lost h = starts_known k n frames steps (neither (step_lost k frames (Prepare c)) _ lost).1 (omega arith)
starts_known k n frames (Again i ∷ steps) lost h = starts_known k n frames steps lost (omega arith)

kept_steps : (k : Known) (t : ThreadPart) → thread_lost k t ≡ false → steps_lost k [] t.steps ≡ false
kept_steps k t h =
    let id = neither (t.id == 0) _ h in
    let group = neither (not (k.group t.group)) _ id.1 in
    (neither (steps_lost k [] t.steps) _ group.1).0

kept_back : (k : Known) (t : ThreadPart) → thread_lost k t ≡ false → loop_lost t.steps ≡ false
kept_back k t h =
    let id = neither (t.id == 0) _ h in
    let group = neither (not (k.group t.group)) _ id.1 in
    (neither (steps_lost k [] t.steps) _ group.1).1

none_or_some : (n : ℕ) → (n ≡ 0) ⊎ (1 ≤ n)
none_or_some zero = inl refl
none_or_some (suc n) = inr (omega arith)

started_known : (k : Known) (n : ℕ) (ts : List ThreadPart) → AllByRecursion (λ (t : ThreadPart). steps_lost k [] t.steps ≡ false) ts → 1 ≤ starts_of n ts → k.thread n ≡ true
started_known k n [] kept h = absurd (omega arith)
started_known k n (t ∷ ts) kept h = elim (either (k.thread n)) [
  | inl is ↦ is
  | inr off ↦ elim (none_or_some (starts n t.steps)) [
    | inl none ↦ started_known k n ts kept.1 (omega arith)
    | inr some ↦ starts_known k n [] t.steps kept.0 some
  ]
]

-- ---- a script with no fault

-- what of a script with no fault its threads go by
record IsFaultless (s : ScriptPart) : Type 0 where
  pub classes : AreApart s
  pub threads : IsDistinct (λ (a b : ℕ). a == b) (map (λ (t : ThreadPart). t.id) (arranged s).threads)
  pub kept : AllByRecursion (λ (t : ThreadPart). steps_lost (known_in s) [] t.steps ≡ false) s.threads
  pub back : AllByRecursion (λ (t : ThreadPart). loop_lost t.steps ≡ false) s.threads
  pub few : AllByRecursion (λ (t : ThreadPart). is_deep 0 t.steps ≡ false) s.threads
  pub once : is_twice (started s.threads) ≡ false

few_frames : (t : ThreadPart) → thread_passes t ≡ false → is_deep 0 t.steps ≡ false
few_frames t h =
    let name = neither (is_long t.name) _ h in
    let steps = neither (over 65_536 t.steps) _ name.1 in
    (neither (list_any step_passes t.steps) _ steps.1).1

threads_within : (live : ℕ) (s : ScriptPart) → passes_limit live s ≡ false → list_any thread_passes s.threads ≡ false
threads_within live s h =
    let name = neither (is_long s.name) _ h in
    let groups = neither (over 1_024 s.groups) _ name.1 in
    let classes = neither (over 1_024 s.classes) _ groups.1 in
    let objects = neither (over 1_024 s.objects) _ classes.1 in
    let threads = neither (over 1_024 s.threads) _ objects.1 in
    let modules = neither (over 1_024 s.modules) _ threads.1 in
    let each_group = neither (list_any group_passes s.groups) _ modules.1 in
    let each_class = neither (list_any class_passes s.classes) _ each_group.1 in
    let each_object = neither (list_any object_passes s.objects) _ each_class.1 in
    (neither (list_any thread_passes s.threads) _ each_object.1).0

arranged_ids : (cs : List ClassPart) → map (λ (c : ClassPart). c.id) (map class_arranged cs) ≡ map (λ (c : ClassPart). c.id) cs
arranged_ids [] = refl
arranged_ids (c ∷ cs) = ap (λ ns. c.id ∷ ns) (arranged_ids cs)

classes_apart : (s : ScriptPart) → has_id_twice s ≡ false → AreApart s
classes_apart s h =
    let shared = neither (is_twice (shared_ids s)) _ h in
    let classes = neither (is_twice (class_ids s.classes)) _ shared.1 in
    rw (arranged_ids (rising (λ (c : ClassPart). c.id) s.classes)) (distinct_rising (λ (c : ClassPart). c.id) s.classes (distinct_all (class_ids s.classes) classes.0))

faultless_is : (live : ℕ) (s : ScriptPart) → first_fault live s ≡ None → IsFaultless s
faultless_is live s h =
    let none = faultless live s h in
    let groups = neither (groups_lost nothing s.groups) _ none.3 in
    let types = neither (types_lost nothing s.classes) _ groups.1 in
    let classes = neither (list_any (class_lost (known_in s)) s.classes) _ types.1 in
    let objects = neither (list_any (object_lost (known_in s)) s.objects) _ classes.1 in
    let threads = neither (list_any (thread_lost (known_in s)) s.threads) _ objects.1 in
    let modules = neither (list_any module_lost s.modules) _ threads.1 in
    let group_classes = neither (list_any (group_class_lost (known_in s)) s.groups) _ modules.1 in
    let thread_classes = neither (list_any (thread_class_lost (known_in s)) s.threads) _ group_classes.1 in
    let once = neither (is_twice (started s.threads)) _ thread_classes.1 in
    record {
      classes = classes_apart s none.1;
      threads = rw (← ids_at_opening (arranged s) (arranged s).threads) (opening_sound live s none.0 none.1 none.2).distinct;
      kept = with_each (λ (t : ThreadPart). thread_lost (known_in s) t ≡ false) (λ (t : ThreadPart). steps_lost (known_in s) [] t.steps ≡ false) (kept_steps (known_in s)) s.threads (none_passes (thread_lost (known_in s)) s.threads threads.0);
      back = with_each (λ (t : ThreadPart). thread_lost (known_in s) t ≡ false) (λ (t : ThreadPart). loop_lost t.steps ≡ false) (kept_back (known_in s)) s.threads (none_passes (thread_lost (known_in s)) s.threads threads.0);
      few = with_each (λ (t : ThreadPart). thread_passes t ≡ false) (λ (t : ThreadPart). is_deep 0 t.steps ≡ false) few_frames s.threads (none_passes thread_passes s.threads (threads_within live s none.0));
      once = once.0;
    }

going_at_opening : (s : ScriptPart) → IsFaultless s → IsGoing (opening s).script (opening s).threads
going_at_opening s is =
    let key = λ (t : ThreadPart). t.id in
    let script = arranged s in
    let finds : AllByRecursion (FindsItself script) script.threads = found_self key script.threads is.threads in
    let can = all_rising key (λ (t : ThreadPart). CanMakeAll script 0 t.steps) s.threads
    (with_both (λ (t : ThreadPart). steps_lost (known_in s) [] t.steps ≡ false) (λ (t : ThreadPart). is_deep 0 t.steps ≡ false) (λ (t : ThreadPart). CanMakeAll script 0 t.steps) (λ t lost deep. can_make_all s is.classes [] t.steps lost deep) s.threads is.kept is.few) in
    let back = all_rising key (λ (t : ThreadPart). loop_lost t.steps ≡ false) s.threads is.back in
    let made : AllByRecursion (IsMade script) script.threads =
    with_both (λ (t : ThreadPart). CanMakeAll script 0 t.steps) (λ (t : ThreadPart). loop_lost t.steps ≡ false) (IsMade script) (λ t c b. record { can = c; back = b }) script.threads can back in
    let same = λ (n : ℕ). starts_left_at_opening script n script.threads finds ∙ total_rising key (λ (t : ThreadPart). starts n t.steps) s.threads in
    record {
      made = made;
      distinct = rw (ids_at_opening script script.threads) is.threads;
      each = goes_at_opening script script.threads finds made;
      once = λ n. let count = same n ∙ all_times n s.threads in let few = once_in n (started s.threads) is.once in omega arith;
      waits = λ n h.
          let some : 1 ≤ starts_of n s.threads = let count = same n in omega arith in
          let names : 1 ≤ times n (started s.threads) = let count = all_times n s.threads in omega arith in
          let begins = starts_at_opening s n ∙ is_in_once n (started s.threads) names in
          let known = started_known (known_in s) n s.threads is.kept some in
          begins_at_opening (opening s).threads n (none_begun script n begins script.threads)
          (has_id_at_opening script n script.threads ∙ any_rising key (λ (t : ThreadPart). t.id == n) s.threads ∙ sym (any_map (λ (m : ℕ). m == n) key s.threads) ∙ known);
    }

-- whatever is done from where a script with no fault begins, a thread that lives has run out only where it has used up its steps
pub goes_on : (live : ℕ) (s : ScriptPart) (ds : List Deed) → first_fault live s ≡ None → MayAllBe (opening s) ds → CanGoOn (after_all (opening s) ds)
goes_on live s ds none may = can_go_on (after_all (opening s) ds) (going_after_all (opening s) (going_at_opening s (faultless_is live s none)) ds may)

-- and one that goes round has not run out
pub goes_on_for_ever : (live : ℕ) (s : ScriptPart) (ds : List Deed) → first_fault live s ≡ None → MayAllBe (opening s) ds → NeverRunsOut (after_all (opening s) ds)
goes_on_for_ever live s ds none may = never_runs_out (after_all (opening s) ds) (going_after_all (opening s) (going_at_opening s (faultless_is live s none)) ds may)
