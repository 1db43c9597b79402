-- Proofs about the threads that live where a script begins.
use Rattle.std.proofs.Common.{◌≡◌, ℕ, ◌+◌, ◌≤◌, ◌==◌, ◌||◌, Bool, true, false, not, nat_le, cond, if◌then◌else◌, List, [], ◌∷◌, ◌++◌, map, length, refl, sym, ◌∙◌, ap, ap₂, arith, Some, None, inl, inr}
use Rattle.std.proofs.lemmas.Bool.{ltb-false, eqb-false}
use Rattle.std.proofs.lemmas.List.Folds.{list_any-append}
use Rattle.std.specs.List.{list_any, filter, flat_map}
use Rattle.jdwp_script.specs.declared.fault.ScriptFault.TheVariants.{IdTwice, IdTooWide, BadReference, OverLimit}
use Rattle.jdwp_script.specs.Parts.{StepPart, Call, Go, Return, Throwing, Prepare, Start, Again, ThreadPart, ScriptPart}
use Rattle.jdwp_script.specs.Limits.{over, is_long, is_in, started_by, started, group_passes, class_passes, object_passes, thread_passes, module_passes, passes_limit}
use Rattle.jdwp_script.specs.Limits as limits
use Rattle.jdwp_script.specs.Faults.{first_fault}
use Rattle.jdwp_script.specs.References.{nothing, known_in, groups_lost, types_lost, class_lost, object_lost, thread_lost, module_lost, group_class_lost, thread_class_lost, prepared, has_bad_reference}
use Rattle.jdwp_script.specs.Twice.{is_twice, has_id_twice}
use Rattle.jdwp_script.specs.TooWide.{has_wide_id}
use Rattle.jdwp_value.specs.Rising.{put_in, rising}
use Rattle.jdwp_script_machine.specs.States.{living, starts_thread, some_step, opening_thread, opening, arranged}
use Rattle.jdwp_script_machine.specs.StateLaws.{either}
use Rattle.jdwp_script_machine.specs.OpeningLaws.{neither}

-- ---- lists by rising id

or_swap : (a b c : Bool) → (b || (a || c)) ≡ (a || (b || c))
or_swap true true c = refl
or_swap true false c = refl
or_swap false b c = refl

any_put : {A : Type 0} (key : A → ℕ) (test : A → Bool) (x : A) (xs : List A) → list_any test (put_in key x xs) ≡ (test x || list_any test xs)
any_put key test x [] = refl
any_put key test x (y ∷ ys) =
    elim (nat_le (key x) (key y)) as (λ (b : Bool). list_any test (if b then x ∷ y ∷ ys else y ∷ put_in key x ys) ≡ (test x || (test y || list_any test ys))) [
      | true ↦ refl
      | false ↦ ap (λ (r : Bool). test y || r) (any_put key test x ys) ∙ or_swap (test x) (test y) (list_any test ys)
    ]

-- a list and the same by rising id pass a test alike
pub any_rising : {A : Type 0} (key : A → ℕ) (test : A → Bool) (xs : List A) → list_any test (rising key xs) ≡ list_any test xs
any_rising key test [] = refl
any_rising key test (x ∷ xs) = any_put key test x (rising key xs) ∙ ap (λ (r : Bool). test x || r) (any_rising key test xs)

-- how much a list has, each element counting for so much
abbrev pub total : {A : Type 0} → (A → ℕ) → List A → ℕ
total count [] = 0
total count (x ∷ xs) = count x + total count xs

total_put : {A : Type 0} (key : A → ℕ) (count : A → ℕ) (x : A) (xs : List A) → total count (put_in key x xs) ≡ count x + total count xs
total_put key count x [] = refl
total_put key count x (y ∷ ys) =
    elim (nat_le (key x) (key y)) as (λ (b : Bool). total count (if b then x ∷ y ∷ ys else y ∷ put_in key x ys) ≡ count x + (count y + total count ys)) [
      | true ↦ refl
      | false ↦ let rest = total_put key count x ys in omega arith
    ]

-- a list and the same by rising id have as much
pub total_rising : {A : Type 0} (key : A → ℕ) (count : A → ℕ) (xs : List A) → total count (rising key xs) ≡ total count xs
total_rising key count [] = refl
total_rising key count (x ∷ xs) = let put = total_put key count x (rising key xs) in let rest = total_rising key count xs in omega arith

-- ---- the threads that steps start

starts_in : (t : ℕ) (steps : List StepPart) → list_any (starts_thread t) steps ≡ is_in (flat_map started_by steps) t
starts_in t [] = refl
starts_in t (Start n ∷ steps) = ap (λ (r : Bool). (n == t) || r) (starts_in t steps)
starts_in t (Call c ∷ steps) = starts_in t steps
starts_in t (Go n ∷ steps) = starts_in t steps
starts_in t (Return v ∷ steps) = starts_in t steps
starts_in t (Throwing x ∷ steps) = starts_in t steps
starts_in t (Prepare n ∷ steps) = starts_in t steps
starts_in t (Again k ∷ steps) = starts_in t steps

some_starts : (t : ℕ) (ts : List ThreadPart) → list_any (λ (x : ThreadPart). list_any (starts_thread t) x.steps) ts ≡ is_in (started ts) t
some_starts t [] = refl
some_starts t (x ∷ xs) = ap₂ (λ (a b : Bool). a || b) (starts_in t x.steps) (some_starts t xs) ∙ sym (list_any-append (λ (m : ℕ). m == t) (flat_map started_by x.steps) (started xs))

-- a thread waits at the beginning where a step of the script starts it
pub starts_at_opening : (s : ScriptPart) (t : ℕ) → some_step (starts_thread t) (arranged s) ≡ is_in (started s.threads) t
starts_at_opening s t = any_rising (λ (x : ThreadPart). x.id) (λ (x : ThreadPart). list_any (starts_thread t) x.steps) s.threads ∙ some_starts t s.threads

-- ---- how many live

-- 1 for a thread that no step starts
abbrev lives_from_start : List ℕ → ThreadPart → ℕ
lives_from_start ids t = cond (not (is_in ids t.id)) 1 0

kept_length : (ids : List ℕ) (ts : List ThreadPart) → length (filter (λ (t : ThreadPart). not (is_in ids t.id)) ts) ≡ total (lives_from_start ids) ts
kept_length ids [] = refl
kept_length ids (t ∷ ts) =
    elim (not (is_in ids t.id)) as (λ (b : Bool). length (cond b (t ∷ filter (λ (t : ThreadPart). not (is_in ids t.id)) ts) (filter (λ (t : ThreadPart). not (is_in ids t.id)) ts)) ≡ cond b 1 0 + total (lives_from_start ids) ts) [
      | true ↦ let rest = kept_length ids ts in omega arith
      | false ↦ let rest = kept_length ids ts in omega arith
    ]

live_length : (script : ScriptPart) (ids : List ℕ) → ((t : ℕ) → some_step (starts_thread t) script ≡ is_in ids t) → (ts : List ThreadPart) → length (living (map (opening_thread script) ts)) ≡ total (lives_from_start ids) ts
live_length script ids same [] = refl
live_length script ids same (t ∷ ts) =
    let rest = live_length script ids same ts in
    elim (either (is_in ids t.id)) [
      | inl h ↦ rw (same t.id, h) (omega arith)
      | inr h ↦ rw (same t.id, h) (omega arith)
    ]

-- as many threads live where a script begins as no step starts
pub opening_living : (s : ScriptPart) → length (living (opening s).threads) ≡ length (limits.living s.threads)
opening_living s =
    live_length (arranged s) (started s.threads) (starts_at_opening s) (arranged s).threads
    ∙ total_rising (λ (t : ThreadPart). t.id) (lives_from_start (started s.threads)) s.threads ∙ sym (kept_length (started s.threads) s.threads)

-- ---- a script with no fault

none_holds : (a b c d : Bool) → (if a then Some OverLimit else (if b then Some IdTwice else (if c then Some IdTooWide else (if d then Some BadReference else None)))) ≡ None → (a ≡ false) × (b ≡ false) × (c ≡ false) × (d ≡ false)
none_holds true b c d h = absurd cc
none_holds false true c d h = absurd cc
none_holds false false true d h = absurd cc
none_holds false false false true h = absurd cc
none_holds false false false false h = (refl, refl, refl, refl)

-- a script with no fault passes no limit, has no id twice, none that is too wide and no bad reference
pub faultless : (live : ℕ) (s : ScriptPart) → first_fault live s ≡ None → (passes_limit live s ≡ false) × (has_id_twice s ≡ false) × (has_wide_id s ≡ false) × (has_bad_reference s ≡ false)
faultless live s h = none_holds (passes_limit live s) (has_id_twice s) (has_wide_id s) (has_bad_reference s) h

few_live : (live : ℕ) (s : ScriptPart) → passes_limit live s ≡ false → length (limits.living s.threads) ≤ live
few_live live s h =
    let name = neither (is_long s.name) _ h in
    let groups = neither (over 1_024 s.groups) _ name.1 in
    let classes = neither (over 1_024 s.classes) _ groups.1 in
    let objects = neither (over 1_024 s.objects) _ classes.1 in
    let threads = neither (over 1_024 s.threads) _ objects.1 in
    let modules = neither (over 1_024 s.modules) _ threads.1 in
    let each_group = neither (list_any group_passes s.groups) _ modules.1 in
    let each_class = neither (list_any class_passes s.classes) _ each_group.1 in
    let each_object = neither (list_any object_passes s.objects) _ each_class.1 in
    let each_thread = neither (list_any thread_passes s.threads) _ each_object.1 in
    let each_module = neither (list_any module_passes s.modules) _ each_thread.1 in
    ltb-false live (length (limits.living s.threads)) each_module.1

some_live : (s : ScriptPart) → has_bad_reference s ≡ false → 1 ≤ length (limits.living s.threads)
some_live s h =
    let groups = neither (groups_lost nothing s.groups) _ h in
    let types = neither (types_lost nothing s.classes) _ groups.1 in
    let classes = neither (list_any (class_lost (known_in s)) s.classes) _ types.1 in
    let objects = neither (list_any (object_lost (known_in s)) s.objects) _ classes.1 in
    let threads = neither (list_any (thread_lost (known_in s)) s.threads) _ objects.1 in
    let modules = neither (list_any module_lost s.modules) _ threads.1 in
    let group_classes = neither (list_any (group_class_lost (known_in s)) s.groups) _ modules.1 in
    let thread_classes = neither (list_any (thread_class_lost (known_in s)) s.threads) _ group_classes.1 in
    let once = neither (is_twice (started s.threads)) _ thread_classes.1 in
    let ready = neither (is_twice (prepared s.threads)) _ once.1 in
    let none = eqb-false (length (limits.living s.threads)) 0 ready.1 in
    omega arith

-- where a script with no fault begins, a thread lives, and no more than the limit
pub opening_lives : (live : ℕ) (s : ScriptPart) → first_fault live s ≡ None → (1 ≤ length (living (opening s).threads)) × (length (living (opening s).threads) ≤ live)
opening_lives live s h =
    let none = faultless live s h in
    let same = opening_living s in
    let few = few_live live s none.0 in
    let some = some_live s none.3 in
    (omega arith, omega arith)
