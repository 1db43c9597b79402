-- Proofs about a list of steps that ends with an `again`: where it goes back to, the frames are as many, as many steps that start a thread
-- are left, and a step stands that is made.
use Rattle.std.proofs.Common.{◌≡◌, ℕ, zero, suc, ◌+◌, ◌-◌, ◌<◌, ◌≤◌, ◌==◌, ◌||◌, ◌&&◌, true, false, nat_lt, cond, List, [], ◌∷◌, ◌++◌, take, drop, length, refl, sym, ◌∙◌, ap, arith, add-one, Option, Some, None, inl, inr}
use Rattle.std.specs.Prelude.{slice_get}
use Rattle.std.proofs.lemmas.Bool.{eqb-true, eqb-false, ltb-false, ltb-true, false≢true}
use Rattle.std.proofs.lemmas.List.{length-take-le}
use Rattle.std.specs.List.{list_any}
use Rattle.jdwp_script.specs.Parts.{StepPart, Call, Go, Return, Throwing, Prepare, Start, Again}
use Rattle.jdwp_script.specs.Limits.{frames_after}
use Rattle.jdwp_script.specs.References.{goes_back, is_once, returns_own, last_steps, again_lost, before_last, loop_lost}
use Rattle.jdwp_script_machine.specs.States.{starts_thread}
use Rattle.jdwp_script_machine.specs.Steps.{goes_on_at}
use Rattle.jdwp_script_machine.specs.Runs.{is_back}
use Rattle.jdwp_script_machine.specs.StateLaws.{either}
use Rattle.jdwp_script_machine.specs.FrameLaws.{and_both}
use Rattle.jdwp_script_machine.specs.OpeningLaws.{neither}
use Rattle.jdwp_script_machine.proofs.CanSteps.{not_false}
use Rattle.jdwp_script_machine.proofs.Openings.{total}

-- ---- words

-- how many of these steps start a thread
abbrev pub starts : ℕ → List StepPart → ℕ
starts n steps = total (λ (step : StepPart). cond (starts_thread n step) 1 0) steps

-- how many frames steps leave where there are so many before them
abbrev pub frames_behind : ℕ → List StepPart → ℕ
frames_behind n [] = n
frames_behind n (step ∷ steps) = frames_behind (frames_after n step) steps

-- ---- parts of a list of steps

pub get_within : {A : Type 0} (xs : List A) (i : ℕ) (x : A) → slice_get xs i ≡ Some x → i < length xs
get_within [] i x h = absurd cc
get_within (y ∷ ys) zero x h = omega arith
get_within (y ∷ ys) (suc i) x h = let rest = get_within ys i x h in omega arith

none_back : (steps : List StepPart) (m i : ℕ) → list_any goes_back (take m steps) ≡ false → i < m → is_back (slice_get steps i) ≡ false
none_back [] m i h lt = refl
none_back (step ∷ steps) zero i h lt = absurd (omega arith)
none_back (step ∷ steps) (suc m) zero h lt = (neither (goes_back step) _ h).0
none_back (step ∷ steps) (suc m) (suc i) h lt = none_back steps m i (neither (goes_back step) _ h).1 (omega arith)

-- frames behind the first i steps are those behind the first p of them and then the others
pub frames_parted : (n : ℕ) (steps : List StepPart) (p i : ℕ) → p ≤ i → frames_behind n (take i steps) ≡ frames_behind (frames_behind n (take p steps)) (drop p (take i steps))
frames_parted n steps zero i le = refl
frames_parted n [] (suc p) zero le = absurd (omega arith)
frames_parted n [] (suc p) (suc i) le = refl
frames_parted n (step ∷ steps) (suc p) zero le = absurd (omega arith)
frames_parted n (step ∷ steps) (suc p) (suc i) le = frames_parted (frames_after n step) steps p i (omega arith)

pub frames_next : (n : ℕ) (steps : List StepPart) (i : ℕ) (step : StepPart) → slice_get steps i ≡ Some step → frames_behind n (take (i + 1) steps) ≡ frames_after (frames_behind n (take i steps)) step
frames_next n [] i step h = absurd cc
frames_next n (s ∷ steps) zero step h = let same : s ≡ step = cc in rw same refl
frames_next n (s ∷ steps) (suc i) step h = rw (add-one (suc i)) (rw (add-one i) at (frames_next (frames_after n s) steps i step h))

starts_parted : (n : ℕ) (steps : List StepPart) (p i : ℕ) → p ≤ i → starts n (drop p steps) ≡ starts n (drop p (take i steps)) + starts n (drop i steps)
starts_parted n [] zero zero le = refl
starts_parted n [] zero (suc i) le = refl
starts_parted n [] (suc p) zero le = absurd (omega arith)
starts_parted n [] (suc p) (suc i) le = refl
starts_parted n (step ∷ steps) zero zero le = omega arith
starts_parted n (step ∷ steps) zero (suc i) le = let rest = starts_parted n steps zero i (omega arith) in omega arith
starts_parted n (step ∷ steps) (suc p) zero le = absurd (omega arith)
starts_parted n (step ∷ steps) (suc p) (suc i) le = starts_parted n steps p i (omega arith)

-- ---- steps that are gone back over

-- steps that return each frame that they call and no other leave as many as there are without theirs
own_behind : (d n m : ℕ) (steps : List StepPart) → m ≡ d + n → returns_own n steps ≡ true → frames_behind m steps ≡ d
own_behind d n m [] e h = let none = eqb-true n 0 h in omega arith
own_behind d n m (Call c ∷ steps) e h = own_behind d (n + 1) (m + 1) steps (omega arith) h
own_behind d n m (Return v ∷ steps) e h =
    let both = and_both (nat_lt 0 n) (returns_own (n - 1) steps) h in
    let some = ltb-true 0 n both.0 in
    own_behind d (n - 1) (m - 1) steps (omega arith) both.1
own_behind d n m (Go i ∷ steps) e h = own_behind d n m steps e h
own_behind d n m (Throwing x ∷ steps) e h = own_behind d n m steps e h
own_behind d n m (Prepare c ∷ steps) e h = own_behind d n m steps e h
own_behind d n m (Start t ∷ steps) e h = own_behind d n m steps e h
own_behind d n m (Again k ∷ steps) e h = own_behind d n m steps e h

none_started : (n : ℕ) (steps : List StepPart) → list_any is_once steps ≡ false → starts n steps ≡ 0
none_started n [] h = refl
none_started n (Call c ∷ steps) h = let rest = none_started n steps h in omega arith
none_started n (Return v ∷ steps) h = let rest = none_started n steps h in omega arith
none_started n (Go i ∷ steps) h = let rest = none_started n steps h in omega arith
none_started n (Throwing x ∷ steps) h = let rest = none_started n steps h in omega arith
none_started n (Again k ∷ steps) h = let rest = none_started n steps h in omega arith
none_started n (Prepare c ∷ steps) h = absurd (false≢true (sym h))
none_started n (Start t ∷ steps) h = absurd (false≢true (sym h))

-- ---- where a thread goes on

-- what an `again` at this place of a list of steps has before it, if it may stand there
record MayGoBack (steps : List StepPart) (i k : ℕ) : Type 0 where
  pub some : 1 ≤ k
  pub within : k ≤ i
  pub none_before : list_any goes_back (take i steps) ≡ false
  pub none_once : list_any is_once (drop (i - k) (take i steps)) ≡ false
  pub own : returns_own 0 (drop (i - k) (take i steps)) ≡ true

may_go_back : (steps : List StepPart) (i k : ℕ) → list_any goes_back (take i steps) ≡ false → length (take i steps) ≡ i → again_lost (take i steps) k ≡ false → MayGoBack steps i k
may_go_back steps i k none len h =
    let counted = neither (k == 0) _ h in
    let few = neither (nat_lt (length (take i steps)) k) _ counted.1 in
    let once = neither (list_any is_once (last_steps k (take i steps))) _ few.1 in
    let not_zero = eqb-false k 0 counted.0 in
    let le = ltb-false (length (take i steps)) k few.0 in
    record {
      some = omega arith;
      within = omega arith;
      none_before = none;
      none_once = rw len at once.0;
      own = not_false _ (rw len at once.1);
    }

-- an `again` stands last
stands_last : (steps : List StepPart) (i k : ℕ) → list_any goes_back (take (length steps - 1) steps) ≡ false → slice_get steps i ≡ Some (Again k) → i ≡ length steps - 1
stands_last steps i k h is =
    let lt = get_within steps i (Again k) is in
    elim (either (nat_lt i (length steps - 1))) [
      | inl early ↦ let none = none_back steps (length steps - 1) i h (ltb-true i (length steps - 1) early) in absurd (false≢true (sym none ∙ ap is_back is))
      | inr late ↦ let le = ltb-false i (length steps - 1) late in omega arith
    ]

back_of : (steps : List StepPart) (i k : ℕ) → loop_lost steps ≡ false → slice_get steps i ≡ Some (Again k) → MayGoBack steps i k
back_of steps i k h is =
    let both = neither (list_any goes_back (before_last steps)) _ h in
    let last = stands_last steps i k both.0 is in
    let lt = get_within steps i (Again k) is in
    may_go_back steps i k (rw (← last) at both.0) (length-take-le i steps (omega arith)) (rw (← last, is) at both.1)

-- what holds where a thread goes on that has come to this place
pub record Lands (steps : List StepPart) (i place : ℕ) : Type 0 where
  pub within : place ≤ i
  pub frames : frames_behind 0 (take place steps) ≡ frames_behind 0 (take i steps)
  pub starts_left : (n : ℕ) → starts n (drop place steps) ≡ starts n (drop i steps)
  pub onward : is_back (slice_get steps place) ≡ false

stays : (steps : List StepPart) (i : ℕ) → is_back (slice_get steps i) ≡ false → Lands steps i i
stays steps i h = record { within = omega arith; frames = refl; starts_left = λ n. refl; onward = h }

goes : (steps : List StepPart) (i k : ℕ) → MayGoBack steps i k → Lands steps i (i - k)
goes steps i k may =
    let some = may.some in
    let within = may.within in
    let less : i - k ≤ i = omega arith in
    let d = frames_behind 0 (take (i - k) steps) in
    record {
      within = less;
      frames = sym (frames_parted 0 steps (i - k) i less ∙ own_behind d 0 d (drop (i - k) (take i steps)) (omega arith) may.own);
      starts_left = λ n. let parted = starts_parted n steps (i - k) i less in let none = none_started n (drop (i - k) (take i steps)) may.none_once in omega arith;
      onward = none_back steps i (i - k) may.none_before (omega arith);
    }

lands_by : (steps : List StepPart) (i : ℕ) (o : Option StepPart) → loop_lost steps ≡ false → slice_get steps i ≡ o → Lands steps i (goes_on_at o i)
lands_by steps i (Some (Again k)) h is = goes steps i k (back_of steps i k h is)
lands_by steps i None h is = stays steps i (ap is_back is)
lands_by steps i (Some (Call c)) h is = stays steps i (ap is_back is)
lands_by steps i (Some (Go n)) h is = stays steps i (ap is_back is)
lands_by steps i (Some (Return v)) h is = stays steps i (ap is_back is)
lands_by steps i (Some (Throwing x)) h is = stays steps i (ap is_back is)
lands_by steps i (Some (Prepare c)) h is = stays steps i (ap is_back is)
lands_by steps i (Some (Start t)) h is = stays steps i (ap is_back is)

pub lands : (steps : List StepPart) (i : ℕ) → loop_lost steps ≡ false → Lands steps i (goes_on_at (slice_get steps i) i)
lands steps i h = lands_by steps i (slice_get steps i) h refl

begins_by : (steps : List StepPart) (o : Option StepPart) → loop_lost steps ≡ false → slice_get steps 0 ≡ o → is_back o ≡ false
begins_by steps (Some (Again k)) h is = let may = back_of steps 0 k h is in let some = may.some in let within = may.within in absurd (omega arith)
begins_by steps None h is = refl
begins_by steps (Some (Call c)) h is = refl
begins_by steps (Some (Go n)) h is = refl
begins_by steps (Some (Return v)) h is = refl
begins_by steps (Some (Throwing x)) h is = refl
begins_by steps (Some (Prepare c)) h is = refl
begins_by steps (Some (Start t)) h is = refl

-- the first step is none
pub begins : (steps : List StepPart) → loop_lost steps ≡ false → is_back (slice_get steps 0) ≡ false
begins steps h = begins_by steps (slice_get steps 0) h refl
