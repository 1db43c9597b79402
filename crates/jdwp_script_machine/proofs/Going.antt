-- What holds of the threads of a script with no fault wherever they come: the next step can be made and those behind it, each thread is
-- started by one of them at most, and who is started by one waits.
use Rattle.std.proofs.Common.{◌≡◌, ℕ, zero, suc, ◌+◌, ◌-◌, ◌<◌, ◌≤◌, ◌==◌, ◌||◌, ◌&&◌, Bool, true, false, not, nat_lt, if◌then◌else◌, List, [], ◌∷◌, ◌++◌, take, drop, length, refl, sym, ◌∙◌, ap, arith, add-one, Option, Some, None, option_map, option_and_then, ◌⊎◌, inl, inr}
use Rattle.std.specs.Prelude.{is_some, slice_get}
use Rattle.std.proofs.lemmas.Bool.{eqb-true, eqb-false, eq-eqb, false≢true, lt-ltb}
use Rattle.std.specs.List.{AllByRecursion, IsDistinct}
use Rattle.jdwp_event.specs.Occurrences.{OccurrenceMeaning, Moved, Entered, Left, Threw, Prepared, PlaceMeaning, is_run_out, runs_out}
use Rattle.jdwp_machine.specs.Meanings.{has}
use Rattle.jdwp_script.specs.declared.step.Throw.{Throw}
use Rattle.jdwp_script.specs.Literals.{literal_value}
use Rattle.jdwp_script.specs.Limits.{frames_after}
use Rattle.jdwp_script.specs.References.{goes_back, loop_lost}
use Rattle.jdwp_script.specs.Parts.{ClassPart, ObjectPart, StepPart, Call, Go, Return, Throwing, Prepare, Start, Again, ThreadPart, ScriptPart}
use Rattle.jdwp_script_machine.specs.LookUps.{with_id}
use Rattle.jdwp_script_machine.specs.States.{FrameNow, Life, Waits, Lives, HasEnded, ThreadNow, State, is_living, living, may_begin, thread_at, starts_thread}
use Rattle.jdwp_script_machine.specs.Sites.{Site, class_in, object_in, thread_in, site_in, site_place, newest_place}
use Rattle.jdwp_script_machine.specs.Steps.{next_step, goes_on_at, called, moved, thrown, threw, prepared, occurrence, happening_by, happening_at, happening_of, next}
use Rattle.jdwp_script_machine.specs.Sound.{thread_ids}
use Rattle.jdwp_script_machine.specs.StateLaws.{either, in_life, has_living}
use Rattle.jdwp_script_machine.specs.SoundLaws.{all_found, found_id}
use Rattle.jdwp_script_machine.specs.Runs.{CanGoOn, is_back, goes_round, NeverRunsOut}
use Rattle.jdwp_script_machine.proofs.CanSteps.{CanMake, CanMakeAll}
use Rattle.jdwp_script_machine.proofs.Openings.{total}
use Rattle.jdwp_script_machine.proofs.Loops.{starts, frames_behind, get_within, frames_next, lands}

-- ---- what is left

abbrev pub steps_left : Option ThreadPart → ℕ → List StepPart
steps_left None place = []
steps_left (Some t) place = drop place t.steps

-- the steps of a thread's list from its next one on
abbrev pub left : ScriptPart → ThreadNow → List StepPart
left script e = steps_left (thread_in script e.id) e.place

-- how many of the steps that are left start a thread
abbrev pub starts_left : ScriptPart → ℕ → List ThreadNow → ℕ
starts_left script n es = total (λ (e : ThreadNow). starts n (left script e)) es

-- a frame is in a method that there is
abbrev pub IsPlaced : ScriptPart → FrameNow → Type 0
IsPlaced script f = is_some (site_in script f.class f.method) ≡ true

-- so many frames are there at this place of a thread's list, at which no `again` stands, and not its end where one ends it
pub record StandsIn (t : ThreadPart) (place n : ℕ) : Type 0 where
  pub frames : n ≡ frames_behind 0 (take place t.steps)
  pub onward : is_back (slice_get t.steps place) ≡ false
  pub within : goes_round t.steps ≡ true → place < length t.steps

abbrev pub StandsAt : Option ThreadPart → ℕ → ℕ → Type 0
StandsAt None place n = Unit {0}
StandsAt (Some t) place n = StandsIn t place n

-- a thread has ended, or stands where it can make its next step
abbrev pub Goes : ScriptPart → ThreadNow → Type 0
Goes script e = (e.life ≡ HasEnded) ⊎ (StandsAt (thread_in script e.id) e.place (length e.frames) × AllByRecursion (IsPlaced script) e.frames)

-- a thread's list of steps can be made from its beginning on, and gone back in
pub record IsMade (script : ScriptPart) (t : ThreadPart) : Type 0 where
  pub can : CanMakeAll script 0 t.steps
  pub back : loop_lost t.steps ≡ false

pub record IsGoing (script : ScriptPart) (es : List ThreadNow) : Type 0 where
  pub made : AllByRecursion (IsMade script) script.threads
  pub distinct : IsDistinct (λ (a b : ℕ). a == b) (thread_ids es)
  pub each : AllByRecursion (Goes script) es
  pub once : (n : ℕ) → starts_left script n es ≤ 1
  pub waits : (n : ℕ) → 1 ≤ starts_left script n es → may_begin es n ≡ true

-- ---- the next of them

drop_one : {A : Type 0} (xs : List A) (n : ℕ) (x : A) → slice_get xs n ≡ Some x → drop n xs ≡ x ∷ drop (n + 1) xs
drop_one [] n x h = absurd cc
drop_one (y ∷ ys) zero x h = let same : y ≡ x = cc in rw same refl
drop_one (y ∷ ys) (suc n) x h = drop_one ys n x h ∙ rw (add-one n, add-one (suc n)) refl

left_by : (o : Option ThreadPart) (n : ℕ) (step : StepPart) → option_and_then (λ (t : ThreadPart). slice_get t.steps n) o ≡ Some step → steps_left o n ≡ step ∷ steps_left o (n + 1)
left_by None n step h = absurd cc
left_by (Some t) n step h = drop_one t.steps n step h

-- the next step is the first that is left
pub next_left : (script : ScriptPart) (e : ThreadNow) (step : StepPart) → next_step script e ≡ Some step → left script e ≡ step ∷ left script (record e { place = e.place + 1 })
next_left script e step h = left_by (thread_in script e.id) e.place step h

-- ---- where a thread stands

-- so a thread can from any place on
pub can_make_from : (script : ScriptPart) (n : ℕ) (steps : List StepPart) (place : ℕ) → CanMakeAll script n steps → CanMakeAll script (frames_behind n (take place steps)) (drop place steps)
can_make_from script n steps zero can = can
can_make_from script n [] (suc place) can = tt
can_make_from script n (step ∷ steps) (suc place) can = can_make_from script (frames_after n step) steps place can.1

pub can_make_at : (script : ScriptPart) (o : Option ThreadPart) → ((t : ThreadPart) → o ≡ Some t → IsMade script t) → (place n : ℕ) → StandsAt o place n → CanMakeAll script n (steps_left o place)
can_make_at script None made place n stands = tt
can_make_at script (Some t) made place n stands = rw stands.frames (can_make_from script 0 t.steps place (made t refl).can)

onward_at : (o : Option ThreadPart) (place n : ℕ) (step : StepPart) → StandsAt o place n → option_and_then (λ (t : ThreadPart). slice_get t.steps place) o ≡ Some step → goes_back step ≡ false
onward_at None place n step stands h = absurd cc
onward_at (Some t) place n step stands h = sym (ap is_back h) ∙ stands.onward

last_there : (steps : List StepPart) (place : ℕ) (step : StepPart) → goes_round steps ≡ true → slice_get steps place ≡ Some step → goes_back step ≡ false → place + 1 < length steps
last_there steps place step back is onward =
    let lt = get_within steps place step is in
    elim (either (place == length steps - 1)) [
      | inl k ↦
          let same : place ≡ length steps - 1 = eqb-true place (length steps - 1) k in
          let none : goes_round steps ≡ false = ap is_back (rw same at is) ∙ onward in
          absurd (false≢true (sym none ∙ back))
      | inr k ↦ let other = eqb-false place (length steps - 1) k in omega arith
    ]

-- where a thread stands once it has made a step
pub stands_after : (o : Option ThreadPart) → ((t : ThreadPart) → o ≡ Some t → loop_lost t.steps ≡ false) → (place n : ℕ) (step : StepPart) → StandsAt o place n → option_and_then (λ (t : ThreadPart). slice_get t.steps place) o ≡ Some step
    → StandsAt o (goes_on_at (option_and_then (λ (t : ThreadPart). slice_get t.steps (place + 1)) o) (place + 1)) (frames_after n step)
stands_after None back place n step stands is = tt
stands_after (Some t) back place n step stands is =
    let there = lands t.steps (place + 1) (back t refl) in
    let next = frames_next 0 t.steps place step is in
    let within = there.within in
    record {
      frames = ap (λ m. frames_after m step) stands.frames ∙ sym next ∙ sym there.frames;
      onward = there.onward;
      within = λ h. let lt = last_there t.steps place step h is (onward_at (Some t) place n step stands is) in omega arith;
    }

-- and no more steps that start a thread are left than behind it
pub starts_after : (o : Option ThreadPart) → ((t : ThreadPart) → o ≡ Some t → loop_lost t.steps ≡ false) → (place n : ℕ)
    → starts n (steps_left o (goes_on_at (option_and_then (λ (t : ThreadPart). slice_get t.steps place) o) place)) ≡ starts n (steps_left o place)
starts_after None back place n = refl
starts_after (Some t) back place n = (lands t.steps place (back t refl)).starts_left n

-- the list of a thread, as the script has it
pub made_of : (script : ScriptPart) → AllByRecursion (IsMade script) script.threads → (id : ℕ) (t : ThreadPart) → thread_in script id ≡ Some t → IsMade script t
made_of script all id t h = all_found (λ (t : ThreadPart). t.id) (IsMade script) script.threads id t all h

-- ---- a step that can be made

-- what happens by a step, which is no running out
abbrev Happens : ℕ → StepPart → Option OccurrenceMeaning → Type 0
Happens t step o = runs_out (happening_by t step o) ≡ false

happens_by : {A : Type 0} (f : A → OccurrenceMeaning) → ((x : A) → is_run_out (f x) ≡ false) → (t : ℕ) (step : StepPart) (o : Option A) → is_some o ≡ true → Happens t step (option_map f o)
happens_by f some t step None h = absurd (false≢true h)
happens_by f some t step (Some x) h = some x

placed_there : (script : ScriptPart) (n index : ℕ) (o : Option Site) → is_some o ≡ true → is_some (option_map (site_place script n index) o) ≡ true
placed_there script n index None h = h
placed_there script n index (Some x) h = refl

place_there : (script : ScriptPart) (fs : List FrameNow) → 1 ≤ length fs → AllByRecursion (IsPlaced script) fs → is_some (newest_place script fs) ≡ true
place_there script [] some all = absurd (omega arith)
place_there script (f ∷ fs) some all = placed_there script (length (f ∷ fs)) f.index (site_in script f.class f.method) all.0

moved_place_there : (script : ScriptPart) (i : ℕ) (fs : List FrameNow) → 1 ≤ length fs → AllByRecursion (IsPlaced script) fs → is_some (newest_place script (moved i fs)) ≡ true
moved_place_there script i [] some all = absurd (omega arith)
moved_place_there script i (f ∷ fs) some all = placed_there script (length (f ∷ fs)) i (site_in script f.class f.method) all.0

throws : (script : ScriptPart) (x : Throw) (t : ℕ) (p : Option PlaceMeaning) (o : Option ObjectPart) → is_some p ≡ true → is_some o ≡ true → Happens t (Throwing x) (threw script x p o)
throws script x t None o h k = absurd (false≢true h)
throws script x t (Some place) o h k = happens_by (λ (o : ObjectPart). Threw place (thrown script x o)) (λ o. refl) t (Throwing x) o k

pub happens : (s : State) (t : ℕ) (fs : List FrameNow) (step : StepPart) → goes_back step ≡ false → CanMake s.script (length fs) step → AllByRecursion (IsPlaced s.script) fs → ((n : ℕ) → starts_thread n step ≡ true → may_begin s.threads n ≡ true)
    → Happens t step (occurrence s fs step)
happens s t fs (Call c) onward can all begins =
    let few : nat_lt (length fs) 256 ≡ true = lt-ltb (length fs) 256 can.0 in
    rw few (happens_by (λ p. Entered p) (λ p. refl) t (Call c) (newest_place s.script (called c ∷ fs)) (placed_there s.script (length (called c ∷ fs)) 0 (site_in s.script c.class c.method) can.1))
happens s t fs (Go i) onward can all begins = happens_by (λ p. Moved p) (λ p. refl) t (Go i) (newest_place s.script (moved i fs)) (moved_place_there s.script i fs can all)
happens s t fs (Return v) onward can all begins = happens_by (λ p. Left p (literal_value v)) (λ p. refl) t (Return v) (newest_place s.script fs) (place_there s.script fs can all)
happens s t fs (Throwing x) onward can all begins = throws s.script x t (newest_place s.script fs) (object_in s.script x.object.0) (place_there s.script fs can.0 all) can.1
happens s t fs (Prepare c) onward can all begins = happens_by (λ (c : ClassPart). Prepared (prepared s.script c)) (λ c. refl) t (Prepare c) (class_in s.script c) can
happens s t fs (Start n) onward can all begins = rw (begins n (eq-eqb n n refl)) refl
happens s t fs (Again k) onward can all begins = absurd (false≢true (sym onward))

-- ---- who lives

pub found_total : (count : ThreadNow → ℕ) (es : List ThreadNow) (t : ℕ) (e : ThreadNow) → with_id (λ (e : ThreadNow). e.id) t es ≡ Some e → count e ≤ total count es
found_total count [] t e h = absurd cc
found_total count (x ∷ xs) t e h = elim (either (x.id == t)) [
  | inl k ↦ let is = rw k at h in let same : x ≡ e = cc in rw same (omega arith)
  | inr k ↦ let rest = found_total count xs t e (rw k at h) in omega arith
]

none_lives : (x t : ℕ) (es : List ThreadNow) → (x == t) ≡ true → AllByRecursion (λ (y : ℕ). (x == y) ≡ false) (thread_ids es) → in_life is_living es t ≡ false
none_lives x t [] is apart = refl
none_lives x t (e ∷ es) is apart =
    let off : (e.id == t) ≡ false = elim (either (e.id == t)) [ inl k ↦ absurd (false≢true (sym apart.0 ∙ eq-eqb x e.id (eqb-true x t is ∙ sym (eqb-true e.id t k)))) | inr k ↦ k ] in
    elim (is_living e.life) as (λ (b : Bool). ((if b then e.id == t else false) || in_life is_living es t) ≡ false) [ true ↦ rw off (none_lives x t es is apart.1) | false ↦ none_lives x t es is apart.1 ]

only_here : (b a r : Bool) → a ≡ true → r ≡ false → ((if b then a else false) || r) ≡ true → b ≡ true
only_here true a r h k l = refl
only_here false a r h k l = absurd (false≢true (sym k ∙ l))

only_there : (b a r : Bool) → a ≡ false → ((if b then a else false) || r) ≡ true → r ≡ true
only_there true true r h l = absurd (false≢true (sym h))
only_there true false r h l = l
only_there false a r h l = l

-- the thread that is found lives, if one of its id does
pub found_lives : (es : List ThreadNow) (t : ℕ) (e : ThreadNow) → IsDistinct (λ (a b : ℕ). a == b) (thread_ids es) → with_id (λ (e : ThreadNow). e.id) t es ≡ Some e → in_life is_living es t ≡ true → is_living e.life ≡ true
unfolding IsDistinct
found_lives [] t e distinct h lives = absurd cc
found_lives (x ∷ xs) t e distinct h lives = elim (either (x.id == t)) [
  | inl k ↦ let is = rw k at h in let same : x ≡ e = cc in
      rw (← same) (only_here (is_living x.life) (x.id == t) (in_life is_living xs t) k (none_lives x.id t xs k distinct.0) lives)
  | inr k ↦ found_lives xs t e distinct.1 (rw k at h) (only_there (is_living x.life) (x.id == t) (in_life is_living xs t) k lives)
]

ends_not : (l : Life) → is_living l ≡ true → l ≡ HasEnded → ⊥
ends_not Waits h k = absurd cc
ends_not Lives h k = absurd cc
ends_not HasEnded h k = absurd (false≢true h)

-- where a thread that lives stands
pub stands : (script : ScriptPart) (es : List ThreadNow) → IsGoing script es → (t : ℕ) (e : ThreadNow) → with_id (λ (e : ThreadNow). e.id) t es ≡ Some e → has (living es) t ≡ true
    → StandsAt (thread_in script e.id) e.place (length e.frames) × AllByRecursion (IsPlaced script) e.frames
stands script es going t e found lives =
    let goes : Goes script e = all_found (λ (e : ThreadNow). e.id) (Goes script) es t e going.each found in
    let alive = found_lives es t e going.distinct found (sym (has_living es t) ∙ lives) in
    elim goes [ inl k ↦ absurd (ends_not e.life alive k) | inr k ↦ k ]

starts_first : (n : ℕ) (step : StepPart) (steps : List StepPart) → starts_thread n step ≡ true → 1 ≤ starts n (step ∷ steps)
starts_first n step steps h = rw h (omega arith)

-- who is started by the next step of a thread waits
pub begins_next : (script : ScriptPart) (es : List ThreadNow) → IsGoing script es → (t : ℕ) (e : ThreadNow) (step : StepPart) → with_id (λ (e : ThreadNow). e.id) t es ≡ Some e → next_step script e ≡ Some step
    → (n : ℕ) → starts_thread n step ≡ true → may_begin es n ≡ true
begins_next script es going t e step found next n h =
    let first = next_left script e step next in
    let one : 1 ≤ starts n (left script e) = rw first (starts_first n step (left script (record e { place = e.place + 1 })) h) in
    let all = found_total (λ (e : ThreadNow). starts n (left script e)) es t e found in
    going.waits n (omega arith)

can_step : (s : State) → IsGoing s.script s.threads → (t : ℕ) (e : ThreadNow) (step : StepPart) → thread_at s t ≡ Some e → next_step s.script e ≡ Some step → has (living s.threads) t ≡ true
    → runs_out (happening_by t step (occurrence s e.frames step)) ≡ false
can_step s going t e step found next lives =
    let there = stands s.script s.threads going t e found lives in
    let can = can_make_at s.script (thread_in s.script e.id) (made_of s.script going.made e.id) e.place (length e.frames) there.0 in
    let all = rw (next_left s.script e step next) at can in
    happens s t e.frames step (onward_at (thread_in s.script e.id) e.place (length e.frames) step there.0 next) all.0 there.1 (begins_next s.script s.threads going t e step found next)

used_at : (s : State) → IsGoing s.script s.threads → (t : ℕ) (e : ThreadNow) (o : Option StepPart) → thread_at s t ≡ Some e → next_step s.script e ≡ o → has (living s.threads) t ≡ true → runs_out (happening_at s t e.frames o) ≡ true → o ≡ None
used_at s going t e None found next lives out = refl
used_at s going t e (Some step) found next lives out = absurd (false≢true (sym (can_step s going t e step found next lives) ∙ out))

used_of : (s : State) → IsGoing s.script s.threads → (t : ℕ) (o : Option ThreadNow) → thread_at s t ≡ o → has (living s.threads) t ≡ true → runs_out (happening_of s t o) ≡ true → option_and_then (next_step s.script) o ≡ None
used_of s going t None found lives out = refl
used_of s going t (Some e) found lives out = used_at s going t e (next_step s.script e) found refl lives out

-- where threads are so, one has run out only where it has used up its steps
pub can_go_on : (s : State) → IsGoing s.script s.threads → CanGoOn s
can_go_on s going = λ t lives out. used_of s going t (thread_at s t) refl lives out

-- ---- a thread that goes round

none_lives_there : (es : List ThreadNow) (t : ℕ) → with_id (λ (e : ThreadNow). e.id) t es ≡ None → in_life is_living es t ≡ false
none_lives_there [] t h = refl
none_lives_there (e ∷ es) t h = elim (either (e.id == t)) [
  | inl k ↦ absurd (let is = rw k at h in cc)
  | inr k ↦ let rest = none_lives_there es t (rw k at h) in
      elim (is_living e.life) as (λ (b : Bool). ((if b then e.id == t else false) || in_life is_living es t) ≡ false) [ true ↦ rw k rest | false ↦ rest ]
]

some_left : (steps : List StepPart) (place : ℕ) → place < length steps → slice_get steps place ≡ None → ⊥
some_left [] place lt h = absurd (omega arith)
some_left (step ∷ steps) zero lt h = absurd cc
some_left (step ∷ steps) (suc place) lt h = some_left steps place (omega arith) h

goes_round_at : (s : State) → IsGoing s.script s.threads → (t : ℕ) (p : ThreadPart) (e : ThreadNow) → thread_at s t ≡ Some e → has (living s.threads) t ≡ true → thread_in s.script t ≡ Some p → goes_round p.steps ≡ true → next_step s.script e ≡ None → ⊥
goes_round_at s going t p e found lives there round used =
    let same : e.id ≡ t = found_id (λ (e : ThreadNow). e.id) s.threads t e found in
    let here : StandsAt (thread_in s.script e.id) e.place (length e.frames) = (stands s.script s.threads going t e found lives).0 in
    let is : thread_in s.script e.id ≡ Some p = rw same there in
    let stands_in : StandsIn p e.place (length e.frames) = rw is at here in
    some_left p.steps e.place (stands_in.within round) (rw is at used)

round_of : (s : State) → IsGoing s.script s.threads → (t : ℕ) (p : ThreadPart) (o : Option ThreadNow) → thread_at s t ≡ o → has (living s.threads) t ≡ true → thread_in s.script t ≡ Some p → goes_round p.steps ≡ true
    → option_and_then (next_step s.script) o ≡ None → ⊥
round_of s going t p None found lives there round used = false≢true (sym (none_lives_there s.threads t found) ∙ (sym (has_living s.threads t) ∙ lives))
round_of s going t p (Some e) found lives there round used = goes_round_at s going t p e found lives there round used

-- where threads are so, one that goes round has not run out
pub never_runs_out : (s : State) → IsGoing s.script s.threads → NeverRunsOut s
never_runs_out s going = λ t p lives there round. elim (either (runs_out (next s t))) [
  | inl out ↦ absurd (round_of s going t p (thread_at s t) refl lives there round (can_go_on s going t lives out))
  | inr on ↦ on
]
