-- Proofs about steps: the thread that a happening names, and who lives and has lived after a step.
use Rattle.std.proofs.Common.{◌≡◌, ℕ, ◌==◌, ◌||◌, Bool, true, false, nat_lt, if◌then◌else◌, List, ◌∷◌, length, refl, sym, ◌∙◌, Option, Some, None, option_map, inl, inr}
use Rattle.std.proofs.lemmas.Bool.{eqb-true, false≢true}
use Rattle.std.proofs.Math.Bool.{or-false}
use Rattle.jdwp_event.specs.Occurrences.{OccurrenceMeaning, Moved, Entered, Left, Threw, Prepared, Started, PlaceMeaning, started, started_by, runs_out}
use Rattle.jdwp_script.specs.declared.step.Throw.{Throw}
use Rattle.jdwp_script.specs.Parts.{ClassPart, ObjectPart, StepPart, Call, Go, Return, Throwing, Prepare, Start, Again, ScriptPart}
use Rattle.jdwp_machine.specs.Laws.{is_named}
use Rattle.jdwp_script_machine.specs.States.{FrameNow, Life, Lives, ThreadNow, State, has_begun, begun, may_begin, thread_at}
use Rattle.jdwp_script_machine.specs.Sites.{class_in, object_in, newest_place}
use Rattle.jdwp_script_machine.specs.Steps.{called, moved, FRAME_LIMIT, thrown, threw, prepared, occurrence, named_by, happening_by, happening_at, happening_of, next, next_step, place_after, after_step, alive, with_started, stepped_by, stepped_of, stepped, gone}
use Rattle.jdwp_script_machine.specs.StateLaws.{either, in_life, has_id, with_change, change_into, change_within}

-- ---- which thread is named

-- the thread that a step starts, where it can be made
abbrev pub start_of : List ThreadNow → StepPart → Option ℕ
start_of es (Start n) = if may_begin es n then Some n else None
start_of es (Call c) = None
start_of es (Go n) = None
start_of es (Return v) = None
start_of es (Throwing x) = None
start_of es (Prepare n) = None
start_of es (Again k) = None

none_by : {A : Type 0} (f : A → OccurrenceMeaning) → ((t : ℕ) (x : A) → started_by t (f x) ≡ None) → (t : ℕ) (step : StepPart) (o : Option A) → started (happening_by t step (option_map f o)) ≡ None
none_by f plain t step None = refl
none_by f plain t step (Some x) = plain (named_by t step) x

none_called : (b : Bool) (t : ℕ) (step : StepPart) (o : Option PlaceMeaning) → started (happening_by t step (if b then option_map (λ p. Entered p) o else None)) ≡ None
none_called true t step o = none_by (λ p. Entered p) (λ t x. refl) t step o
none_called false t step o = refl

none_thrown : (script : ScriptPart) (x : Throw) (t : ℕ) (step : StepPart) (p : Option PlaceMeaning) (o : Option ObjectPart) → started (happening_by t step (threw script x p o)) ≡ None
none_thrown script x t step None o = refl
none_thrown script x t step (Some place) o = none_by (λ (o : ObjectPart). Threw place (thrown script x o)) (λ t x. refl) t step o

started_when : (b : Bool) (t n : ℕ) → started (happening_by t (Start n) (if b then Some Started else None)) ≡ (if b then Some n else None)
started_when true t n = refl
started_when false t n = refl

pub started_at : (s : State) (t : ℕ) (fs : List FrameNow) (step : StepPart) → started (happening_by t step (occurrence s fs step)) ≡ start_of s.threads step
started_at s t fs (Start n) = started_when (may_begin s.threads n) t n
started_at s t fs (Call c) = none_called (nat_lt (length fs) FRAME_LIMIT) t (Call c) (newest_place s.script (called c ∷ fs))
started_at s t fs (Go n) = none_by (λ p. Moved p) (λ t x. refl) t (Go n) (newest_place s.script (moved n fs))
started_at s t fs (Return v) = none_by (λ p. Left p _) (λ t x. refl) t (Return v) (newest_place s.script fs)
started_at s t fs (Throwing x) = none_thrown s.script x t (Throwing x) (newest_place s.script fs) (object_in s.script x.object.0)
started_at s t fs (Prepare n) = none_by (λ (c : ClassPart). Prepared (prepared s.script c)) (λ t x. refl) t (Prepare n) (class_in s.script n)
started_at s t fs (Again k) = refl

named_own : (t : ℕ) (step : StepPart) → named_by t step ≡ t → (o : Option OccurrenceMeaning) → (happening_by t step o).thread ≡ t
named_own t step own None = refl
named_own t step own (Some o) = own

own_when : (b : Bool) (t n : ℕ) → started (happening_by t (Start n) (if b then Some Started else None)) ≡ None → (happening_by t (Start n) (if b then Some Started else None)).thread ≡ t
own_when true t n h = absurd cc
own_when false t n h = refl

own_by : (s : State) (t : ℕ) (fs : List FrameNow) (step : StepPart) → started (happening_by t step (occurrence s fs step)) ≡ None → (happening_by t step (occurrence s fs step)).thread ≡ t
own_by s t fs (Start n) h = own_when (may_begin s.threads n) t n h
own_by s t fs (Call c) h = named_own t (Call c) refl (occurrence s fs (Call c))
own_by s t fs (Go n) h = named_own t (Go n) refl (occurrence s fs (Go n))
own_by s t fs (Return v) h = named_own t (Return v) refl (occurrence s fs (Return v))
own_by s t fs (Throwing x) h = named_own t (Throwing x) refl (occurrence s fs (Throwing x))
own_by s t fs (Prepare n) h = named_own t (Prepare n) refl (occurrence s fs (Prepare n))
own_by s t fs (Again k) h = refl

own_at : (s : State) (t : ℕ) (fs : List FrameNow) (p : Option StepPart) → started (happening_at s t fs p) ≡ None → (happening_at s t fs p).thread ≡ t
own_at s t fs None h = refl
own_at s t fs (Some step) h = own_by s t fs step h

own_of : (s : State) (t : ℕ) (o : Option ThreadNow) → started (happening_of s t o) ≡ None → (happening_of s t o).thread ≡ t
own_of s t None h = refl
own_of s t (Some e) h = own_at s t e.frames (next_step s.script e) h

pub own_thread : (s : State) (t : ℕ) → started (next s t) ≡ None → (next s t).thread ≡ t
own_thread s t h = own_of s t (thread_at s t) h

-- ---- who is started never lived

parts : (b h : Bool) → (if b then false else h) ≡ true → (b ≡ false) × (h ≡ true)
parts true h e = absurd (false≢true e)
parts false h e = (refl, e)

may_begin_parts : (es : List ThreadNow) (n : ℕ) → may_begin es n ≡ true → (begun es n ≡ false) × (has_id es n ≡ true)
may_begin_parts es n h = parts (begun es n) (has_id es n) h

start_new : (es : List ThreadNow) (step : StepPart) (n : ℕ) → start_of es step ≡ Some n → begun es n ≡ false
start_new es (Start m) n h = elim (either (may_begin es m)) [
  | inl k ↦ let e : Some m ≡ Some n = rw k at h in let same : m ≡ n = cc in rw (← same) (may_begin_parts es m k).0
  | inr k ↦ absurd (let e = rw k at h in cc)
]
start_new es (Call c) n h = absurd cc
start_new es (Go i) n h = absurd cc
start_new es (Return v) n h = absurd cc
start_new es (Throwing x) n h = absurd cc
start_new es (Prepare i) n h = absurd cc
start_new es (Again k) n h = absurd cc

new_at : (s : State) (t n : ℕ) (fs : List FrameNow) (p : Option StepPart) → started (happening_at s t fs p) ≡ Some n → begun s.threads n ≡ false
new_at s t n fs None h = absurd cc
new_at s t n fs (Some step) h = start_new s.threads step n (sym (started_at s t fs step) ∙ h)

new_of : (s : State) (t n : ℕ) (o : Option ThreadNow) → started (happening_of s t o) ≡ Some n → begun s.threads n ≡ false
new_of s t n None h = absurd cc
new_of s t n (Some e) h = new_at s t n e.frames (next_step s.script e) h

pub new_thread : (s : State) (t n : ℕ) → started (next s t) ≡ Some n → begun s.threads n ≡ false
new_thread s t n h = new_of s t n (thread_at s t) h

-- ---- who is in a stage of life after a step

started_into : (test : Life → Bool) → test Lives ≡ true → (s : State) (t u : ℕ) (fs : List FrameNow) (step : StepPart) → runs_out (happening_by t step (occurrence s fs step)) ≡ false
    → in_life test (with_started step s.threads) u ≡ (in_life test s.threads u || is_named (start_of s.threads step) u)
started_into test lives s t u fs (Start n) h = elim (either (may_begin s.threads n)) [
  | inl k ↦ let known : has_id s.threads n ≡ true = (may_begin_parts s.threads n k).1 in
      rw (k, change_into test alive (λ e. refl) (λ e. lives) s.threads n u, known) refl
  | inr k ↦ let e : runs_out (happening_by t (Start n) None) ≡ false = rw k at h in absurd cc
]
started_into test lives s t u fs (Call c) h = sym (or-false _)
started_into test lives s t u fs (Go n) h = sym (or-false _)
started_into test lives s t u fs (Return v) h = sym (or-false _)
started_into test lives s t u fs (Throwing x) h = sym (or-false _)
started_into test lives s t u fs (Prepare n) h = sym (or-false _)
started_into test lives s t u fs (Again k) h = sym (or-false _)

stepped_into_by : (test : Life → Bool) → test Lives ≡ true → (s : State) (t u place : ℕ) (fs : List FrameNow) (p : Option StepPart) → runs_out (happening_at s t fs p) ≡ false
    → in_life test (stepped_by s t place p).threads u ≡ (in_life test s.threads u || is_named (started (happening_at s t fs p)) u)
stepped_into_by test lives s t u place fs None h = sym (or-false _)
stepped_into_by test lives s t u place fs (Some step) h =
    rw (change_within test (after_step place step) (λ e. refl) (λ e. refl) (with_started step s.threads) t u, started_at s t fs step) (started_into test lives s t u fs step h)

stepped_into_of : (test : Life → Bool) → test Lives ≡ true → (s : State) (t u : ℕ) (o : Option ThreadNow) → runs_out (happening_of s t o) ≡ false
    → in_life test (stepped_of s t o).threads u ≡ (in_life test s.threads u || is_named (started (happening_of s t o)) u)
stepped_into_of test lives s t u None h = sym (or-false _)
stepped_into_of test lives s t u (Some e) h = stepped_into_by test lives s t u (place_after s.script e) e.frames (next_step s.script e) h

pub stepped_into : (test : Life → Bool) → test Lives ≡ true → (s : State) (t u : ℕ) → runs_out (next s t) ≡ false
    → in_life test (stepped s t).threads u ≡ (in_life test s.threads u || is_named (started (next s t)) u)
stepped_into test lives s t u h = stepped_into_of test lives s t u (thread_at s t) h

-- ---- who has lived after an end

absorbed : (n u : ℕ) (h r : Bool) → ((n == u) ≡ true → r ≡ true) → (r || (if h then n == u else false)) ≡ r
absorbed n u true r f = elim (either (n == u)) [ inl k ↦ rw (f k) refl | inr k ↦ rw k (or-false r) ]
absorbed n u false r f = or-false r

pub begun_ended : (es : List ThreadNow) (t u : ℕ) → begun es t ≡ true → begun (with_change t gone es) u ≡ begun es u
begun_ended es t u h = rw (change_into has_begun gone (λ e. refl) (λ e. refl) es t u) (absorbed t u (has_id es t) (begun es u) (λ k. let same : t ≡ u = eqb-true t u k in rw (← same) h))

-- ---- the script and the widths stay

stepped_by_script : (s : State) (t place : ℕ) (p : Option StepPart) → (stepped_by s t place p).script ≡ s.script
stepped_by_script s t place None = refl
stepped_by_script s t place (Some step) = refl

stepped_of_script : (s : State) (t : ℕ) (o : Option ThreadNow) → (stepped_of s t o).script ≡ s.script
stepped_of_script s t None = refl
stepped_of_script s t (Some e) = stepped_by_script s t (place_after s.script e) (next_step s.script e)

pub stepped_script : (s : State) (t : ℕ) → (stepped s t).script ≡ s.script
stepped_script s t = stepped_of_script s t (thread_at s t)
