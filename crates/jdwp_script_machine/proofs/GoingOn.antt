-- Proofs that threads stay so, that the steps which they have left can be made: at a step, at an end, at a write of slots and where a string is made.
use Rattle.std.proofs.Common.{◌≡◌, ◌≢◌, ℕ, zero, suc, ℤ, ◌+◌, ◌-◌, ◌≤◌, ◌==◌, ◌||◌, Bool, true, false, if◌then◌else◌, List, [], ◌∷◌, drop, length, refl, sym, ◌∙◌, ap, subst, arith, add-one, Option, Some, None, Result, Ok, Err, option_map, ◌⊎◌, inl, inr}
use Rattle.std.proofs.lemmas.Bool.{eqb-true, eq-eqb, false≢true}
use Rattle.std.proofs.lemmas.List.{length-map}
use Rattle.std.specs.List.{AllByRecursion, IsDistinct}
use Rattle.jdwp_wire.specs.declared.error_code.ErrorCode.{ErrorCode}
use Rattle.jdwp_value.specs.declared.value.Value.{Value}
use Rattle.jdwp_machine.specs.Meanings.{has}
use Rattle.jdwp_script.specs.Limits as limits
use Rattle.jdwp_script.specs.References.{loop_lost}
use Rattle.jdwp_script.specs.Parts.{ObjectPart, StepPart, Call, Go, Return, Throwing, Prepare, Start, Again, ThreadPart, ScriptPart}
use Rattle.jdwp_script_machine.specs.LookUps.{with_id}
use Rattle.jdwp_script_machine.specs.States.{FrameNow, Life, Waits, Lives, HasEnded, ThreadNow, State, has_begun, living, begun, may_begin, thread_at, starts_thread}
use Rattle.jdwp_script_machine.specs.Sites.{thread_in}
use Rattle.jdwp_script_machine.specs.Steps.{next_step, place_after, moved, frames_after, next, after_step, alive, with_started, stepped_by, stepped_of, gone}
use Rattle.jdwp_script_machine.specs.SlotWrites.{frame_written, thread_written, write_refusal, written_by}
use Rattle.jdwp_script_machine.specs.Made.{string_made, with_made}
use Rattle.jdwp_script_machine.specs.Sound.{thread_ids}
use Rattle.jdwp_script_machine.specs.StateLaws.{either, has_id, with_change, has_living, living_begun, change_into, change_within, ids_kept, found_other}
use Rattle.jdwp_script_machine.specs.LiveLaws.{begun_ended}
use Rattle.jdwp_script_machine.specs.SoundLaws.{unchanged, all_changed, all_changed_found, started_ids}
use Rattle.jdwp_script_machine.specs.FrameLaws.{found_changed}
use Rattle.jdwp_script_machine.specs.OpeningLaws.{neither}
use Rattle.jdwp_script_machine.specs.Runs.{Deed, Steps, Ends, Writes, Makes, after, MayBe, after_all, MayAllBe}
use Rattle.jdwp_script_machine.proofs.CanSteps.{CanMake}
use Rattle.jdwp_script_machine.proofs.Going.{steps_left, left, starts_left, IsPlaced, StandsAt, Goes, IsMade, IsGoing, next_left, can_make_at, stands_after, starts_after, made_of, stands, begins_next}
use Rattle.jdwp_script_machine.proofs.Loops.{starts}
use Rattle.jdwp_script_machine.proofs.Openings.{total}

-- ---- how much threads count after a change

total_same : (count : ThreadNow → ℕ) (change : ThreadNow → ThreadNow) → ((e : ThreadNow) → count (change e) ≡ count e) → (es : List ThreadNow) (n : ℕ) → total count (with_change n change es) ≡ total count es
total_same count change same [] n = refl
total_same count change same (e ∷ es) n =
    let rest = total_same count change same es n in
    let here = same e in
    elim (e.id == n) as (λ (b : Bool). count (if b then change e else e) + total count (with_change n change es) ≡ count e + total count es) [ true ↦ omega arith | false ↦ omega arith ]

-- by as much as the one that is found
total_found : (count : ThreadNow → ℕ) (change : ThreadNow → ThreadNow) (es : List ThreadNow) (n : ℕ) (x : ThreadNow) → IsDistinct (λ (a b : ℕ). a == b) (thread_ids es) → with_id (λ (e : ThreadNow). e.id) n es ≡ Some x
    → total count (with_change n change es) + count x ≡ total count es + count (change x)
unfolding IsDistinct
total_found count change [] n x distinct found = absurd cc
total_found count change (e ∷ es) n x distinct found = elim (either (e.id == n)) [
  | inl k ↦ let is : Some e ≡ Some x = rw k at found in
      let same : e ≡ x = cc in
      rw (k, unchanged (λ (e : ThreadNow). e.id) change e.id n k es distinct.0, same) (omega arith)
  | inr k ↦ let rest = total_found count change es n x distinct.1 (rw k at found) in rw k (omega arith)
]

-- ---- who may begin after a change

has_id_kept : (change : ThreadNow → ThreadNow) → ((e : ThreadNow) → (change e).id ≡ e.id) → (es : List ThreadNow) (n u : ℕ) → has_id (with_change n change es) u ≡ has_id es u
has_id_kept change ids [] n u = refl
has_id_kept change ids (e ∷ es) n u = elim (either (e.id == n)) [
  | inl k ↦ rw (k, ids e, has_id_kept change ids es n u) refl
  | inr k ↦ rw (k, has_id_kept change ids es n u) refl
]

begins_kept : (es fs : List ThreadNow) (n : ℕ) → begun fs n ≡ begun es n → has_id fs n ≡ has_id es n → may_begin es n ≡ true → may_begin fs n ≡ true
begins_kept es fs n h k begins = rw (h, k) begins

-- ---- an end

going_ended : (script : ScriptPart) (es : List ThreadNow) → IsGoing script es → (t : ℕ) → begun es t ≡ true → IsGoing script (with_change t gone es)
going_ended script es going t lived =
    record {
      made = going.made;
      distinct = rw (ids_kept gone (λ e. refl) es t) going.distinct;
      each = all_changed (λ (e : ThreadNow). e.id) (Goes script) gone (λ e h. inl refl) es t going.each;
      once = λ n. let same = total_same (λ (e : ThreadNow). starts n (left script e)) gone (λ e. refl) es t in let once = going.once n in omega arith;
      waits = λ n h. let same = total_same (λ (e : ThreadNow). starts n (left script e)) gone (λ e. refl) es t in
          begins_kept es (with_change t gone es) n (begun_ended es t n lived) (has_id_kept gone (λ e. refl) es t n) (going.waits n (omega arith));
    }

-- ---- a write of slots

goes_written : (script : ScriptPart) (f : ℕ) (values : List (ℤ × Value)) (e : ThreadNow) → Goes script e → Goes script (thread_written f values e)
goes_written script f values e h = elim h [
  | inl k ↦ inl k
  | inr k ↦ let P : ℕ → Type 0 = λ n. StandsAt (thread_in script e.id) e.place n in
      inr (subst P (sym (length-map e.frames (λ (x : FrameNow). if x.id == f then frame_written values x else x))) k.0, all_changed (λ (x : FrameNow). x.id) (IsPlaced script) (frame_written values) (λ x p. p) e.frames f k.1)
]

going_written : (script : ScriptPart) (es : List ThreadNow) → IsGoing script es → (t f : ℕ) (values : List (ℤ × Value)) → IsGoing script (with_change t (thread_written f values) es)
going_written script es going t f values =
    record {
      made = going.made;
      distinct = rw (ids_kept (thread_written f values) (λ e. refl) es t) going.distinct;
      each = all_changed (λ (e : ThreadNow). e.id) (Goes script) (thread_written f values) (goes_written script f values) es t going.each;
      once = λ n. let same = total_same (λ (e : ThreadNow). starts n (left script e)) (thread_written f values) (λ e. refl) es t in let once = going.once n in omega arith;
      waits = λ n h. let same = total_same (λ (e : ThreadNow). starts n (left script e)) (thread_written f values) (λ e. refl) es t in
          begins_kept es (with_change t (thread_written f values) es) n (change_within has_begun (thread_written f values) (λ e. refl) (λ e. refl) es t n) (has_id_kept (thread_written f values) (λ e. refl) es t n) (going.waits n (omega arith));
    }

written_going : (s : State) → IsGoing s.script s.threads → (t f : ℕ) (values : List (ℤ × Value)) (r : Option ErrorCode) → IsGoing (written_by s t f values r).script (written_by s t f values r).threads
written_going s going t f values None = going_written s.script s.threads going t f values
written_going s going t f values (Some e) = going

made_going : (s : State) → IsGoing s.script s.threads → (r : Result ObjectPart ErrorCode) → IsGoing (with_made s r).script (with_made s r).threads
made_going s going (Ok o) = going
made_going s going (Err e) = going

-- ---- a thread that is started

ends_not : (l : Life) (a : Bool) → a ≡ true → (if has_begun l then a else false) ≡ false → l ≡ HasEnded → ⊥
ends_not Waits a h k is = absurd cc
ends_not Lives a h k is = absurd cc
ends_not HasEnded a h k is = absurd (false≢true (sym k ∙ h))

alive_goes : (script : ScriptPart) (es : List ThreadNow) (n : ℕ) → begun es n ≡ false → AllByRecursion (Goes script) es → AllByRecursion (Goes script) (with_change n alive es)
alive_goes script [] n h all = tt
alive_goes script (e ∷ es) n h all =
    let new = neither (if has_begun e.life then e.id == n else false) (begun es n) h in
    elim (either (e.id == n)) [
      | inl k ↦ let here : Goes script (alive e) = elim all.0 [ inl dead ↦ absurd (ends_not e.life (e.id == n) k new.0 dead) | inr can ↦ inr can ] in
          rw k (here, alive_goes script es n new.1 all.1)
      | inr k ↦ rw k (all.0, alive_goes script es n new.1 all.1)
    ]

started_goes : (script : ScriptPart) (step : StepPart) (es : List ThreadNow) → ((n : ℕ) → starts_thread n step ≡ true → begun es n ≡ false) → AllByRecursion (Goes script) es → AllByRecursion (Goes script) (with_started step es)
started_goes script (Start n) es new all = alive_goes script es n (new n (eq-eqb n n refl)) all
started_goes script (Call c) es new all = all
started_goes script (Go i) es new all = all
started_goes script (Return v) es new all = all
started_goes script (Throwing x) es new all = all
started_goes script (Prepare c) es new all = all
started_goes script (Again k) es new all = all

total_started : (script : ScriptPart) (n : ℕ) (step : StepPart) (es : List ThreadNow) → starts_left script n (with_started step es) ≡ starts_left script n es
total_started script n (Start m) es = total_same (λ (e : ThreadNow). starts n (left script e)) alive (λ e. refl) es m
total_started script n (Call c) es = refl
total_started script n (Go i) es = refl
total_started script n (Return v) es = refl
total_started script n (Throwing x) es = refl
total_started script n (Prepare c) es = refl
total_started script n (Again k) es = refl

-- the thread that steps is found as it was, but that it may have begun
found_started : (step : StepPart) (es : List ThreadNow) (t : ℕ) (e : ThreadNow) → with_id (λ (e : ThreadNow). e.id) t es ≡ Some e
    → (with_id (λ (e : ThreadNow). e.id) t (with_started step es) ≡ Some e) ⊎ (with_id (λ (e : ThreadNow). e.id) t (with_started step es) ≡ Some (alive e))
found_started (Start n) es t e h = elim (either (n == t)) [
  | inl k ↦ let same : n ≡ t = eqb-true n t k in inr (rw same (found_changed alive (λ e. refl) es t ∙ ap (option_map alive) h))
  | inr k ↦ let other : n ≢ t = λ is. absurd (false≢true (sym k ∙ eq-eqb n t is)) in inl (found_other (λ (e : ThreadNow). e.id) alive (λ e. refl) es n t other ∙ h)
]
found_started (Call c) es t e h = inl h
found_started (Go i) es t e h = inl h
found_started (Return v) es t e h = inl h
found_started (Throwing x) es t e h = inl h
found_started (Prepare c) es t e h = inl h
found_started (Again k) es t e h = inl h

has_id_started : (step : StepPart) (es : List ThreadNow) (u : ℕ) → has_id (with_started step es) u ≡ has_id es u
has_id_started (Start n) es u = has_id_kept alive (λ e. refl) es n u
has_id_started (Call c) es u = refl
has_id_started (Go i) es u = refl
has_id_started (Return v) es u = refl
has_id_started (Throwing x) es u = refl
has_id_started (Prepare c) es u = refl
has_id_started (Again k) es u = refl

none_more : (r h : Bool) → (r || (if h then false else false)) ≡ r
none_more true h = refl
none_more false true = refl
none_more false false = refl

begun_started : (step : StepPart) (es : List ThreadNow) (u : ℕ) → starts_thread u step ≡ false → begun (with_started step es) u ≡ begun es u
begun_started (Start n) es u off = change_into has_begun alive (λ e. refl) (λ e. refl) es n u ∙ rw off (none_more (begun es u) (has_id es n))
begun_started (Call c) es u off = refl
begun_started (Go i) es u off = refl
begun_started (Return v) es u off = refl
begun_started (Throwing x) es u off = refl
begun_started (Prepare c) es u off = refl
begun_started (Again k) es u off = refl

-- ---- a step

moved_length : (i : ℕ) (fs : List FrameNow) → length (moved i fs) ≡ length fs
moved_length i [] = refl
moved_length i (f ∷ fs) = refl

dropped_length : (fs : List FrameNow) → length (drop 1 fs) ≡ length fs - 1
dropped_length [] = refl
dropped_length (f ∷ fs) = omega arith

frames_length : (step : StepPart) (fs : List FrameNow) → length (frames_after step fs) ≡ limits.frames_after (length fs) step
frames_length (Call c) fs = sym (add-one (length fs))
frames_length (Go i) fs = moved_length i fs
frames_length (Return v) fs = dropped_length fs
frames_length (Throwing x) fs = refl
frames_length (Prepare c) fs = refl
frames_length (Start n) fs = refl
frames_length (Again k) fs = refl

moved_placed : (script : ScriptPart) (i : ℕ) (fs : List FrameNow) → AllByRecursion (IsPlaced script) fs → AllByRecursion (IsPlaced script) (moved i fs)
moved_placed script i [] all = tt
moved_placed script i (f ∷ fs) all = (all.0, all.1)

dropped_placed : (script : ScriptPart) (fs : List FrameNow) → AllByRecursion (IsPlaced script) fs → AllByRecursion (IsPlaced script) (drop 1 fs)
dropped_placed script [] all = tt
dropped_placed script (f ∷ fs) all = all.1

frames_placed : (script : ScriptPart) (step : StepPart) (fs : List FrameNow) → CanMake script (length fs) step → AllByRecursion (IsPlaced script) fs → AllByRecursion (IsPlaced script) (frames_after step fs)
frames_placed script (Call c) fs can all = (can.1, all)
frames_placed script (Go i) fs can all = moved_placed script i fs all
frames_placed script (Return v) fs can all = dropped_placed script fs all
frames_placed script (Throwing x) fs can all = all
frames_placed script (Prepare c) fs can all = all
frames_placed script (Start n) fs can all = all
frames_placed script (Again k) fs can all = all

back_in : (script : ScriptPart) → AllByRecursion (IsMade script) script.threads → (e : ThreadNow) → (t : ThreadPart) → thread_in script e.id ≡ Some t → loop_lost t.steps ≡ false
back_in script made e t h = (made_of script made e.id t h).back

-- where a thread stands after its next step
goes_after : (script : ScriptPart) → AllByRecursion (IsMade script) script.threads → (e : ThreadNow) (step : StepPart) → next_step script e ≡ Some step → StandsAt (thread_in script e.id) e.place (length e.frames) → AllByRecursion (IsPlaced script) e.frames
    → Goes script (after_step (place_after script e) step e)
goes_after script made e step next there all =
    let can = can_make_at script (thread_in script e.id) (made_of script made e.id) e.place (length e.frames) there in
    let both = rw (next_left script e step next) at can in
    let P : ℕ → Type 0 = λ n. StandsAt (thread_in script e.id) (place_after script e) n in
    inr (subst P (sym (frames_length step e.frames)) (stands_after (thread_in script e.id) (back_in script made e) e.place (length e.frames) step there next), frames_placed script step e.frames both.0 all)

nothing_less : (n made : ℕ) → starts n (drop (suc made) []) ≤ starts n (drop made [])
nothing_less n zero = omega arith
nothing_less n (suc made) = omega arith

drop_less : (n made : ℕ) (steps : List StepPart) → starts n (drop (made + 1) steps) ≤ starts n (drop made steps)
drop_less n made [] = rw (add-one made) (nothing_less n made)
drop_less n zero (step ∷ steps) = omega arith
drop_less n (suc made) (step ∷ steps) = rw (add-one (suc made)) (rw (add-one made) at (drop_less n made steps))

left_less : (n made : ℕ) (o : Option ThreadPart) → starts n (steps_left o (made + 1)) ≤ starts n (steps_left o made)
left_less n made None = omega arith
left_less n made (Some t) = drop_less n made t.steps

-- as many are left as if it went on behind its step
after_same : (script : ScriptPart) → AllByRecursion (IsMade script) script.threads → (n : ℕ) (step : StepPart) (e : ThreadNow)
    → starts n (left script (after_step (place_after script e) step e)) ≡ starts n (left script (record e { place = e.place + 1 }))
after_same script made n step e = starts_after (thread_in script e.id) (back_in script made e) (e.place + 1) n

after_less : (script : ScriptPart) → AllByRecursion (IsMade script) script.threads → (n : ℕ) (step : StepPart) (e : ThreadNow) → starts n (left script (after_step (place_after script e) step e)) ≤ starts n (left script e)
after_less script made n step e = let same = after_same script made n step e in let less = left_less n e.place (thread_in script e.id) in omega arith

one_less : (n : ℕ) (step : StepPart) (steps : List StepPart) → starts_thread n step ≡ true → starts n steps + 1 ≤ starts n (step ∷ steps)
one_less n step steps h = rw h (omega arith)

after_one_less : (script : ScriptPart) → AllByRecursion (IsMade script) script.threads → (n : ℕ) (step : StepPart) (e : ThreadNow) → next_step script e ≡ Some step → starts_thread n step ≡ true
    → starts n (left script (after_step (place_after script e) step e)) + 1 ≤ starts n (left script e)
after_one_less script made n step e next h =
    let same = after_same script made n step e in
    let all = ap (starts n) (next_left script e step next) in
    let less = one_less n step (left script (record e { place = e.place + 1 })) h in
    omega arith

waits_by : (b : Bool) (es fs : List ThreadNow) (n : ℕ) (m before : ℕ) → (b ≡ true → m + 1 ≤ before) → (b ≡ false → begun fs n ≡ begun es n) → has_id fs n ≡ has_id es n → m ≤ before → before ≤ 1 → 1 ≤ m → (1 ≤ before → may_begin es n ≡ true) → may_begin fs n ≡ true
waits_by true es fs n m before less same ids most once some waits = absurd (let l = less refl in omega arith)
waits_by false es fs n m before less same ids most once some waits = begins_kept es fs n (same refl) ids (waits (omega arith))

-- who is started by a step that is left then waits
waits_after : (script : ScriptPart) (es : List ThreadNow) → IsGoing script es → (t : ℕ) (e : ThreadNow) (step : StepPart) → with_id (λ (e : ThreadNow). e.id) t (with_started step es) ≡ Some e → next_step script e ≡ Some step
    → (n : ℕ) → 1 ≤ starts_left script n (with_change t (after_step (place_after script e) step) (with_started step es)) → may_begin (with_change t (after_step (place_after script e) step) (with_started step es)) n ≡ true
waits_after script es going t e step found next n h =
    let count = λ (e : ThreadNow). starts n (left script e) in
    let now = with_started step es in
    let change = after_step (place_after script e) step in
    let same : total count now ≡ total count es = total_started script n step es in
    let apart : IsDistinct (λ (a b : ℕ). a == b) (thread_ids now) = rw (started_ids step es) going.distinct in
    let moved = total_found count change now t e apart found in
    waits_by (starts_thread n step) es (with_change t change now) n (total count (with_change t change now)) (total count es)
    (λ k. let one = after_one_less script going.made n step e next k in omega arith)
    (λ k. change_within has_begun change (λ e. refl) (λ e. refl) now t n ∙ begun_started step es n k)
    (has_id_kept change (λ e. refl) now t n ∙ has_id_started step es n)
    (let less = after_less script going.made n step e in omega arith)
    (going.once n) h (going.waits n)

-- the thread of this id made its next step, as it stands where the one that is started lives
going_made : (script : ScriptPart) (es : List ThreadNow) → IsGoing script es → (t : ℕ) (e : ThreadNow) (step : StepPart) → with_id (λ (e : ThreadNow). e.id) t (with_started step es) ≡ Some e → next_step script e ≡ Some step
    → StandsAt (thread_in script e.id) e.place (length e.frames) → AllByRecursion (IsPlaced script) e.frames → ((n : ℕ) → starts_thread n step ≡ true → begun es n ≡ false)
    → IsGoing script (with_change t (after_step (place_after script e) step) (with_started step es))
going_made script es going t e step found next there placed new =
    let now = with_started step es in
    let change = after_step (place_after script e) step in
    let apart : IsDistinct (λ (a b : ℕ). a == b) (thread_ids now) = rw (started_ids step es) going.distinct in
    record {
      made = going.made;
      distinct = rw (ids_kept change (λ e. refl) now t) apart;
      each = all_changed_found (λ (e : ThreadNow). e.id) (Goes script) change now t e apart found (goes_after script going.made e step next there placed) (started_goes script step es new going.each);
      once = λ n. let moved = total_found (λ (e : ThreadNow). starts n (left script e)) change now t e apart found in
          let less = after_less script going.made n step e in
          let same = total_started script n step es in
          let once = going.once n in omega arith;
      waits = λ n h. waits_after script es going t e step found next n h;
    }

not_begun : (b h : Bool) → (if b then false else h) ≡ true → b ≡ false
not_begun true h k = absurd (false≢true k)
not_begun false h k = refl

going_stepped : (s : State) → IsGoing s.script s.threads → (t : ℕ) (e : ThreadNow) (step : StepPart) → thread_at s t ≡ Some e → next_step s.script e ≡ Some step → has (living s.threads) t ≡ true
    → IsGoing s.script (with_change t (after_step (place_after s.script e) step) (with_started step s.threads))
going_stepped s going t e step found next lives =
    let there = stands s.script s.threads going t e found lives in
    let new : (n : ℕ) → starts_thread n step ≡ true → begun s.threads n ≡ false =
    λ n h. not_begun (begun s.threads n) (has_id s.threads n) (begins_next s.script s.threads going t e step found next n h) in
    elim (found_started step s.threads t e found) [
      | inl k ↦ going_made s.script s.threads going t e step k next there.0 there.1 new
      | inr k ↦ going_made s.script s.threads going t (alive e) step k next there.0 there.1 new
    ]

stepped_at : (s : State) → IsGoing s.script s.threads → (t : ℕ) (e : ThreadNow) (o : Option StepPart) → thread_at s t ≡ Some e → next_step s.script e ≡ o → has (living s.threads) t ≡ true
    → IsGoing (stepped_by s t (place_after s.script e) o).script (stepped_by s t (place_after s.script e) o).threads
stepped_at s going t e None found next lives = going
stepped_at s going t e (Some step) found next lives = going_stepped s going t e step found next lives

stepped_going : (s : State) → IsGoing s.script s.threads → (t : ℕ) (o : Option ThreadNow) → thread_at s t ≡ o → has (living s.threads) t ≡ true → IsGoing (stepped_of s t o).script (stepped_of s t o).threads
stepped_going s going t None found lives = going
stepped_going s going t (Some e) found lives = stepped_at s going t e (next_step s.script e) found refl lives

-- ---- all of them

going_after : (s : State) → IsGoing s.script s.threads → (d : Deed) → MayBe s d → IsGoing (after s d).script (after s d).threads
going_after s going (Steps t) may = stepped_going s going t (thread_at s t) refl may.0
going_after s going (Ends t) may = going_ended s.script s.threads going t (living_begun s.threads t (sym (has_living s.threads t) ∙ may))
going_after s going (Writes t f values) may = written_going s going t f values (write_refusal s t f values)
going_after s going (Makes text) may = made_going s going (string_made s text)

-- what is done to a machine leaves each thread so, that it can make the steps that it has left
pub going_after_all : (s : State) → IsGoing s.script s.threads → (ds : List Deed) → MayAllBe s ds → IsGoing (after_all s ds).script (after_all s ds).threads
going_after_all s going [] may = going
going_after_all s going (d ∷ ds) may = going_after_all (after s d) (going_after s going d may.0) ds may.1
