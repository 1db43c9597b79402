-- Proofs that a state stays sound: after a step, an end, and written slots; and what of objects fits.
use Rattle.std.proofs.Common.{◌≡◌, ℕ, zero, suc, ℤ, ◌^◌, ◌<◌, ◌≤◌, ◌==◌, ◌||◌, ◌&&◌, Bool, true, false, not, nat_lt, if◌then◌else◌, List, [], ◌∷◌, map, drop, length, refl, sym, ◌∙◌, arith, Option, Some, None, option_and_then, inl, inr}
use Rattle.std.proofs.lemmas.Bool.{eqb-true, eq-eqb, false≢true, lt-ltb, ltb-true}
use Rattle.std.proofs.lemmas.List.{length-map}
use Rattle.std.proofs.Math.Nat.{one-le-pow}
use Rattle.std.specs.List.{list_all, slice_get, AllByRecursion, IsDistinct}
use Rattle.std.specs.Option.{option_or}
use Rattle.std.specs.Ordering.{int_eq}
use Rattle.jdwp_wire.specs.Widths.{Widths}
use Rattle.jdwp_wire.specs.Text.{text_refusal}
use Rattle.jdwp_wire.specs.declared.error_code.ErrorCode.{ErrorCode}
use Rattle.jdwp_wire.specs.ErrorCodes.{INVALID_SLOT, TYPE_MISMATCH, INVALID_OBJECT}
use Rattle.jdwp_value.specs.declared.value.Value.{Value}
use Rattle.jdwp_value.specs.declared.value.Value.TheVariants as value
use Rattle.jdwp_value.specs.Values.{value_refusal, tag_of}
use Rattle.jdwp_event.specs.Occurrences.{runs_out}
use Rattle.jdwp_script.specs.declared.step.SlotValue.{SlotValue}
use Rattle.jdwp_script.specs.Parts.{GroupPart, ObjectPart, CallPart, StepPart, Call, Go, Return, Throwing, Prepare, Start, Again, ThreadPart, ScriptPart}
use Rattle.jdwp_script_machine.specs.LookUps.{with_id, changed, is_some}
use Rattle.jdwp_script_machine.specs.States.{SlotNow, FrameNow, ThreadNow, State, thread_at}
use Rattle.jdwp_script_machine.specs.Sites.{thread_in, object_in, object_at, group_in, is_known}
use Rattle.jdwp_script_machine.specs.Steps.{slot_now, called, moved, frames_after, FRAME_LIMIT, occurrence, happening_by, happening_at, happening_of, next, next_step, place_after, after_step, alive, with_started, stepped_by, stepped_of, stepped, gone, ended}
use Rattle.jdwp_script_machine.specs.SlotWrites.{has_slot, slot_value, found_suits, may_hold, slots_refusal, frame_refusal, frame_in, thread_refusal, write_refusal, slot_written, slots_written, frame_written, thread_written, written_by, written}
use Rattle.jdwp_script_machine.specs.Sound.{IsShort, Fits, ValueFits, IfThere, StepIsSound, CallIsSound, ThreadIsSound, GroupIsSound, ObjectIsSound, ScriptIsSound, SlotNowIsSound, FrameIsSound, ThreadNowIsSound, thread_ids, ObjectFits, IsSound}
use Rattle.jdwp_script_machine.specs.StateLaws.{either, with_change, ids_kept}
use Rattle.jdwp_script_machine.specs.FitLaws.{short_text}

-- ---- what holds of all

pub all_found : {A : Type 0} (key : A → ℕ) (P : A → Type 0) (xs : List A) (n : ℕ) (x : A) → AllByRecursion P xs → with_id key n xs ≡ Some x → P x
all_found key P [] n x all h = absurd cc
all_found key P (y ∷ ys) n x all h = elim (either (key y == n)) [
  | inl k ↦ let e : Some y ≡ Some x = rw k at h in let same : y ≡ x = cc in rw (← same) all.0
  | inr k ↦ all_found key P ys n x all.1 (rw k at h)
]

pub found_id : {A : Type 0} (key : A → ℕ) (xs : List A) (n : ℕ) (x : A) → with_id key n xs ≡ Some x → key x ≡ n
found_id key [] n x h = absurd cc
found_id key (y ∷ ys) n x h = elim (either (key y == n)) [
  | inl k ↦ let e : Some y ≡ Some x = rw k at h in let same : y ≡ x = cc in rw (← same) (eqb-true (key y) n k)
  | inr k ↦ found_id key ys n x (rw k at h)
]

pub all_get : {A : Type 0} (P : A → Type 0) (xs : List A) (i : ℕ) (x : A) → AllByRecursion P xs → slice_get xs i ≡ Some x → P x
all_get P [] i x all h = absurd cc
all_get P (y ∷ ys) zero x all h = let same : y ≡ x = cc in rw (← same) all.0
all_get P (y ∷ ys) (suc i) x all h = all_get P ys i x all.1 h

pub all_map : {A B : Type 0} (P : A → Type 0) (Q : B → Type 0) (f : A → B) → ((x : A) → P x → Q (f x)) → (xs : List A) → AllByRecursion P xs → AllByRecursion Q (map f xs)
all_map P Q f step [] all = tt
all_map P Q f step (x ∷ xs) all = (step x all.0, all_map P Q f step xs all.1)

pub all_changed : {A : Type 0} (key : A → ℕ) (P : A → Type 0) (change : A → A) → ((x : A) → P x → P (change x)) → (xs : List A) (n : ℕ) → AllByRecursion P xs → AllByRecursion P (changed key n change xs)
all_changed key P change step [] n all = tt
all_changed key P change step (x ∷ xs) n all = (elim (key x == n) as (λ (b : Bool). P (if b then change x else x)) [ true ↦ step x all.0 | false ↦ all.0 ], all_changed key P change step xs n all.1)

-- where nothing has the id, nothing changes
pub unchanged : {A : Type 0} (key : A → ℕ) (change : A → A) (x n : ℕ) → (x == n) ≡ true → (xs : List A) → AllByRecursion (λ (y : ℕ). (x == y) ≡ false) (map key xs) → changed key n change xs ≡ xs
unchanged key change x n h [] apart = refl
unchanged key change x n h (y ∷ ys) apart =
    let same : x ≡ n = eqb-true x n h in
    let off : (key y == n) ≡ false = elim (either (key y == n)) [ inl k ↦ absurd (false≢true (sym apart.0 ∙ eq-eqb x (key y) (same ∙ sym (eqb-true (key y) n k)))) | inr k ↦ k ] in
    rw (off, unchanged key change x n h ys apart.1) refl

-- a change of the one that was found
pub all_changed_found : {A : Type 0} (key : A → ℕ) (P : A → Type 0) (change : A → A) (xs : List A) (n : ℕ) (x : A) → IsDistinct (λ (a b : ℕ). a == b) (map key xs) → with_id key n xs ≡ Some x → P (change x)
    → AllByRecursion P xs → AllByRecursion P (changed key n change xs)
unfolding IsDistinct
all_changed_found key P change [] n x distinct found step all = tt
all_changed_found key P change (y ∷ ys) n x distinct found step all = elim (either (key y == n)) [
  | inl k ↦ let e : Some y ≡ Some x = rw k at found in let same : y ≡ x = cc in
      rw (k, unchanged key change (key y) n k ys distinct.0, same) (step, all.1)
  | inr k ↦ rw k (all.0, all_changed_found key P change ys n x distinct.1 (rw k at found) step all.1)
]

-- ---- a step

sound_step_of : (w : Widths) (ts : List ThreadPart) (id place : ℕ) (o : Option ThreadPart) (step : StepPart) → AllByRecursion (ThreadIsSound w) ts → with_id (λ (t : ThreadPart). t.id) id ts ≡ o
    → option_and_then (λ (t : ThreadPart). slice_get t.steps place) o ≡ Some step → StepIsSound w step
sound_step_of w ts id place None step all found h = absurd cc
sound_step_of w ts id place (Some t) step all found h =
    let sound : ThreadIsSound w t = all_found (λ (t : ThreadPart). t.id) (ThreadIsSound w) ts id t all found in
    all_get (StepIsSound w) t.steps place step sound.steps h

pub sound_step : (script : ScriptPart) (e : ThreadNow) (step : StepPart) → ScriptIsSound script → next_step script e ≡ Some step → StepIsSound script.sizes step
sound_step script e step sound h = sound_step_of script.sizes script.threads e.id e.place (thread_in script e.id) step sound.each_thread refl h

called_sound : (w : Widths) (c : CallPart) → CallIsSound w c → FrameIsSound w (called c)
called_sound w c h =
    record { id = h.frame; this = h.this; slots = all_map (λ (x : SlotValue). ValueFits w x.value) (SlotNowIsSound w) slot_now (λ x fits. fits) c.slots h.slots }

pub moved_length : (n : ℕ) (fs : List FrameNow) → length (moved n fs) ≡ length fs
moved_length n [] = refl
moved_length n (f ∷ fs) = refl

moved_sound : (w : Widths) (n : ℕ) (fs : List FrameNow) → AllByRecursion (FrameIsSound w) fs → AllByRecursion (FrameIsSound w) (moved n fs)
moved_sound w n [] all = tt
moved_sound w n (f ∷ fs) all = (record { id = all.0.id; this = all.0.this; slots = all.0.slots }, all.1)

dropped_sound : (w : Widths) (fs : List FrameNow) → AllByRecursion (FrameIsSound w) fs → AllByRecursion (FrameIsSound w) (drop 1 fs)
dropped_sound w [] all = tt
dropped_sound w (f ∷ fs) all = all.1

pub dropped_length : (fs : List FrameNow) (n : ℕ) → length fs ≤ n → length (drop 1 fs) ≤ n
dropped_length [] n h = h
dropped_length (f ∷ fs) n h = omega arith

-- steps but a call leave each thread sound
after_sound : (w : Widths) (place : ℕ) (step : StepPart) (e : ThreadNow) → length (frames_after step e.frames) ≤ FRAME_LIMIT → AllByRecursion (FrameIsSound w) (frames_after step e.frames) → ThreadNowIsSound w e → ThreadNowIsSound w (after_step place step e)
after_sound w place step e short all h = record { id = h.id; frames = short; each_frame = all }

pub alive_sound : (w : Widths) (e : ThreadNow) → ThreadNowIsSound w e → ThreadNowIsSound w (alive e)
alive_sound w e h = record { id = h.id; frames = h.frames; each_frame = h.each_frame }

-- a call is made with fewer frames than may be
call_room : (s : State) (t : ℕ) (fs : List FrameNow) (c : CallPart) → runs_out (happening_by t (Call c) (occurrence s fs (Call c))) ≡ false → length fs < FRAME_LIMIT
call_room s t fs c h = elim (either (nat_lt (length fs) FRAME_LIMIT)) [
  | inl k ↦ ltb-true (length fs) FRAME_LIMIT k
  | inr k ↦ absurd (let e = rw k at h in cc)
]

-- a step that can be made leaves no more frames than may be
made_room : (s : State) (t : ℕ) (fs : List FrameNow) (step : StepPart) → length fs ≤ FRAME_LIMIT → runs_out (happening_by t step (occurrence s fs step)) ≡ false → length (frames_after step fs) ≤ FRAME_LIMIT
made_room s t fs (Call c) few h = let room = call_room s t fs c h in omega arith
made_room s t fs (Go n) few h = rw (moved_length n fs) few
made_room s t fs (Return v) few h = dropped_length fs FRAME_LIMIT few
made_room s t fs (Throwing x) few h = few
made_room s t fs (Prepare n) few h = few
made_room s t fs (Start n) few h = few
made_room s t fs (Again k) few h = few

threads_sound : (s : State) (t place : ℕ) (e : ThreadNow) (step : StepPart) → IsSound s → thread_at s t ≡ Some e → StepIsSound s.script.sizes step → length (frames_after step e.frames) ≤ FRAME_LIMIT
    → AllByRecursion (ThreadNowIsSound s.script.sizes) (with_change t (after_step place step) (with_started step s.threads))
threads_sound s t place e (Call c) sound found good h =
    let w = s.script.sizes in
    let own : ThreadNowIsSound w e = all_found (λ (e : ThreadNow). e.id) (ThreadNowIsSound w) s.threads t e sound.each_thread found in
    all_changed_found (λ (e : ThreadNow). e.id) (ThreadNowIsSound w) (after_step place (Call c)) s.threads t e sound.distinct found
    (after_sound w place (Call c) e h (called_sound w c good, own.each_frame) own) sound.each_thread
threads_sound s t place e (Go n) sound found good h =
    let w = s.script.sizes in
    all_changed (λ (e : ThreadNow). e.id) (ThreadNowIsSound w) (after_step place (Go n)) (λ x p. after_sound w place (Go n) x (rw (moved_length n x.frames) p.frames) (moved_sound w n x.frames p.each_frame) p) s.threads t sound.each_thread
threads_sound s t place e (Return v) sound found good h =
    let w = s.script.sizes in
    all_changed (λ (e : ThreadNow). e.id) (ThreadNowIsSound w) (after_step place (Return v)) (λ x p. after_sound w place (Return v) x (dropped_length x.frames FRAME_LIMIT p.frames) (dropped_sound w x.frames p.each_frame) p) s.threads t sound.each_thread
threads_sound s t place e (Throwing x) sound found good h =
    let w = s.script.sizes in
    all_changed (λ (e : ThreadNow). e.id) (ThreadNowIsSound w) (after_step place (Throwing x)) (λ y p. after_sound w place (Throwing x) y p.frames p.each_frame p) s.threads t sound.each_thread
threads_sound s t place e (Prepare n) sound found good h =
    let w = s.script.sizes in
    all_changed (λ (e : ThreadNow). e.id) (ThreadNowIsSound w) (after_step place (Prepare n)) (λ y p. after_sound w place (Prepare n) y p.frames p.each_frame p) s.threads t sound.each_thread
threads_sound s t place e (Again k) sound found good h =
    let w = s.script.sizes in
    all_changed (λ (e : ThreadNow). e.id) (ThreadNowIsSound w) (after_step place (Again k)) (λ y p. after_sound w place (Again k) y p.frames p.each_frame p) s.threads t sound.each_thread
threads_sound s t place e (Start n) sound found good h =
    let w = s.script.sizes in
    all_changed (λ (e : ThreadNow). e.id) (ThreadNowIsSound w) (after_step place (Start n)) (λ y p. after_sound w place (Start n) y p.frames p.each_frame p) (with_change n alive s.threads) t
    (all_changed (λ (e : ThreadNow). e.id) (ThreadNowIsSound w) alive (alive_sound w) s.threads n sound.each_thread)

pub started_ids : (step : StepPart) (es : List ThreadNow) → thread_ids (with_started step es) ≡ thread_ids es
started_ids (Start n) es = ids_kept alive (λ e. refl) es n
started_ids (Call c) es = refl
started_ids (Go n) es = refl
started_ids (Return v) es = refl
started_ids (Throwing x) es = refl
started_ids (Prepare n) es = refl
started_ids (Again k) es = refl

pub started_length : (step : StepPart) (es : List ThreadNow) → length (with_started step es) ≡ length es
started_length (Start n) es = length-map es _
started_length (Call c) es = refl
started_length (Go n) es = refl
started_length (Return v) es = refl
started_length (Throwing x) es = refl
started_length (Prepare n) es = refl
started_length (Again k) es = refl

pub stepped_step_sound : (s : State) (t place : ℕ) (e : ThreadNow) (step : StepPart) → IsSound s → thread_at s t ≡ Some e → next_step s.script e ≡ Some step → length (frames_after step e.frames) ≤ FRAME_LIMIT → IsSound (stepped_by s t place (Some step))
stepped_step_sound s t place e step sound found is room =
    record {
      script = sound.script;
      threads = rw (length-map (with_started step s.threads) _, started_length step s.threads) sound.threads;
      each_thread = threads_sound s t place e step sound found (sound_step s.script e step sound.script is) room;
      distinct = rw (ids_kept (after_step place step) (λ e. refl) (with_started step s.threads) t, started_ids step s.threads) sound.distinct;
      within = sound.within;
      few_made = sound.few_made;
      each_made = sound.each_made;
      counted = sound.counted;
    }

stepped_by_sound : (s : State) (t place : ℕ) (e : ThreadNow) (p : Option StepPart) → IsSound s → thread_at s t ≡ Some e → next_step s.script e ≡ p → runs_out (happening_at s t e.frames p) ≡ false → IsSound (stepped_by s t place p)
stepped_by_sound s t place e None sound found step h = sound
stepped_by_sound s t place e (Some step) sound found is h =
    let own : ThreadNowIsSound s.script.sizes e = all_found (λ (e : ThreadNow). e.id) (ThreadNowIsSound s.script.sizes) s.threads t e sound.each_thread found in
    stepped_step_sound s t place e step sound found is (made_room s t e.frames step own.frames h)

stepped_of_sound : (s : State) (t : ℕ) (o : Option ThreadNow) → IsSound s → thread_at s t ≡ o → runs_out (happening_of s t o) ≡ false → IsSound (stepped_of s t o)
stepped_of_sound s t None sound found h = sound
stepped_of_sound s t (Some e) sound found h = stepped_by_sound s t (place_after s.script e) e (next_step s.script e) sound found refl h

pub stepped_sound : (s : State) (t : ℕ) → IsSound s → runs_out (next s t) ≡ false → IsSound (stepped s t)
stepped_sound s t sound h = stepped_of_sound s t (thread_at s t) sound refl h

-- ---- an end

gone_sound : (w : Widths) (e : ThreadNow) → ThreadNowIsSound w e → ThreadNowIsSound w (gone e)
gone_sound w e h = record { id = h.id; frames = omega arith; each_frame = tt }

pub ended_sound : (s : State) (t : ℕ) → IsSound s → IsSound (ended s t)
ended_sound s t sound =
    record {
      script = sound.script;
      threads = rw (length-map s.threads _) sound.threads;
      each_thread = all_changed (λ (e : ThreadNow). e.id) (ThreadNowIsSound s.script.sizes) gone (gone_sound s.script.sizes) s.threads t sound.each_thread;
      distinct = rw (ids_kept gone (λ e. refl) s.threads t) sound.distinct;
      within = sound.within;
      few_made = sound.few_made;
      each_made = sound.each_made;
      counted = sound.counted;
    }

-- ---- written slots

pub zero_fits : (width : ℕ) → Fits width 0
zero_fits width = let pos : 0 < 256 ^ width = omega (arith, one-le-pow width 256 (omega arith)) in rw (lt-ltb 0 (256 ^ width) pos) refl

-- ---- objects, of the script or made

or_found : {A : Type 0} (P : A → Type 0) (first second : Option A) (x : A) → ((y : A) → first ≡ Some y → P y) → ((y : A) → second ≡ Some y → P y) → option_or first second ≡ Some x → P x
or_found P (Some y) second x here there h = let same : y ≡ x = cc in rw (← same) (here y refl)
or_found P None second x here there h = there x h

text_fits : (o : Option (List ℕ)) → IfThere IsShort o → IfThere (λ t. text_refusal t ≡ None) o
text_fits None h = tt
text_fits (Some t) h = short_text t h

object_fits : (w : Widths) (o : ObjectPart) → ObjectIsSound w o → ObjectFits w o
object_fits w o h = record { id = h.id; fields = h.fields; text = text_fits o.text h.text; array = h.array }

pub found_fits : (s : State) → IsSound s → (id : ℕ) (o : ObjectPart) → object_at s id ≡ Some o → ObjectFits s.script.sizes o
found_fits s sound id o h =
    let w = s.script.sizes in
    or_found (ObjectFits w) (object_in s.script id) (with_id (λ (o : ObjectPart). o.id) id s.made) o
    (λ x e. object_fits w x (all_found (λ (o : ObjectPart). o.id) (ObjectIsSound w) s.script.objects id x sound.script.each_object e))
    (λ x e. all_found (λ (o : ObjectPart). o.id) (ObjectFits w) s.made id x sound.each_made e) h

found_named : (s : State) (id : ℕ) (o : ObjectPart) → object_at s id ≡ Some o → o.id ≡ id
found_named s id o h =
    or_found (λ (o : ObjectPart). o.id ≡ id) (object_in s.script id) (with_id (λ (o : ObjectPart). o.id) id s.made) o
    (λ x e. found_id (λ (o : ObjectPart). o.id) s.script.objects id x e) (λ x e. found_id (λ (o : ObjectPart). o.id) s.made id x e) h

-- ---- values

known_found : (s : State) (id : ℕ) (o : Option ObjectPart) (t : Option ThreadPart) (g : Option GroupPart) → IsSound s → object_at s id ≡ o → thread_in s.script id ≡ t → group_in s.script id ≡ g
    → (is_some o || (is_some t || is_some g)) ≡ true → Fits s.script.sizes.object id
known_found s id (Some o) t g sound eo et eg h =
    let good : ObjectFits s.script.sizes o = found_fits s sound id o eo in
    rw (← found_named s id o eo) good.id
known_found s id None (Some t) g sound eo et eg h =
    let good : ThreadIsSound s.script.sizes t = all_found (λ (t : ThreadPart). t.id) (ThreadIsSound s.script.sizes) s.script.threads id t sound.script.each_thread et in
    rw (← found_id (λ (t : ThreadPart). t.id) s.script.threads id t et) good.id
known_found s id None None (Some g) sound eo et eg h =
    let good : GroupIsSound s.script.sizes g = all_found (λ (g : GroupPart). g.id) (GroupIsSound s.script.sizes) s.script.groups id g sound.script.each_group eg in
    rw (← found_id (λ (g : GroupPart). g.id) s.script.groups id g eg) good.id
known_found s id None None None sound eo et eg h = absurd (false≢true h)

pub known_fits : (s : State) (id : ℕ) → IsSound s → is_known s id ≡ true → Fits s.script.sizes.object id
known_fits s id sound h = known_found s id (object_at s id) (thread_in s.script id) (group_in s.script id) sound refl refl refl h

null_or_known : (s : State) (id : ℕ) → IsSound s → ((id == 0) || is_known s id) ≡ true → Fits s.script.sizes.object id
null_or_known s id sound h = elim (either (id == 0)) [
  | inl k ↦ rw (eqb-true id 0 k) (zero_fits s.script.sizes.object)
  | inr k ↦ known_fits s id sound (rw k at h)
]

held_fits : (s : State) (v : Value) → IsSound s → may_hold s v ≡ true → value_refusal s.script.sizes v ≡ None
held_fits s (value.Object x) sound h = null_or_known s x.id.0 sound h
held_fits s (value.Byte n) sound h = refl
held_fits s (value.Char n) sound h = refl
held_fits s (value.Double n) sound h = refl
held_fits s (value.Float n) sound h = refl
held_fits s (value.Int n) sound h = refl
held_fits s (value.Long n) sound h = refl
held_fits s (value.Short n) sound h = refl
held_fits s value.Void sound h = refl
held_fits s (value.Boolean b) sound h = refl

and_left : (a b : Bool) → (a && b) ≡ true → a ≡ true
and_left true b h = refl
and_left false b h = h

and_right : (a b : Bool) → (a && b) ≡ true → b ≡ true
and_right true b h = h
and_right false b h = absurd (false≢true h)

all_held : (s : State) (values : List (ℤ × Value)) → IsSound s → list_all (λ (v : ℤ × Value). may_hold s v.1) values ≡ true
    → AllByRecursion (λ (v : ℤ × Value). value_refusal s.script.sizes v.1 ≡ None) values
all_held s [] sound h = tt
all_held s (v ∷ values) sound h =
    (held_fits s v.1 sound (and_left (may_hold s v.1) _ h), all_held s values sound (and_right (may_hold s v.1) _ h))

slot_written_sound : (w : Widths) (v : ℤ × Value) (x : SlotNow) → value_refusal w v.1 ≡ None → SlotNowIsSound w x → SlotNowIsSound w (slot_written v x)
slot_written_sound w v x fits h = elim (int_eq x.slot v.0) as (λ (b : Bool). SlotNowIsSound w (if b then record x { value = v.1 } else x)) [ true ↦ fits | false ↦ h ]

slots_written_sound : (w : Widths) (values : List (ℤ × Value)) (slots : List SlotNow) → AllByRecursion (λ (v : ℤ × Value). value_refusal w v.1 ≡ None) values → AllByRecursion (SlotNowIsSound w) slots
    → AllByRecursion (SlotNowIsSound w) (slots_written values slots)
slots_written_sound w [] slots fits all = all
slots_written_sound w (v ∷ values) slots fits all =
    slots_written_sound w values (map (slot_written v) slots) fits.1 (all_map (SlotNowIsSound w) (SlotNowIsSound w) (slot_written v) (λ x h. slot_written_sound w v x fits.0 h) slots all)

frame_written_sound : (w : Widths) (values : List (ℤ × Value)) → AllByRecursion (λ (v : ℤ × Value). value_refusal w v.1 ≡ None) values → (f : FrameNow) → FrameIsSound w f → FrameIsSound w (frame_written values f)
frame_written_sound w values fits f h = record { id = h.id; this = h.this; slots = slots_written_sound w values f.slots fits h.slots }

thread_written_sound : (w : Widths) (n : ℕ) (values : List (ℤ × Value)) → AllByRecursion (λ (v : ℤ × Value). value_refusal w v.1 ≡ None) values → (e : ThreadNow) → ThreadNowIsSound w e → ThreadNowIsSound w (thread_written n values e)
thread_written_sound w n values fits e h =
    record {
      id = h.id;
      frames = rw (length-map e.frames _) h.frames;
      each_frame = all_changed (λ (f : FrameNow). f.id) (FrameIsSound w) (frame_written values) (frame_written_sound w values fits) e.frames n h.each_frame;
    }

last_test : {A : Type 0} (a b c : Bool) (x y z : A) → (if not a then Some x else (if not b then Some y else (if not c then Some z else None))) ≡ None → c ≡ true
last_test true true true x y z h = refl
last_test true true false x y z h = absurd cc
last_test true false c x y z h = absurd cc
last_test false b c x y z h = absurd cc

refusal_last : (s : State) (slots : List SlotNow) (values : List (ℤ × Value)) → slots_refusal s slots values ≡ None → list_all (λ (v : ℤ × Value). may_hold s v.1) values ≡ true
refusal_last s slots values h =
    last_test (list_all (λ (v : ℤ × Value). has_slot slots v.0) values) (list_all (λ (v : ℤ × Value). found_suits (slot_value v.0 slots) (tag_of v.1)) values) (list_all (λ (v : ℤ × Value). may_hold s v.1) values)
    INVALID_SLOT TYPE_MISMATCH INVALID_OBJECT h

written_when : (s : State) (t f : ℕ) (values : List (ℤ × Value)) → IsSound s → AllByRecursion (λ (v : ℤ × Value). value_refusal s.script.sizes v.1 ≡ None) values → IsSound (written_by s t f values None)
written_when s t f values sound fits =
    record {
      script = sound.script;
      threads = rw (length-map s.threads _) sound.threads;
      each_thread = all_changed (λ (e : ThreadNow). e.id) (ThreadNowIsSound s.script.sizes) (thread_written f values) (thread_written_sound s.script.sizes f values fits) s.threads t sound.each_thread;
      distinct = rw (ids_kept (thread_written f values) (λ e. refl) s.threads t) sound.distinct;
      within = sound.within;
      few_made = sound.few_made;
      each_made = sound.each_made;
      counted = sound.counted;
    }

frame_refused : (s : State) (values : List (ℤ × Value)) (o : Option FrameNow) → frame_refusal s values o ≡ None → list_all (λ (v : ℤ × Value). may_hold s v.1) values ≡ true
frame_refused s values None h = absurd cc
frame_refused s values (Some x) h = refusal_last s x.slots values h

thread_refused : (s : State) (f : ℕ) (values : List (ℤ × Value)) (o : Option ThreadNow) → thread_refusal s f values o ≡ None → list_all (λ (v : ℤ × Value). may_hold s v.1) values ≡ true
thread_refused s f values None h = absurd cc
thread_refused s f values (Some e) h = frame_refused s values (frame_in f e.frames) h

written_by_sound : (s : State) (t f : ℕ) (values : List (ℤ × Value)) (r : Option ErrorCode) → IsSound s → write_refusal s t f values ≡ r → IsSound (written_by s t f values r)
written_by_sound s t f values None sound h = written_when s t f values sound (all_held s values sound (thread_refused s f values (thread_at s t) h))
written_by_sound s t f values (Some e) sound h = sound

pub written_sound : (s : State) (t f : ℕ) (values : List (ℤ × Value)) → IsSound s → IsSound (written s t f values)
written_sound s t f values sound = written_by_sound s t f values (write_refusal s t f values) sound refl
