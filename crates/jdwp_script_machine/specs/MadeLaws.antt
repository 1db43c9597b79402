-- Proofs that a state stays sound where a string is made, that threads stay, and that the answer is one of the row.
use Rattle.std.proofs.Common.{◌≡◌, ℕ, suc, ◌+◌, ◌^◌, ◌<◌, ◌&&◌, Bool, true, false, nat_lt, if◌then◌else◌, List, [], ◌∷◌, ◌++◌, length, refl, ap, arith, Option, Some, None, Result, Ok, Err}
use Rattle.std.proofs.lemmas.Bool.{ltb-true}
use Rattle.std.specs.List.{AllByRecursion}
use Rattle.jdwp_wire.specs.declared.error_code.ErrorCode.{ErrorCode}
use Rattle.jdwp_wire.specs.ErrorCodes.{NOT_IMPLEMENTED, OUT_OF_MEMORY}
use Rattle.jdwp_wire.specs.Numbers.{fits_int}
use Rattle.jdwp_wire.specs.Text.{text_refusal}
use Rattle.jdwp_wire.specs.Widths.{Widths}
use Rattle.jdwp_layout.specs.CommandNumbers.{CREATE_STRING}
use Rattle.jdwp_layout.specs.declared.answer.Answer.TheVariants.{Data, Error}
use Rattle.jdwp_layout.specs.Meanings.{Object, One}
use Rattle.jdwp_script.specs.Parts.{ClassPart, ObjectPart, StepPart, Call, Go, Return, Throwing, Prepare, Start, Again}
use Rattle.jdwp_script_machine.specs.States.{FrameNow, ThreadNow, State, thread_at}
use Rattle.jdwp_script_machine.specs.Steps.{next, next_step, happening_by, happening_at, happening_of, occurrence}
use Rattle.jdwp_script_machine.specs.JdiAnswers.{is_id}
use Rattle.jdwp_script_machine.specs.Made.{MADE_LIMIT, first_made, next_made, has_room, string_object, string_in, string_class, string_made, answer_of_made, made_answer, with_made, made}
use Rattle.jdwp_script_machine.specs.Sound.{Fits, ObjectFits, AreCounted, IsSound}
use Rattle.jdwp_script_machine.specs.GoodAnswers.{Good, error_good, above}
use Rattle.jdwp_script_machine.specs.FrameLaws.{and_both}

-- ---- there is room for one more

record HasRoom (s : State) (text : List ℕ) : Type 0 where
  pub few : length s.made < MADE_LIMIT
  pub short : text_refusal text ≡ None
  pub id : Fits s.script.sizes.object (next_made s)

id_fits : (width n : ℕ) → is_id width n ≡ true → Fits width n
id_fits width n h = rw (and_both (nat_lt n (2 ^ 64)) (nat_lt n (256 ^ width)) h).1 refl

room_there : (s : State) (text : List ℕ) → has_room s text ≡ true → HasRoom s text
room_there s text h =
    let first = and_both (nat_lt (length s.made) MADE_LIMIT) (fits_int (length text) && is_id s.script.sizes.object (next_made s)) h in
    let rest = and_both (fits_int (length text)) (is_id s.script.sizes.object (next_made s)) first.1 in
    record { few = ltb-true (length s.made) MADE_LIMIT first.0; short = rw rest.0 refl; id = id_fits s.script.sizes.object (next_made s) rest.1 }

-- ---- a state stays sound

string_fits : (w : Widths) (text : List ℕ) (class id : ℕ) → text_refusal text ≡ None → Fits w.object id → ObjectFits w (string_object text class id)
string_fits w text class id short fits = record { id = fits; fields = tt; text = short; array = tt }

one_longer : {A : Type 0} (xs : List A) (x : A) → length (xs ++ x ∷ []) ≡ suc (length xs)
one_longer [] x = refl
one_longer (y ∷ ys) x = ap suc (one_longer ys x)

all_and_one : {A : Type 0} (P : A → Type 0) (xs : List A) (x : A) → AllByRecursion P xs → P x → AllByRecursion P (xs ++ x ∷ [])
all_and_one P [] x all p = (p, tt)
all_and_one P (y ∷ ys) x all p = (all.0, all_and_one P ys x all.1 p)

counted_and_one : (n : ℕ) (os : List ObjectPart) (o : ObjectPart) → AreCounted n os → o.id ≡ n + length os → AreCounted n (os ++ o ∷ [])
counted_and_one n [] o all h = (omega arith, tt)
counted_and_one n (x ∷ xs) o all h = (all.0, counted_and_one (suc n) xs o all.1 (omega arith))

sound_with : (s : State) → IsSound s → (text : List ℕ) (class : ℕ) → HasRoom s text → IsSound (record s { made = s.made ++ string_object text class (next_made s) ∷ [] })
sound_with s sound text class room =
    let o = string_object text class (next_made s) in
    let longer = one_longer s.made o in
    let few = room.few in
    record {
      script = sound.script;
      threads = sound.threads;
      each_thread = sound.each_thread;
      distinct = sound.distinct;
      within = sound.within;
      few_made = omega arith;
      each_made = all_and_one (ObjectFits s.script.sizes) s.made o sound.each_made (string_fits s.script.sizes text class (next_made s) room.short room.id);
      counted = counted_and_one (first_made s.script) s.made o sound.counted refl;
    }

sound_by : (s : State) → IsSound s → (text : List ℕ) (c : Option ClassPart) (b : Bool) → has_room s text ≡ b → IsSound (with_made s (string_in text c (if b then Some (next_made s) else None)))
sound_by s sound text None b h = sound
sound_by s sound text (Some c) true h = sound_with s sound text c.id (room_there s text h)
sound_by s sound text (Some c) false h = sound

pub made_sound : (s : State) (text : List ℕ) → IsSound s → IsSound (made s text)
made_sound s text sound = sound_by s sound text (string_class s.script) (has_room s text) refl

-- ---- the script and the threads stay

kept_script : (s : State) (r : Result ObjectPart ErrorCode) → (with_made s r).script ≡ s.script
kept_script s (Ok o) = refl
kept_script s (Err e) = refl

kept_threads : (s : State) (r : Result ObjectPart ErrorCode) → (with_made s r).threads ≡ s.threads
kept_threads s (Ok o) = refl
kept_threads s (Err e) = refl

pub made_script : (s : State) (text : List ℕ) → (made s text).script ≡ s.script
made_script s text = kept_script s (string_made s text)

pub made_threads : (s : State) (text : List ℕ) → (made s text).threads ≡ s.threads
made_threads s text = kept_threads s (string_made s text)

-- and so what threads do next
occurrence_kept : (s : State) (os : List ObjectPart) (fs : List FrameNow) (step : StepPart) → occurrence (record s { made = os }) fs step ≡ occurrence s fs step
occurrence_kept s os fs (Call c) = refl
occurrence_kept s os fs (Go n) = refl
occurrence_kept s os fs (Return v) = refl
occurrence_kept s os fs (Throwing x) = refl
occurrence_kept s os fs (Prepare n) = refl
occurrence_kept s os fs (Start n) = refl
occurrence_kept s os fs (Again k) = refl

happening_kept : (s : State) (os : List ObjectPart) (t : ℕ) (fs : List FrameNow) (o : Option StepPart) → happening_at (record s { made = os }) t fs o ≡ happening_at s t fs o
happening_kept s os t fs None = refl
happening_kept s os t fs (Some step) = ap (happening_by t step) (occurrence_kept s os fs step)

next_kept : (s : State) (os : List ObjectPart) (t : ℕ) (o : Option ThreadNow) → happening_of (record s { made = os }) t o ≡ happening_of s t o
next_kept s os t None = refl
next_kept s os t (Some e) = happening_kept s os t e.frames (next_step s.script e)

next_by : (s : State) (t : ℕ) (r : Result ObjectPart ErrorCode) → next (with_made s r) t ≡ next s t
next_by s t (Ok o) = next_kept s (s.made ++ o ∷ []) t (thread_at s t)
next_by s t (Err e) = refl

pub next_stays : (s : State) (text : List ℕ) (t : ℕ) → next (made s text) t ≡ next s t
next_stays s text t = next_by s t (string_made s text)

-- ---- the answer

refused_by : (s : State) (e : ErrorCode) (r : Result ObjectPart ErrorCode) → answer_of_made r ≡ Error e → with_made s r ≡ s
refused_by s e (Ok o) h = absurd cc
refused_by s e (Err f) h = refl

pub refused_make : (s : State) (text : List ℕ) (e : ErrorCode) → made_answer s text ≡ Error e → made s text ≡ s
refused_make s text e h = refused_by s e (string_made s text) h

id_good : (s : State) (n : ℕ) → Fits s.script.sizes.object n → Good s CREATE_STRING (Data (One (Object n) ∷ []))
unfolding Good
id_good s n h = rw h refl

good_by : (s : State) (text : List ℕ) (c : Option ClassPart) (b : Bool) → has_room s text ≡ b → Good s CREATE_STRING (answer_of_made (string_in text c (if b then Some (next_made s) else None)))
good_by s text None b h = error_good s CREATE_STRING NOT_IMPLEMENTED (above NOT_IMPLEMENTED (omega arith) (omega arith))
good_by s text (Some c) true h = id_good s (next_made s) (room_there s text h).id
good_by s text (Some c) false h = error_good s CREATE_STRING OUT_OF_MEMORY (above OUT_OF_MEMORY (omega arith) (omega arith))

pub made_good : (s : State) (text : List ℕ) → Good s CREATE_STRING (made_answer s text)
made_good s text = good_by s text (string_class s.script) (has_room s text) refl
