-- Proofs that what is answered of a thread's frames stays where other threads step, end or are written, and but for the
-- values of slots where its own slots are written.
use Rattle.std.proofs.Common.{◌≡◌, ◌≢◌, ℕ, zero, suc, ℤ, pos, negsuc, ◌==◌, ◌||◌, ◌&&◌, Bool, true, false, if◌then◌else◌, List, [], ◌∷◌, map, take, drop, length, refl, sym, ◌∙◌, ap, Option, Some, None, option_map, ◌⊎◌, inl, inr}
use Rattle.std.proofs.lemmas.Bool.{eqb-true, false≢true}
use Rattle.jdwp_wire.specs.declared.error_code.ErrorCode.{ErrorCode}
use Rattle.jdwp_value.specs.declared.value.Value.{Value}
use Rattle.jdwp_layout.specs.CommandNumbers.{CommandNumber, is_command, FRAMES, FRAME_COUNT, GET_SLOTS, THIS_OBJECT}
use Rattle.jdwp_layout.specs.Meanings.{Int, Object, Frame, DatumMeaning, One}
use Rattle.jdwp_machine.specs.declared.query.Query.{Query}
use Rattle.jdwp_machine.specs.Laws.{begins_with, asks_places, asks_slots, asks_frames}
use Rattle.jdwp_script.specs.Parts.{StepPart, Call, Go, Return, Throwing, Prepare, Start, Again, ScriptPart}
use Rattle.jdwp_script_machine.specs.LookUps.{with_id, changed}
use Rattle.jdwp_script_machine.specs.States.{FrameNow, ThreadNow, State, thread_at}
use Rattle.jdwp_script_machine.specs.Steps.{next_step, place_after, after_step, alive, with_started, stepped_by, stepped_of, stepped, gone, ended}
use Rattle.jdwp_script_machine.specs.SlotWrites.{frame_in, frame_written, thread_written, write_refusal, written_by, written}
use Rattle.jdwp_script_machine.specs.Requests.{Asks, found_or, of_frames, of_frame_in, part_from, part_of}
use Rattle.jdwp_script_machine.specs.ThreadAnswers.{frames_at, frame_entry, frames_listed, frames_answer, frame_count_answer, slots_answer, this_answer}
use Rattle.jdwp_machine.specs.declared.profile.Profile.{Profile}
use Rattle.jdwp_machine.specs.declared.profile.Profile.TheVariants.{Standard, Jdi}
use Rattle.jdwp_script_machine.specs.Answers.{answer_at}
use Rattle.jdwp_script_machine.specs.InvocationAnswers.{invoking_answer_at}
use Rattle.jdwp_script_machine.specs.ProfileAnswers.{answer_in, answer}
use Rattle.jdwp_script_machine.specs.StateLaws.{either, with_change, found_other, found_same}

-- ---- the frames of another thread stay

started_frames : (step : StepPart) (es : List ThreadNow) (u : ℕ) → option_map (λ (e : ThreadNow). e.frames) (with_id (λ (e : ThreadNow). e.id) u (with_started step es)) ≡ option_map (λ (e : ThreadNow). e.frames) (with_id (λ (e : ThreadNow). e.id) u es)
started_frames (Start n) es u = found_same (λ (e : ThreadNow). e.frames) alive (λ e. refl) (λ e. refl) es n u
started_frames (Call c) es u = refl
started_frames (Go n) es u = refl
started_frames (Return v) es u = refl
started_frames (Throwing x) es u = refl
started_frames (Prepare n) es u = refl
started_frames (Again k) es u = refl

stepped_by_frames : (s : State) (t u place : ℕ) (p : Option StepPart) → t ≢ u → frames_at (stepped_by s t place p) u ≡ frames_at s u
stepped_by_frames s t u place None ne = refl
stepped_by_frames s t u place (Some step) ne =
    ap (option_map (λ (e : ThreadNow). e.frames)) (found_other (λ (e : ThreadNow). e.id) (after_step place step) (λ e. refl) (with_started step s.threads) t u ne) ∙ started_frames step s.threads u

stepped_of_frames : (s : State) (t u : ℕ) (o : Option ThreadNow) → t ≢ u → frames_at (stepped_of s t o) u ≡ frames_at s u
stepped_of_frames s t u None ne = refl
stepped_of_frames s t u (Some e) ne = stepped_by_frames s t u (place_after s.script e) (next_step s.script e) ne

pub stepped_frames : (s : State) (t u : ℕ) → t ≢ u → frames_at (stepped s t) u ≡ frames_at s u
stepped_frames s t u ne = stepped_of_frames s t u (thread_at s t) ne

pub ended_frames : (s : State) (t u : ℕ) → t ≢ u → frames_at (ended s t) u ≡ frames_at s u
ended_frames s t u ne = ap (option_map (λ (e : ThreadNow). e.frames)) (found_other (λ (e : ThreadNow). e.id) gone (λ e. refl) s.threads t u ne)

written_by_frames : (s : State) (t f u : ℕ) (values : List (ℤ × Value)) (r : Option ErrorCode) → t ≢ u → frames_at (written_by s t f values r) u ≡ frames_at s u
written_by_frames s t f u values None ne = ap (option_map (λ (e : ThreadNow). e.frames)) (found_other (λ (e : ThreadNow). e.id) (thread_written f values) (λ e. refl) s.threads t u ne)
written_by_frames s t f u values (Some e) ne = refl

pub written_frames : (s : State) (t f u : ℕ) (values : List (ℤ × Value)) → t ≢ u → frames_at (written s t f values) u ≡ frames_at s u
written_frames s t f u values ne = written_by_frames s t f u values (write_refusal s t f values) ne

written_by_script : (s : State) (t f : ℕ) (values : List (ℤ × Value)) (r : Option ErrorCode) → (written_by s t f values r).script ≡ s.script
written_by_script s t f values None = refl
written_by_script s t f values (Some e) = refl

pub written_script : (s : State) (t f : ℕ) (values : List (ℤ × Value)) → (written s t f values).script ≡ s.script
written_script s t f values = written_by_script s t f values (write_refusal s t f values)

-- ---- which commands ask about frames

pub and_both : (a b : Bool) → (a && b) ≡ true → (a ≡ true) × (b ≡ true)
and_both true true h = (refl, refl)
and_both true false h = absurd (false≢true h)
and_both false b h = absurd (false≢true h)

pub command_is : (set number : ℕ) (command : CommandNumber) → is_command command set number ≡ true → (set ≡ command.set) × (number ≡ command.number)
command_is set number command h =
    let both = and_both (set == command.set) (number == command.number) h in
    (eqb-true set command.set both.0, eqb-true number command.number both.1)

which_place : (b x y z : Bool) → (b && (x || (y || z))) ≡ true → (b ≡ true) × ((x ≡ true) ⊎ ((y ≡ true) ⊎ (z ≡ true)))
which_place true true y z h = (refl, inl refl)
which_place true false true z h = (refl, inr (inl refl))
which_place true false false z h = (refl, inr (inr h))
which_place false x y z h = absurd (false≢true h)

or_either : (a b : Bool) → (a || b) ≡ true → (a ≡ true) ⊎ (b ≡ true)
or_either true b h = inl refl
or_either false b h = inr h

-- ---- questions about frames are answered alike in each profile

places_in_jdi : (s : State) (u set number : ℕ) (content : List DatumMeaning)
    → (begins_with content u && (is_command FRAMES set number || (is_command FRAME_COUNT set number || is_command THIS_OBJECT set number))) ≡ true → invoking_answer_at s set number content ≡ answer_at s set number content
places_in_jdi s u set number content h =
    let asked = which_place (begins_with content u) (is_command FRAMES set number) (is_command FRAME_COUNT set number) (is_command THIS_OBJECT set number) h in
    elim asked.1 [
      | inl k ↦ let is = command_is set number FRAMES k in rw (is.0, is.1) refl
      | inr (inl k) ↦ let is = command_is set number FRAME_COUNT k in rw (is.0, is.1) refl
      | inr (inr k) ↦ let is = command_is set number THIS_OBJECT k in rw (is.0, is.1) refl
    ]

places_in : (p : Profile) (s : State) (u set number : ℕ) (content : List DatumMeaning)
    → (begins_with content u && (is_command FRAMES set number || (is_command FRAME_COUNT set number || is_command THIS_OBJECT set number))) ≡ true → answer_in p s set number content ≡ answer_at s set number content
places_in Standard s u set number content h = refl
places_in Jdi s u set number content h = places_in_jdi s u set number content h

slots_in_jdi : (s : State) (u set number : ℕ) (content : List DatumMeaning) → (begins_with content u && is_command GET_SLOTS set number) ≡ true → invoking_answer_at s set number content ≡ answer_at s set number content
slots_in_jdi s u set number content h =
    let asked = and_both (begins_with content u) (is_command GET_SLOTS set number) h in
    let is = command_is set number GET_SLOTS asked.1 in
    rw (is.0, is.1) refl

pub slots_in : (p : Profile) (s : State) (u set number : ℕ) (content : List DatumMeaning) → (begins_with content u && is_command GET_SLOTS set number) ≡ true → answer_in p s set number content ≡ answer_at s set number content
slots_in Standard s u set number content h = refl
slots_in Jdi s u set number content h = slots_in_jdi s u set number content h

-- ---- an answer that reads the frames of the first thread alone

same_frames : (f g : ℕ → Option (List FrameNow)) (answer : List FrameNow → Asks) (u : ℕ) → f u ≡ g u → (content : List DatumMeaning) → begins_with content u ≡ true → of_frames f answer content ≡ of_frames g answer content
same_frames f g answer u same (One (Object n) ∷ rest) h = let is : n ≡ u = eqb-true n u h in rw (is, same) refl
same_frames f g answer u same content h = absurd (false≢true h)

-- answers about frames are the same at two states with one script and the same frames of the thread
places_same : (s r : State) (u : ℕ) → r.script ≡ s.script → frames_at r u ≡ frames_at s u → (set number : ℕ) (content : List DatumMeaning)
    → (begins_with content u && (is_command FRAMES set number || (is_command FRAME_COUNT set number || is_command THIS_OBJECT set number))) ≡ true → answer_at r set number content ≡ answer_at s set number content
places_same s r u script frames set number content h =
    let asked = which_place (begins_with content u) (is_command FRAMES set number) (is_command FRAME_COUNT set number) (is_command THIS_OBJECT set number) h in
    elim asked.1 [
      | inl k ↦ let is = command_is set number FRAMES k in rw (is.0, is.1, script) (same_frames (frames_at r) (frames_at s) (frames_answer s.script) u frames content asked.0)
      | inr (inl k) ↦ let is = command_is set number FRAME_COUNT k in rw (is.0, is.1) (same_frames (frames_at r) (frames_at s) frame_count_answer u frames content asked.0)
      | inr (inr k) ↦ let is = command_is set number THIS_OBJECT k in rw (is.0, is.1, script) (same_frames (frames_at r) (frames_at s) (of_frame_in (this_answer s.script)) u frames content asked.0)
    ]

slots_same : (s r : State) (u : ℕ) → frames_at r u ≡ frames_at s u → (set number : ℕ) (content : List DatumMeaning) → (begins_with content u && is_command GET_SLOTS set number) ≡ true → answer_at r set number content ≡ answer_at s set number content
slots_same s r u frames set number content h =
    let asked = and_both (begins_with content u) (is_command GET_SLOTS set number) h in
    let is = command_is set number GET_SLOTS asked.1 in
    rw (is.0, is.1) (same_frames (frames_at r) (frames_at s) (of_frame_in slots_answer) u frames content asked.0)

pub frames_same : (s r : State) (u : ℕ) (q : Query) → r.script ≡ s.script → frames_at r u ≡ frames_at s u → asks_frames q u ≡ true → answer r q ≡ answer s q
frames_same s r u q script frames h = elim (or_either (asks_places q u) (asks_slots q u) h) [
  | inl k ↦ places_in r.profile r u q.set q.number q.content k ∙ (places_same s r u script frames q.set q.number q.content k ∙ sym (places_in s.profile s u q.set q.number q.content k))
  | inr k ↦ slots_in r.profile r u q.set q.number q.content k ∙ (slots_same s r u frames q.set q.number q.content k ∙ sym (slots_in s.profile s u q.set q.number q.content k))
]

-- ---- written slots of the thread itself

-- a frame without its slots
abbrev bare : FrameNow → FrameNow
bare f = record f { slots = [] }

-- the same frames but for slots
abbrev Alike : List FrameNow → List FrameNow → Type 0
Alike [] [] = Unit {0}
Alike (f ∷ fs) (g ∷ gs) = (bare f ≡ bare g) × Alike fs gs
Alike [] (g ∷ gs) = ⊥
Alike (f ∷ fs) [] = ⊥

alike_written : (n : ℕ) (values : List (ℤ × Value)) (fs : List FrameNow) → Alike (changed (λ (f : FrameNow). f.id) n (frame_written values) fs) fs
alike_written n values [] = tt
alike_written n values (f ∷ fs) = (elim (f.id == n) as (λ (b : Bool). bare (if b then frame_written values f else f) ≡ bare f) [ true ↦ refl | false ↦ refl ], alike_written n values fs)

alike_take : (n : ℕ) (fs gs : List FrameNow) → Alike fs gs → Alike (take n fs) (take n gs)
alike_take zero fs gs h = tt
alike_take (suc n) [] [] h = tt
alike_take (suc n) (f ∷ fs) (g ∷ gs) h = (h.0, alike_take n fs gs h.1)
alike_take (suc n) [] (g ∷ gs) h = absurd h
alike_take (suc n) (f ∷ fs) [] h = absurd h

alike_drop : (n : ℕ) (fs gs : List FrameNow) → Alike fs gs → Alike (drop n fs) (drop n gs)
alike_drop zero fs gs h = h
alike_drop (suc n) [] [] h = tt
alike_drop (suc n) (f ∷ fs) (g ∷ gs) h = alike_drop n fs gs h.1
alike_drop (suc n) [] (g ∷ gs) h = absurd h
alike_drop (suc n) (f ∷ fs) [] h = absurd h

alike_length : (fs gs : List FrameNow) → Alike fs gs → length fs ≡ length gs
alike_length [] [] h = refl
alike_length (f ∷ fs) (g ∷ gs) h = ap suc (alike_length fs gs h.1)
alike_length [] (g ∷ gs) h = absurd h
alike_length (f ∷ fs) [] h = absurd h

alike_entries : (script : ScriptPart) (fs gs : List FrameNow) → Alike fs gs → map (frame_entry script) fs ≡ map (frame_entry script) gs
alike_entries script [] [] h = refl
alike_entries script (f ∷ fs) (g ∷ gs) h = let first : frame_entry script f ≡ frame_entry script g = ap (frame_entry script) h.0 in rw (first, alike_entries script fs gs h.1) refl
alike_entries script [] (g ∷ gs) h = absurd h
alike_entries script (f ∷ fs) [] h = absurd h

alike_listed : (script : ScriptPart) (fs gs : List FrameNow) → Alike fs gs → frames_listed script fs ≡ frames_listed script gs
alike_listed script fs gs h = rw (alike_entries script fs gs h) refl

alike_from : (script : ScriptPart) (fs gs : List FrameNow) → Alike fs gs → (count : ℤ) → part_from true (frames_listed script) fs count ≡ part_from true (frames_listed script) gs count
alike_from script fs gs h (pos n) = rw (alike_length fs gs h, alike_listed script (take n fs) (take n gs) (alike_take n fs gs h)) refl
alike_from script fs gs h (negsuc zero) = alike_listed script fs gs h
alike_from script fs gs h (negsuc (suc n)) = refl

alike_part : (script : ScriptPart) (fs gs : List FrameNow) → Alike fs gs → (from count : ℤ) → part_of true (frames_listed script) fs from count ≡ part_of true (frames_listed script) gs from count
alike_part script fs gs h (pos n) count = rw (alike_length fs gs h, alike_from script (drop n fs) (drop n gs) (alike_drop n fs gs h) count) refl
alike_part script fs gs h (negsuc n) count = refl

alike_frames : (script : ScriptPart) (fs gs : List FrameNow) → Alike fs gs → (content : List DatumMeaning) → frames_answer script fs content ≡ frames_answer script gs content
alike_frames script fs gs h (One (Int from) ∷ One (Int count) ∷ []) = alike_part script fs gs h from count
alike_frames script fs gs h content = refl

alike_count : (fs gs : List FrameNow) → Alike fs gs → (content : List DatumMeaning) → frame_count_answer fs content ≡ frame_count_answer gs content
alike_count fs gs h content = rw (alike_length fs gs h) refl

alike_found : (script : ScriptPart) (id : ℕ) (e : ErrorCode) (rest : List DatumMeaning) (fs gs : List FrameNow) → Alike fs gs
    → found_or e (λ (f : FrameNow). this_answer script f rest) (frame_in id fs) ≡ found_or e (λ (f : FrameNow). this_answer script f rest) (frame_in id gs)
alike_found script id e rest [] [] h = refl
alike_found script id e rest (f ∷ fs) (g ∷ gs) h =
    let ids : f.id ≡ g.id = ap (λ (x : FrameNow). x.id) h.0 in
    let this : this_answer script f rest ≡ this_answer script g rest = ap (λ (x : FrameNow). this_answer script x rest) h.0 in
    elim (either (g.id == id)) [
      | inl k ↦ let l : (f.id == id) ≡ true = rw ids k in rw (l, k) this
      | inr k ↦ let l : (f.id == id) ≡ false = rw ids k in rw (l, k) (alike_found script id e rest fs gs h.1)
    ]
alike_found script id e rest [] (g ∷ gs) h = absurd h
alike_found script id e rest (f ∷ fs) [] h = absurd h

alike_this : (script : ScriptPart) (fs gs : List FrameNow) → Alike fs gs → (content : List DatumMeaning) → of_frame_in (this_answer script) fs content ≡ of_frame_in (this_answer script) gs content
alike_this script fs gs h (One (Frame id) ∷ rest) = alike_found script id _ rest fs gs h
alike_this script fs gs h content = refl

pub found_changed : (change : ThreadNow → ThreadNow) → ((e : ThreadNow) → (change e).id ≡ e.id) → (es : List ThreadNow) (n : ℕ) → with_id (λ (e : ThreadNow). e.id) n (with_change n change es) ≡ option_map change (with_id (λ (e : ThreadNow). e.id) n es)
found_changed change ids [] n = refl
found_changed change ids (e ∷ es) n = elim (either (e.id == n)) [
  | inl h ↦ let l : ((change e).id == n) ≡ true = ap (λ (x : ℕ). x == n) (ids e) ∙ h in rw (h, l) refl
  | inr h ↦ rw (h, h) (found_changed change ids es n)
]

-- what one state has in place of the frames of a thread at another
abbrev FramesAlike : Option (List FrameNow) → Option (List FrameNow) → Type 0
FramesAlike None None = Unit {0}
FramesAlike (Some fs) (Some gs) = Alike fs gs
FramesAlike None (Some gs) = ⊥
FramesAlike (Some fs) None = ⊥

alike_mapped : (f : ℕ) (values : List (ℤ × Value)) (o : Option ThreadNow) → FramesAlike (option_map (λ (e : ThreadNow). e.frames) (option_map (thread_written f values) o)) (option_map (λ (e : ThreadNow). e.frames) o)
alike_mapped f values None = tt
alike_mapped f values (Some e) = alike_written f values e.frames

alike_refl : (fs : List FrameNow) → Alike fs fs
alike_refl [] = tt
alike_refl (f ∷ fs) = (refl, alike_refl fs)

frames_alike_refl : (o : Option (List FrameNow)) → FramesAlike o o
frames_alike_refl None = tt
frames_alike_refl (Some fs) = alike_refl fs

written_by_alike : (s : State) (t f : ℕ) (values : List (ℤ × Value)) (r : Option ErrorCode) → FramesAlike (frames_at (written_by s t f values r) t) (frames_at s t)
written_by_alike s t f values None = rw (found_changed (thread_written f values) (λ e. refl) s.threads t) (alike_mapped f values (thread_at s t))
written_by_alike s t f values (Some e) = frames_alike_refl (frames_at s t)

alike_or : (answer : List FrameNow → Asks) (e : ErrorCode) (rest : List DatumMeaning) → ((fs gs : List FrameNow) → Alike fs gs → answer fs rest ≡ answer gs rest) → (a b : Option (List FrameNow)) → FramesAlike a b
    → found_or e (λ (fs : List FrameNow). answer fs rest) a ≡ found_or e (λ (fs : List FrameNow). answer fs rest) b
alike_or answer e rest same None None h = refl
alike_or answer e rest same (Some fs) (Some gs) h = same fs gs h
alike_or answer e rest same None (Some gs) h = absurd h
alike_or answer e rest same (Some fs) None h = absurd h

alike_answers : (f g : ℕ → Option (List FrameNow)) (answer : List FrameNow → Asks) (u : ℕ) → FramesAlike (f u) (g u) → ((fs gs : List FrameNow) → Alike fs gs → (rest : List DatumMeaning) → answer fs rest ≡ answer gs rest)
    → (content : List DatumMeaning) → begins_with content u ≡ true → of_frames f answer content ≡ of_frames g answer content
alike_answers f g answer u alike same (One (Object n) ∷ rest) h = let is : n ≡ u = eqb-true n u h in rw is (alike_or answer _ rest (λ fs gs k. same fs gs k rest) (f u) (g u) alike)
alike_answers f g answer u alike same content h = absurd (false≢true h)

places_alike : (s r : State) (u : ℕ) → r.script ≡ s.script → FramesAlike (frames_at r u) (frames_at s u) → (set number : ℕ) (content : List DatumMeaning)
    → (begins_with content u && (is_command FRAMES set number || (is_command FRAME_COUNT set number || is_command THIS_OBJECT set number))) ≡ true → answer_at r set number content ≡ answer_at s set number content
places_alike s r u script alike set number content h =
    let asked = which_place (begins_with content u) (is_command FRAMES set number) (is_command FRAME_COUNT set number) (is_command THIS_OBJECT set number) h in
    elim asked.1 [
      | inl k ↦ let is = command_is set number FRAMES k in rw (is.0, is.1, script) (alike_answers (frames_at r) (frames_at s) (frames_answer s.script) u alike (alike_frames s.script) content asked.0)
      | inr (inl k) ↦ let is = command_is set number FRAME_COUNT k in rw (is.0, is.1) (alike_answers (frames_at r) (frames_at s) frame_count_answer u alike alike_count content asked.0)
      | inr (inr k) ↦ let is = command_is set number THIS_OBJECT k in rw (is.0, is.1, script) (alike_answers (frames_at r) (frames_at s) (of_frame_in (this_answer s.script)) u alike (alike_this s.script) content asked.0)
    ]

pub places_written : (s : State) (t f : ℕ) (values : List (ℤ × Value)) (q : Query) → asks_places q t ≡ true → answer (written s t f values) q ≡ answer s q
places_written s t f values q h =
    let r = written s t f values in
    places_in r.profile r t q.set q.number q.content h
    ∙ (places_alike s r t (written_script s t f values) (written_by_alike s t f values (write_refusal s t f values)) q.set q.number q.content h ∙ sym (places_in s.profile s t q.set q.number q.content h))
