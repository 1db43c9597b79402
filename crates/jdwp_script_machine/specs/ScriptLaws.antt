-- A script is a lawful machine.
use Rattle.std.proofs.Common.{◌≡◌, ℕ, ℤ, pos, ◌==◌, ◌||◌, ◌&&◌, Bool, true, false, not, nat_lt, if◌then◌else◌, List, [], ◌∷◌, refl, sym, ◌∙◌, ap, arith, Option, Some, None, option_map, inl, inr}
use Rattle.jdwp_wire.specs.declared.error_code.ErrorCode.{ErrorCode}
use Rattle.jdwp_wire.specs.ErrorCodes.{INVALID_OBJECT, INVALID_CLASS, INVALID_METHODID, INVALID_LOCATION, INVALID_FRAMEID, TYPE_MISMATCH, INVALID_SLOT}
use Rattle.std.specs.List.{list_all}
use Rattle.jdwp_value.specs.declared.location.Location.{Location}
use Rattle.jdwp_value.specs.declared.location.Location.TheVariants.{Null, At}
use Rattle.jdwp_value.specs.declared.value.Value.{Value}
use Rattle.jdwp_value.specs.Values.{tag_of}
use Rattle.jdwp_layout.specs.declared.answer.Answer.TheVariants.{Data, Error}
use Rattle.jdwp_layout.specs.CommandNumbers.{is_command, VIRTUAL_MACHINE, REFERENCE_TYPE, CLASS_TYPE, METHOD, OBJECT_REFERENCE, STRING_REFERENCE, THREAD_REFERENCE, THREAD_GROUP_REFERENCE, ARRAY_REFERENCE, EVENT_REQUEST, STACK_FRAME, MODULE_REFERENCE, SET_REQUEST, SET_SLOTS, CREATE_STRING}
use Rattle.jdwp_layout.specs.Meanings.{Int, DatumMeaning, One}
use Rattle.jdwp_event.specs.Occurrences.{runs_out, started}
use Rattle.jdwp_machine.specs.Meanings.{has}
use Rattle.jdwp_machine.specs.Laws.{IsLawful, IsMachineError, IsLocationAnswer, breakpoint_at, is_named}
use Rattle.jdwp_script.specs.Parts.{MethodPart, ClassPart, ScriptPart}
use Rattle.jdwp_script_machine.specs.LookUps.{with_id}
use Rattle.jdwp_script_machine.specs.States.{State, Life, FrameNow, ThreadNow, is_living, has_begun, living, begun, thread_at}
use Rattle.jdwp_script_machine.specs.Sites.{class_in, method_in}
use Rattle.jdwp_script_machine.specs.Steps.{next, stepped, gone, ended}
use Rattle.jdwp_script_machine.specs.SlotWrites.{has_slot, slot_value, found_suits, may_hold, frame_refusal, frame_in, thread_refusal, thread_written, write_refusal, answer_of_refusal, write_answer, written_by, written}
use Rattle.jdwp_script_machine.specs.Requests.{found_or}
use Rattle.jdwp_script_machine.specs.ThreadAnswers.{frames_at, index_answer, location_in_class, location_answer}
use Rattle.jdwp_machine.specs.declared.profile.Profile.{Profile}
use Rattle.jdwp_machine.specs.declared.profile.Profile.TheVariants.{Standard, Jdi}
use Rattle.jdwp_script_machine.specs.Answers.{answer_at}
use Rattle.jdwp_script_machine.specs.ProfileAnswers.{answer_in, answer}
use Rattle.jdwp_script_machine.specs.JdiAnswerLaws.{jdi_good}
use Rattle.jdwp_script_machine.specs.InvocationAnswerLaws.{invoking_good}
use Rattle.jdwp_script_machine.specs.Sound.{Fits, IsSound}
use Rattle.jdwp_script_machine.specs.ScriptMeaning.{script_meaning}
use Rattle.jdwp_script_machine.specs.StateLaws.{in_life, with_change, has_living, living_begun, change_within, change_out, living_distinct}
use Rattle.jdwp_script_machine.specs.LiveLaws.{own_thread, new_thread, stepped_into, begun_ended, stepped_script}
use Rattle.jdwp_script_machine.specs.SoundLaws.{stepped_sound, ended_sound, written_sound}
use Rattle.jdwp_script_machine.specs.GoodAnswers.{Good, command_at, from_good, error_good, above, at_set, at_number}
use Rattle.jdwp_script_machine.specs.ClassAnswerLaws.{no_command, virtual_machine_good, reference_type_good, class_type_good, methods_answered}
use Rattle.jdwp_script_machine.specs.ObjectAnswerLaws.{objects_answered, strings_answered, arrays_answered, groups_answered}
use Rattle.jdwp_script_machine.specs.ModuleAnswerLaws.{modules_answered}
use Rattle.jdwp_script_machine.specs.ThreadAnswerLaws.{threads_answered, stack_frames_answered, set_answered}
use Rattle.jdwp_script_machine.specs.FrameLaws.{stepped_frames, ended_frames, written_frames, written_script, frames_same, places_written, command_is}
use Rattle.jdwp_script_machine.specs.SlotLaws.{values_written}
use Rattle.jdwp_script_machine.specs.Made.{made_answer, made}
use Rattle.jdwp_script_machine.specs.MadeLaws.{made_sound, made_script, made_threads, next_stays, refused_make, made_good}
use Rattle.jdwp_script_machine.specs.HappeningLaws.{next_good, next_thread_fits, has_id_fits, in_life_has_id}

-- ---- answers

answer_good : (s : State) → IsSound s → (set number : ℕ) (content : List DatumMeaning) → Good s (command_at set number) (answer_at s set number content)
answer_good s sound set number content =
    at_set s set VIRTUAL_MACHINE number _ _ (virtual_machine_good s sound number content) (
    at_set s set REFERENCE_TYPE number _ _ (reference_type_good s sound number content) (
    at_set s set CLASS_TYPE number _ _ (class_type_good s sound number content) (
    at_set s set METHOD number _ _ (methods_answered s sound number content) (
    at_set s set OBJECT_REFERENCE number _ _ (objects_answered s sound number content) (
    at_set s set STRING_REFERENCE number _ _ (strings_answered s sound number content) (
    at_set s set THREAD_REFERENCE number _ _ (threads_answered s sound number content) (
    at_set s set THREAD_GROUP_REFERENCE number _ _ (groups_answered s sound number content) (
    at_set s set ARRAY_REFERENCE number _ _ (arrays_answered s sound number content) (
    at_set s set EVENT_REQUEST number _ _ (at_number s SET_REQUEST number _ _ (set_answered s content) (no_command s (command_at EVENT_REQUEST number))) (
    at_set s set STACK_FRAME number _ _ (stack_frames_answered s sound number content) (
    at_set s set MODULE_REFERENCE number _ _ (modules_answered s sound number content) (
    no_command s (command_at set number)))))))))))))

answer_in_good : (p : Profile) (s : State) → IsSound s → (set number : ℕ) (content : List DatumMeaning) → Good s (command_at set number) (answer_in p s set number content)
answer_in_good Standard s sound set number content = answer_good s sound set number content
answer_in_good Jdi s sound set number content =
    invoking_good s sound set number content (jdi_good s sound set number content (answer_good s sound set number content))

-- ---- refused writes

refused_by : (s : State) (t f : ℕ) (values : List (ℤ × Value)) (e : ErrorCode) (r : Option ErrorCode) → answer_of_refusal r ≡ Error e → written_by s t f values r ≡ s
refused_by s t f values e None h = absurd cc
refused_by s t f values e (Some x) h = refl

-- why a write is refused
abbrev MayRefuse : Option ErrorCode → Type 0
MayRefuse None = Unit {0}
MayRefuse (Some e) = IsMachineError e

slots_refused : (a b c : Bool) → MayRefuse (if not a then Some INVALID_SLOT else (if not b then Some TYPE_MISMATCH else (if not c then Some INVALID_OBJECT else None)))
slots_refused true true true = tt
slots_refused true true false = above INVALID_OBJECT (omega arith) (omega arith)
slots_refused true false c = above TYPE_MISMATCH (omega arith) (omega arith)
slots_refused false b c = above INVALID_SLOT (omega arith) (omega arith)

frame_refused : (s : State) (values : List (ℤ × Value)) (o : Option FrameNow) → MayRefuse (frame_refusal s values o)
frame_refused s values None = above INVALID_FRAMEID (omega arith) (omega arith)
frame_refused s values (Some f) =
    slots_refused (list_all (λ (v : ℤ × Value). has_slot f.slots v.0) values) (list_all (λ (v : ℤ × Value). found_suits (slot_value v.0 f.slots) (tag_of v.1)) values) (list_all (λ (v : ℤ × Value). may_hold s v.1) values)

thread_refused : (s : State) (f : ℕ) (values : List (ℤ × Value)) (o : Option ThreadNow) → MayRefuse (thread_refusal s f values o)
thread_refused s f values None = above INVALID_OBJECT (omega arith) (omega arith)
thread_refused s f values (Some e) = frame_refused s values (frame_in f e.frames)

write_data : (s : State) → Good s SET_SLOTS (Data [])
unfolding Good
write_data s = refl

write_by : (s : State) (r : Option ErrorCode) → MayRefuse r → Good s SET_SLOTS (answer_of_refusal r)
write_by s None h = write_data s
write_by s (Some e) h = error_good s SET_SLOTS e h

-- ---- who lives and has lived

written_life : (test : Life → Bool) (s : State) (t f : ℕ) (values : List (ℤ × Value)) (u : ℕ) (r : Option ErrorCode) → in_life test (written_by s t f values r).threads u ≡ in_life test s.threads u
written_life test s t f values u None = change_within test (thread_written f values) (λ e. refl) (λ e. refl) s.threads t u
written_life test s t f values u (Some e) = refl

live_stepped : (s : State) (t u : ℕ) → runs_out (next s t) ≡ false → has (living (stepped s t).threads) u ≡ (has (living s.threads) u || is_named (started (next s t)) u)
live_stepped s t u h = rw (has_living (stepped s t).threads u, has_living s.threads u) (stepped_into is_living refl s t u h)

live_ended : (s : State) (t u : ℕ) → has (living (with_change t gone s.threads)) u ≡ (has (living s.threads) u && not (u == t))
live_ended s t u = rw (has_living (with_change t gone s.threads) u, has_living s.threads u) (change_out is_living gone (λ e. refl) s.threads t u)

live_written : (s : State) (t f : ℕ) (values : List (ℤ × Value)) (u : ℕ) → has (living (written s t f values).threads) u ≡ has (living s.threads) u
live_written s t f values u = rw (has_living (written s t f values).threads u, has_living s.threads u) (written_life is_living s t f values u (write_refusal s t f values))

live_begun : (s : State) (t : ℕ) → has (living s.threads) t ≡ true → begun s.threads t ≡ true
live_begun s t h = living_begun s.threads t (sym (has_living s.threads t) ∙ h)

live_fits : (s : State) → IsSound s → (t : ℕ) → has (living s.threads) t ≡ true → Fits s.script.sizes.object t
live_fits s sound t h = has_id_fits s.script.sizes s.threads t sound.each_thread (in_life_has_id is_living s.threads t (sym (has_living s.threads t) ∙ h))

made_frames : (s : State) (text : List ℕ) (u : ℕ) → frames_at (made s text) u ≡ frames_at s u
made_frames s text u = ap (λ (es : List ThreadNow). option_map (λ (e : ThreadNow). e.frames) (with_id (λ (e : ThreadNow). e.id) u es)) (made_threads s text)

-- ---- the test of a location

index_told : (b : Bool) → IsLocationAnswer (if b then Error INVALID_LOCATION else Data (One (Int (pos 0)) ∷ []))
index_told true = inr (inr refl)
index_told false = refl

method_told : (index : ℕ) (o : Option MethodPart) → IsLocationAnswer (found_or INVALID_METHODID (index_answer index) o)
method_told index None = inr (inl refl)
method_told index (Some m) = index_told (nat_lt m.last index)

class_told : (method index : ℕ) (o : Option ClassPart) → IsLocationAnswer (found_or INVALID_CLASS (location_in_class method index) o)
class_told method index None = inl refl
class_told method index (Some c) = method_told index (method_in c method)

location_told : (script : ScriptPart) (p : Location) → IsLocationAnswer (location_answer script p)
location_told script Null = inr (inr refl)
location_told script (At tag class method index) = class_told method.0 index (class_in script class.0)

set_told : (profile : Profile) (s : State) (set number : ℕ) (content : List DatumMeaning) (p : Location) → is_command SET_REQUEST set number ≡ true → content ≡ breakpoint_at p → IsLocationAnswer (answer_in profile s set number content)
set_told Standard s set number content p command is = let numbers = command_is set number SET_REQUEST command in rw (numbers.0, numbers.1, is) (location_told s.script p)
set_told Jdi s set number content p command is = let numbers = command_is set number SET_REQUEST command in rw (numbers.0, numbers.1, is) (location_told s.script p)

null_told : (profile : Profile) (s : State) (set number : ℕ) (content : List DatumMeaning) → is_command SET_REQUEST set number ≡ true → content ≡ breakpoint_at Null → answer_in profile s set number content ≡ Error INVALID_LOCATION
null_told Standard s set number content command is = let numbers = command_is set number SET_REQUEST command in rw (numbers.0, numbers.1, is) refl
null_told Jdi s set number content command is = let numbers = command_is set number SET_REQUEST command in rw (numbers.0, numbers.1, is) refl

-- ---- all together

pub script_lawful : IsLawful script_meaning
script_lawful =
    record {
      live_distinct = λ s sound. living_distinct s.threads sound.distinct;
      live_ever = λ s sound t h. live_begun s t h;
      own_thread = λ s t may h. own_thread s t h;
      new_thread = λ s t n may h. new_thread s t n h;
      state_stepped = λ s t may. stepped_sound s t may.0 may.2;
      live_stepped = λ s t u may. live_stepped s t u may.2;
      ever_stepped = λ s t u may. stepped_into has_begun refl s t u may.2;
      state_ended = λ s t may. ended_sound s t may.0;
      live_ended = λ s t u may. live_ended s t u;
      ever_ended = λ s t u may. begun_ended s.threads t u (live_begun s t may.1);
      state_written = λ s t f values sound. written_sound s t f values sound;
      live_written = λ s t f values u sound. live_written s t f values u;
      ever_written = λ s t f values u sound. written_life has_begun s t f values u (write_refusal s t f values);
      refused_write = λ s t f values e sound h. refused_by s t f values e (write_refusal s t f values) h;
      state_made = λ s text sound. made_sound s text sound;
      live_made = λ s text u sound. ap (λ (es : List ThreadNow). has (living es) u) (made_threads s text);
      ever_made = λ s text u sound. ap (λ (es : List ThreadNow). begun es u) (made_threads s text);
      next_made = λ s text t may. next_stays s text t;
      refused_make = λ s text e sound h. refused_make s text e h;
      sizes_are_widths = λ s sound. sound.script.widths;
      sizes_stepped = λ s t may. ap (λ (x : ScriptPart). x.sizes) (stepped_script s t);
      sizes_ended = λ s t may. refl;
      sizes_written = λ s t f values sound. ap (λ (x : ScriptPart). x.sizes) (written_script s t f values);
      sizes_made = λ s text sound. ap (λ (x : ScriptPart). x.sizes) (made_script s text);
      frames_made = λ s text u q sound h. frames_same s (made s text) u q (made_script s text) (made_frames s text u) h;
      frames_stepped = λ s t u q may ne h. frames_same s (stepped s t) u q (stepped_script s t) (stepped_frames s t u ne) h;
      frames_ended = λ s t u q may ne h. frames_same s (ended s t) u q refl (ended_frames s t u ne) h;
      frames_written = λ s t f u values q sound ne h. frames_same s (written s t f values) u q (written_script s t f values) (written_frames s t f u values ne) h;
      places_written = λ s t f values q sound h. places_written s t f values q h;
      values_written = λ s t f values q sound h. values_written s t f values q h;
      answers = λ s q sound. from_good s (command_at q.set q.number) (answer s q) (answer_in_good s.profile s sound q.set q.number q.content);
      write_answers = λ s t f values sound. from_good s SET_SLOTS (write_answer s t f values) (write_by s (write_refusal s t f values) (thread_refused s f values (thread_at s t)));
      make_answers = λ s text sound. from_good s CREATE_STRING (made_answer s text) (made_good s text);
      short_signature = λ s t may. (next_good s may.0 t).short;
      live_fits = λ s t sound h. live_fits s sound t h;
      thread_fits = λ s t may. next_thread_fits s may.0 t (live_fits s may.0 t may.1);
      occurrence_fits = λ s t may. (next_good s may.0 t).fits;
      location_answers = λ s q p sound command is. set_told s.profile s q.set q.number q.content p command is;
      null_location = λ s q sound command is. null_told s.profile s q.set q.number q.content command is;
    }
