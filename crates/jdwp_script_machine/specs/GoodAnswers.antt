-- Proofs about answers: what is put together of tests is an answer of the row, where each answer after the tests is one.
use Rattle.std.proofs.Common.{◌≡◌, ℕ, zero, suc, ℤ, pos, negsuc, ◌^◌, ◌<◌, ◌≤◌, ◌==◌, Bool, true, false, nat_lt, if◌then◌else◌, List, [], ◌∷◌, take, drop, length, refl, arith, Option, Some, None, option_map, inl, inr}
use Rattle.std.proofs.lemmas.Bool.{eqb-true}
use Rattle.std.specs.List.{AllByRecursion}
use Rattle.jdwp_wire.specs.declared.error_code.ErrorCode.{ErrorCode}
use Rattle.jdwp_wire.specs.ErrorCodes.{INVALID_THREAD_GROUP, THREAD_NOT_SUSPENDED, INVALID_OBJECT, INVALID_CLASS, CLASS_NOT_PREPARED, INVALID_METHODID, INVALID_FRAMEID, INVALID_MODULE, ILLEGAL_ARGUMENT, INVALID_INDEX, INVALID_LENGTH}
use Rattle.jdwp_layout.specs.declared.answer.Answer.{Answer}
use Rattle.jdwp_layout.specs.declared.answer.Answer.TheVariants.{Error}
use Rattle.jdwp_layout.specs.CommandNumbers.{CommandNumber}
use Rattle.jdwp_layout.specs.Meanings.{ScalarMeaning, Int, Object, ReferenceType, Method, Frame, DatumMeaning, One, Many}
use Rattle.jdwp_machine.specs.Laws.{IsMachineError, MayAnswer}
use Rattle.jdwp_script.specs.Parts.{GroupPart, MethodPart, ClassPart, ObjectPart, ThreadPart, ModulePart}
use Rattle.jdwp_script_machine.specs.States.{FrameNow, ThreadNow, State, thread_at, is_prepared}
use Rattle.jdwp_script_machine.specs.Sites.{class_in, method_in, object_at, group_in, thread_in, module_in}
use Rattle.jdwp_script_machine.specs.SlotWrites.{frame_in}
use Rattle.jdwp_script_machine.specs.Steps.{FRAME_LIMIT}
use Rattle.jdwp_script_machine.specs.Requests.{Asks, alone, found_or, of_class, of_prepared_class, of_method_in, of_method, of_object, of_group, of_module, of_thread, of_frames, of_frame_in, of_frame, of_entries, part_from, part_of, of_part}
use Rattle.jdwp_script_machine.specs.ThreadAnswers.{frames_at}
use Rattle.jdwp_script_machine.specs.Sound.{MethodIsSound, ClassIsSound, GroupIsSound, ThreadIsSound, ModuleIsSound, FrameIsSound, ThreadNowIsSound, ObjectFits, IsSound}
use Rattle.jdwp_script_machine.specs.StateLaws.{either}
use Rattle.jdwp_script_machine.specs.SoundLaws.{all_found, found_fits}
use Rattle.jdwp_script_machine.specs.FitLaws.{all_take, all_drop, length_take, length_drop}
use Rattle.jdwp_script_machine.specs.ScriptMeaning.{script_meaning}

-- an answer to this command
unfoldable pub Good : State → CommandNumber → Answer → Type 0
Good s command a = MayAnswer script_meaning s command.set command.number a

-- the command of this set and number
abbrev pub command_at : ℕ → ℕ → CommandNumber
command_at set number = record { set = set; number = number }

pub as_good : (s : State) (command : CommandNumber) (a : Answer) → MayAnswer script_meaning s command.set command.number a → Good s command a
unfolding Good
as_good s command a h = h

pub from_good : (s : State) (command : CommandNumber) (a : Answer) → Good s command a → MayAnswer script_meaning s command.set command.number a
unfolding Good
from_good s command a h = h

-- ---- errors

pub error_good : (s : State) (command : CommandNumber) (e : ErrorCode) → IsMachineError e → Good s command (Error e)
unfolding Good
error_good s command e h = h

-- what is neither of a thread's life nor of its suspension
pub above : (e : ErrorCode) → THREAD_NOT_SUSPENDED.0 < e.0 → e.0 < 65_536 → IsMachineError e
above e more less = (omega arith, omega arith, omega arith, omega arith)

group_error : IsMachineError INVALID_THREAD_GROUP
group_error = (omega arith, omega arith, omega arith, omega arith)

illegal : (s : State) (command : CommandNumber) → Good s command (Error ILLEGAL_ARGUMENT)
illegal s command = error_good s command ILLEGAL_ARGUMENT (above ILLEGAL_ARGUMENT (omega arith) (omega arith))

-- ---- by the command

pub at_number : (s : State) (command : CommandNumber) (n : ℕ) (a b : Answer) → Good s command a → Good s (command_at command.set n) b → Good s (command_at command.set n) (if n == command.number then a else b)
unfolding Good
at_number s command n a b here there = elim (either (n == command.number)) [ inl h ↦ rw h (rw (eqb-true n command.number h) here) | inr h ↦ rw h there ]

pub at_set : (s : State) (set k n : ℕ) (a b : Answer) → Good s (command_at k n) a → Good s (command_at set n) b → Good s (command_at set n) (if set == k then a else b)
at_set s set k n a b here there = elim (either (set == k)) [ inl h ↦ rw h (rw (eqb-true set k h) here) | inr h ↦ rw h there ]

-- ---- by what is named

pub alone_good : (s : State) (command : CommandNumber) (a : Answer) → Good s command a → (content : List DatumMeaning) → Good s command (alone a content)
alone_good s command a h [] = h
alone_good s command a h (x ∷ xs) = illegal s command

pub found_good : {A : Type 0} (s : State) (command : CommandNumber) (e : ErrorCode) (answer : A → Answer) (o : Option A) → IsMachineError e → ((x : A) → o ≡ Some x → Good s command (answer x)) → Good s command (found_or e answer o)
found_good s command e answer None bad good = error_good s command e bad
found_good s command e answer (Some x) bad good = good x refl

pub class_good : (s : State) (command : CommandNumber) → IsSound s → (answer : ClassPart → Asks) → ((c : ClassPart) → ClassIsSound s.script.sizes c → (rest : List DatumMeaning) → Good s command (answer c rest))
    → (content : List DatumMeaning) → Good s command (of_class s.script answer content)
class_good s command sound answer good (One (ReferenceType id) ∷ rest) =
    found_good s command INVALID_CLASS (λ (c : ClassPart). answer c rest) (class_in s.script id) (above INVALID_CLASS (omega arith) (omega arith))
    (λ c h. good c (all_found (λ (c : ClassPart). c.id) (ClassIsSound s.script.sizes) s.script.classes id c sound.script.each_class h) rest)
class_good s command sound answer good content = illegal s command

prepared_when : (s : State) (command : CommandNumber) (b : Bool) (a : Answer) → Good s command a → Good s command (if b then a else Error CLASS_NOT_PREPARED)
prepared_when s command true a h = h
prepared_when s command false a h = error_good s command CLASS_NOT_PREPARED (above CLASS_NOT_PREPARED (omega arith) (omega arith))

pub prepared_good : (s : State) (command : CommandNumber) → IsSound s → (answer : ClassPart → Asks) → ((c : ClassPart) → ClassIsSound s.script.sizes c → (rest : List DatumMeaning) → Good s command (answer c rest))
    → (content : List DatumMeaning) → Good s command (of_prepared_class s answer content)
prepared_good s command sound answer good content =
    class_good s command sound (λ c rest. if is_prepared s c.id then answer c rest else Error CLASS_NOT_PREPARED) (λ c h rest. prepared_when s command (is_prepared s c.id) (answer c rest) (good c h rest)) content

pub method_in_good : (s : State) (command : CommandNumber) (answer : ClassPart → MethodPart → Asks) → ((c : ClassPart) (m : MethodPart) → MethodIsSound s.script.sizes m → (rest : List DatumMeaning) → Good s command (answer c m rest))
    → (c : ClassPart) → ClassIsSound s.script.sizes c → (content : List DatumMeaning) → Good s command (of_method_in answer c content)
method_in_good s command answer good c sound (One (Method id) ∷ rest) =
    found_good s command INVALID_METHODID (λ (m : MethodPart). answer c m rest) (method_in c id) (above INVALID_METHODID (omega arith) (omega arith))
    (λ m h. good c m (all_found (λ (m : MethodPart). m.id) (MethodIsSound s.script.sizes) c.methods id m sound.each_method h) rest)
method_in_good s command answer good c sound content = illegal s command

pub method_good : (s : State) (command : CommandNumber) → IsSound s → (answer : ClassPart → MethodPart → Asks) → ((c : ClassPart) (m : MethodPart) → MethodIsSound s.script.sizes m → (rest : List DatumMeaning) → Good s command (answer c m rest))
    → (content : List DatumMeaning) → Good s command (of_method s.script answer content)
method_good s command sound answer good content = class_good s command sound (of_method_in answer) (method_in_good s command answer good) content

pub object_good : (s : State) (command : CommandNumber) → IsSound s → (answer : ObjectPart → Asks) → ((o : ObjectPart) → ObjectFits s.script.sizes o → (rest : List DatumMeaning) → Good s command (answer o rest))
    → (content : List DatumMeaning) → Good s command (of_object s answer content)
object_good s command sound answer good (One (Object id) ∷ rest) =
    found_good s command INVALID_OBJECT (λ (o : ObjectPart). answer o rest) (object_at s id) (above INVALID_OBJECT (omega arith) (omega arith))
    (λ o h. good o (found_fits s sound id o h) rest)
object_good s command sound answer good content = illegal s command

pub group_good : (s : State) (command : CommandNumber) → IsSound s → (answer : GroupPart → Asks) → ((g : GroupPart) → GroupIsSound s.script.sizes g → (rest : List DatumMeaning) → Good s command (answer g rest))
    → (content : List DatumMeaning) → Good s command (of_group s.script answer content)
group_good s command sound answer good (One (Object id) ∷ rest) =
    found_good s command INVALID_THREAD_GROUP (λ (g : GroupPart). answer g rest) (group_in s.script id) group_error
    (λ g h. good g (all_found (λ (g : GroupPart). g.id) (GroupIsSound s.script.sizes) s.script.groups id g sound.script.each_group h) rest)
group_good s command sound answer good content = illegal s command

pub module_good : (s : State) (command : CommandNumber) → IsSound s → (answer : ModulePart → Asks) → ((m : ModulePart) → ModuleIsSound s.script.sizes m → (rest : List DatumMeaning) → Good s command (answer m rest))
    → (content : List DatumMeaning) → Good s command (of_module s.script answer content)
module_good s command sound answer good (One (Object id) ∷ rest) =
    found_good s command INVALID_MODULE (λ (m : ModulePart). answer m rest) (module_in s.script id) (above INVALID_MODULE (omega arith) (omega arith))
    (λ m h. good m (all_found (λ (m : ModulePart). m.id) (ModuleIsSound s.script.sizes) s.script.modules id m sound.script.each_module h) rest)
module_good s command sound answer good content = illegal s command

pub thread_good : (s : State) (command : CommandNumber) → IsSound s → (answer : ThreadPart → Asks) → ((t : ThreadPart) → ThreadIsSound s.script.sizes t → (rest : List DatumMeaning) → Good s command (answer t rest))
    → (content : List DatumMeaning) → Good s command (of_thread s.script answer content)
thread_good s command sound answer good (One (Object id) ∷ rest) =
    found_good s command INVALID_OBJECT (λ (t : ThreadPart). answer t rest) (thread_in s.script id) (above INVALID_OBJECT (omega arith) (omega arith))
    (λ t h. good t (all_found (λ (t : ThreadPart). t.id) (ThreadIsSound s.script.sizes) s.script.threads id t sound.script.each_thread h) rest)
thread_good s command sound answer good content = illegal s command

-- the frames of a thread are sound
pub record AreSound (s : State) (fs : List FrameNow) : Type 0 where
  pub few : length fs ≤ FRAME_LIMIT
  pub each : AllByRecursion (FrameIsSound s.script.sizes) fs

frames_sound : (s : State) (id : ℕ) (fs : List FrameNow) (o : Option ThreadNow) → IsSound s → thread_at s id ≡ o → option_map (λ (e : ThreadNow). e.frames) o ≡ Some fs → AreSound s fs
frames_sound s id fs None sound found h = absurd cc
frames_sound s id fs (Some e) sound found h =
    let own : ThreadNowIsSound s.script.sizes e = all_found (λ (e : ThreadNow). e.id) (ThreadNowIsSound s.script.sizes) s.threads id e sound.each_thread found in
    let same : e.frames ≡ fs = cc in
    rw (← same) (record { few = own.frames; each = own.each_frame })

pub frames_good : (s : State) (command : CommandNumber) → IsSound s → (answer : List FrameNow → Asks) → ((fs : List FrameNow) → AreSound s fs → (rest : List DatumMeaning) → Good s command (answer fs rest))
    → (content : List DatumMeaning) → Good s command (of_frames (frames_at s) answer content)
frames_good s command sound answer good (One (Object id) ∷ rest) =
    found_good s command INVALID_OBJECT (λ (fs : List FrameNow). answer fs rest) (frames_at s id) (above INVALID_OBJECT (omega arith) (omega arith))
    (λ fs h. good fs (frames_sound s id fs (thread_at s id) sound refl h) rest)
frames_good s command sound answer good content = illegal s command

frame_in_good : (s : State) (command : CommandNumber) (answer : FrameNow → Asks) → ((f : FrameNow) → FrameIsSound s.script.sizes f → (rest : List DatumMeaning) → Good s command (answer f rest))
    → (fs : List FrameNow) → AreSound s fs → (content : List DatumMeaning) → Good s command (of_frame_in answer fs content)
frame_in_good s command answer good fs sound (One (Frame id) ∷ rest) =
    found_good s command INVALID_FRAMEID (λ (f : FrameNow). answer f rest) (frame_in id fs) (above INVALID_FRAMEID (omega arith) (omega arith))
    (λ f h. good f (all_found (λ (f : FrameNow). f.id) (FrameIsSound s.script.sizes) fs id f sound.each h) rest)
frame_in_good s command answer good fs sound content = illegal s command

pub frame_good : (s : State) (command : CommandNumber) → IsSound s → (answer : FrameNow → Asks) → ((f : FrameNow) → FrameIsSound s.script.sizes f → (rest : List DatumMeaning) → Good s command (answer f rest))
    → (content : List DatumMeaning) → Good s command (of_frame (frames_at s) answer content)
frame_good s command sound answer good content = frames_good s command sound (of_frame_in answer) (frame_in_good s command answer good) content

pub entries_good : (s : State) (command : CommandNumber) (answer : List (List ScalarMeaning) → Answer) → ((entries : List (List ScalarMeaning)) → nat_lt (length entries) (2 ^ 31) ≡ true → Good s command (answer entries))
    → (content : List DatumMeaning) → Good s command (of_entries answer content)
entries_good s command answer good (Many entries ∷ []) = elim (either (nat_lt (length entries) (2 ^ 31))) [ inl h ↦ rw h (good entries h) | inr h ↦ rw h (illegal s command) ]
entries_good s command answer good content = illegal s command

-- ---- a part of a list

-- what an answer of a part may use
abbrev pub GoodParts : {A : Type 0} → (A → Type 0) → State → CommandNumber → (List A → Answer) → List A → Type 0
GoodParts {A} P s command answer xs = (ys : List A) → length ys ≤ length xs → AllByRecursion P ys → Good s command (answer ys)

length_bad : (s : State) (command : CommandNumber) → Good s command (Error INVALID_LENGTH)
length_bad s command = error_good s command INVALID_LENGTH (above INVALID_LENGTH (omega arith) (omega arith))

part_within : {A : Type 0} (P : A → Type 0) (s : State) (command : CommandNumber) (answer : List A → Answer) (xs : List A) → AllByRecursion P xs → GoodParts P s command answer xs → (k : ℕ) (b : Bool)
    → Good s command (if b then Error INVALID_LENGTH else answer (take k xs))
part_within P s command answer xs all good k true = length_bad s command
part_within P s command answer xs all good k false = good (take k xs) (length_take k xs) (all_take P k xs all)

part_from_good : {A : Type 0} (P : A → Type 0) (s : State) (command : CommandNumber) (answer : List A → Answer) (or_rest : Bool) (xs : List A) → AllByRecursion P xs → GoodParts P s command answer xs → (count : ℤ)
    → Good s command (part_from or_rest answer xs count)
part_from_good P s command answer true xs all good (pos k) = part_within P s command answer xs all good k (nat_lt (length xs) k)
part_from_good P s command answer false xs all good (pos k) = part_within P s command answer xs all good k (nat_lt (length xs) k)
part_from_good P s command answer true xs all good (negsuc zero) = good xs (omega arith) all
part_from_good P s command answer false xs all good (negsuc zero) = length_bad s command
part_from_good P s command answer true xs all good (negsuc (suc k)) = length_bad s command
part_from_good P s command answer false xs all good (negsuc (suc k)) = length_bad s command

part_after : {A : Type 0} (P : A → Type 0) (s : State) (command : CommandNumber) (answer : List A → Answer) (or_rest : Bool) (xs : List A) → AllByRecursion P xs → GoodParts P s command answer xs → (k : ℕ) (count : ℤ) (b : Bool)
    → Good s command (if b then Error INVALID_INDEX else part_from or_rest answer (drop k xs) count)
part_after P s command answer or_rest xs all good k count true = error_good s command INVALID_INDEX (above INVALID_INDEX (omega arith) (omega arith))
part_after P s command answer or_rest xs all good k count false =
    part_from_good P s command answer or_rest (drop k xs) (all_drop P k xs all) (λ ys short each. good ys (let l = length_drop k xs in omega arith) each) count

part_good : {A : Type 0} (P : A → Type 0) (s : State) (command : CommandNumber) (answer : List A → Answer) (or_rest : Bool) (xs : List A) → AllByRecursion P xs → GoodParts P s command answer xs → (from count : ℤ)
    → Good s command (part_of or_rest answer xs from count)
part_good P s command answer or_rest xs all good (pos k) count = part_after P s command answer or_rest xs all good k count (nat_lt (length xs) k)
part_good P s command answer or_rest xs all good (negsuc k) count = error_good s command INVALID_INDEX (above INVALID_INDEX (omega arith) (omega arith))

pub of_part_good : {A : Type 0} (P : A → Type 0) (s : State) (command : CommandNumber) (answer : List A → Answer) (or_rest : Bool) (xs : List A) → AllByRecursion P xs → GoodParts P s command answer xs → (content : List DatumMeaning)
    → Good s command (of_part or_rest answer xs content)
of_part_good P s command answer or_rest xs all good (One (Int from) ∷ One (Int count) ∷ []) = part_good P s command answer or_rest xs all good from count
of_part_good P s command answer or_rest xs all good content = illegal s command
