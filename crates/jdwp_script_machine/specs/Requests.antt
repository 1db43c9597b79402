-- What a command's data name, and the refusal where they name nothing. The fields are tested in the order of the
-- request, and data that are not in the row's layout are an illegal argument.
use Rattle.std.specs.Prelude.{ℕ, ◌^◌, ℤ, pos, negsuc, zero, suc, List, [], ◌∷◌, Bool, true, false, length, take, drop, nat_lt, if◌then◌else◌, Option, Some, None}
use Rattle.jdwp_wire.specs.declared.error_code.ErrorCode.{ErrorCode}
use Rattle.jdwp_wire.specs.ErrorCodes.{INVALID_THREAD_GROUP, INVALID_OBJECT, INVALID_CLASS, CLASS_NOT_PREPARED, INVALID_METHODID, INVALID_FRAMEID, INVALID_MODULE, ILLEGAL_ARGUMENT, INVALID_INDEX, INVALID_LENGTH}
use Rattle.jdwp_layout.specs.declared.answer.Answer.{Answer}
use Rattle.jdwp_layout.specs.declared.answer.Answer.TheVariants.{Error}
use Rattle.jdwp_layout.specs.Meanings.{ScalarMeaning, Int, Object, ReferenceType, Method, Frame, DatumMeaning, One, Many}
use Rattle.jdwp_script.specs.Parts.{GroupPart, MethodPart, ClassPart, ObjectPart, ThreadPart, ModulePart, ScriptPart}
use Rattle.jdwp_script_machine.specs.States.{FrameNow, State, is_prepared}
use Rattle.jdwp_script_machine.specs.Sites.{class_in, method_in, object_at, group_in, thread_in, module_in}
use Rattle.jdwp_script_machine.specs.SlotWrites.{frame_in}

-- what a command answers by the data that are left
abbrev pub Asks : Type 0
Asks = List DatumMeaning → Answer

-- nothing more is asked
abbrev pub alone : Answer → Asks
alone answer [] = answer
alone answer (x ∷ xs) = Error ILLEGAL_ARGUMENT

-- what was found, or else this error
abbrev pub found_or : {A : Type 0} → ErrorCode → (A → Answer) → Option A → Answer
found_or error answer None = Error error
found_or error answer (Some x) = answer x

-- ---- ids

abbrev pub of_class : ScriptPart → (ClassPart → Asks) → Asks
of_class script answer (One (ReferenceType id) ∷ rest) = found_or INVALID_CLASS (λ (c : ClassPart). answer c rest) (class_in script id)
of_class script answer content = Error ILLEGAL_ARGUMENT

-- the class has to be prepared
abbrev pub of_prepared_class : State → (ClassPart → Asks) → Asks
of_prepared_class s answer = of_class s.script (λ c rest. if is_prepared s c.id then answer c rest else Error CLASS_NOT_PREPARED)

abbrev pub of_method_in : (ClassPart → MethodPart → Asks) → ClassPart → Asks
of_method_in answer c (One (Method id) ∷ rest) = found_or INVALID_METHODID (λ (m : MethodPart). answer c m rest) (method_in c id)
of_method_in answer c content = Error ILLEGAL_ARGUMENT

-- a class, and a method of it
abbrev pub of_method : ScriptPart → (ClassPart → MethodPart → Asks) → Asks
of_method script answer = of_class script (of_method_in answer)

-- an object of the script, or one that was made
abbrev pub of_object : State → (ObjectPart → Asks) → Asks
of_object s answer (One (Object id) ∷ rest) = found_or INVALID_OBJECT (λ (o : ObjectPart). answer o rest) (object_at s id)
of_object s answer content = Error ILLEGAL_ARGUMENT

abbrev pub of_group : ScriptPart → (GroupPart → Asks) → Asks
of_group script answer (One (Object id) ∷ rest) = found_or INVALID_THREAD_GROUP (λ (g : GroupPart). answer g rest) (group_in script id)
of_group script answer content = Error ILLEGAL_ARGUMENT

-- 0 is no module's id
abbrev pub of_module : ScriptPart → (ModulePart → Asks) → Asks
of_module script answer (One (Object id) ∷ rest) = found_or INVALID_MODULE (λ (m : ModulePart). answer m rest) (module_in script id)
of_module script answer content = Error ILLEGAL_ARGUMENT

-- A thread of the script. Whether it lives is not the machine's to say: an id that is no thread's is no object's.
abbrev pub of_thread : ScriptPart → (ThreadPart → Asks) → Asks
of_thread script answer (One (Object id) ∷ rest) = found_or INVALID_OBJECT (λ (t : ThreadPart). answer t rest) (thread_in script id)
of_thread script answer content = Error ILLEGAL_ARGUMENT

-- the frames that a thread has, the newest first
abbrev pub of_frames : (ℕ → Option (List FrameNow)) → (List FrameNow → Asks) → Asks
of_frames frames answer (One (Object id) ∷ rest) = found_or INVALID_OBJECT (λ (fs : List FrameNow). answer fs rest) (frames id)
of_frames frames answer content = Error ILLEGAL_ARGUMENT

abbrev pub of_frame_in : (FrameNow → Asks) → List FrameNow → Asks
of_frame_in answer fs (One (Frame id) ∷ rest) = found_or INVALID_FRAMEID (λ (f : FrameNow). answer f rest) (frame_in id fs)
of_frame_in answer fs content = Error ILLEGAL_ARGUMENT

-- a thread, and a frame of it
abbrev pub of_frame : (ℕ → Option (List FrameNow)) → (FrameNow → Asks) → Asks
of_frame frames answer = of_frames frames (of_frame_in answer)

-- a list, which has fewer than 2^31 entries, and nothing more
abbrev pub of_entries : (List (List ScalarMeaning) → Answer) → Asks
of_entries answer (Many entries ∷ []) = if nat_lt (length entries) (2 ^ 31) then answer entries else Error ILLEGAL_ARGUMENT
of_entries answer content = Error ILLEGAL_ARGUMENT

-- ---- a part of a list: from which place, and how many

-- how many are asked, from a place that is there: a number, or all the rest
abbrev pub part_from : {A : Type 0} → Bool → (List A → Answer) → List A → ℤ → Answer
part_from or_rest answer xs (pos n) = if nat_lt (length xs) n then Error INVALID_LENGTH else answer (take n xs)
part_from true answer xs (negsuc zero) = answer xs
part_from false answer xs (negsuc zero) = Error INVALID_LENGTH
part_from or_rest answer xs (negsuc (suc n)) = Error INVALID_LENGTH

-- A place below 0 or above the length is no index. A length is refused where it goes past the end or is below 0; but -1
-- may mean the rest.
abbrev pub part_of : {A : Type 0} → Bool → (List A → Answer) → List A → ℤ → ℤ → Answer
part_of or_rest answer xs (pos from) count = if nat_lt (length xs) from then Error INVALID_INDEX else part_from or_rest answer (drop from xs) count
part_of or_rest answer xs (negsuc n) count = Error INVALID_INDEX

abbrev pub of_part : {A : Type 0} → Bool → (List A → Answer) → List A → Asks
of_part or_rest answer xs (One (Int from) ∷ One (Int count) ∷ []) = part_of or_rest answer xs from count
of_part or_rest answer xs content = Error ILLEGAL_ARGUMENT
