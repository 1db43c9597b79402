-- Proofs that what is answered of threads and frames, and of locations, is in the layouts of the replies, and fits.
use Rattle.std.proofs.Common.{◌≡◌, ℕ, suc, ℤ, pos, ◌^◌, ◌≤◌, ◌==◌, ◌&&◌, Bool, true, false, not, nat_lt, if◌then◌else◌, List, [], ◌∷◌, length, refl, arith, Option, Some, None, option_map, option_and_then}
use Rattle.std.proofs.lemmas.Bool.{lt-ltb, ltb-true}
use Rattle.std.specs.List.{AllByRecursion, list_all}
use Rattle.std.specs.Ordering.{int_eq}
use Rattle.jdwp_wire.specs.Widths.{Widths}
use Rattle.jdwp_wire.specs.ErrorCodes.{INVALID_CLASS, INVALID_METHODID, INVALID_LOCATION, TYPE_MISMATCH, INVALID_SLOT, NOT_IMPLEMENTED}
use Rattle.jdwp_value.specs.declared.location.Location.{Location}
use Rattle.jdwp_value.specs.declared.location.Location.TheVariants.{Null, At}
use Rattle.jdwp_value.specs.declared.value.Value.{Value}
use Rattle.jdwp_value.specs.Values.{value_refusal}
use Rattle.jdwp_value.specs.Locations.{location_refusal}
use Rattle.jdwp_layout.specs.declared.answer.Answer.{Answer}
use Rattle.jdwp_layout.specs.declared.answer.Answer.TheVariants.{Data, Error}
use Rattle.jdwp_layout.specs.declared.item.Field.TheVariants as field
use Rattle.jdwp_layout.specs.CommandNumbers.{THREAD_REFERENCE, STACK_FRAME, THREAD_NAME, THREAD_GROUP, FRAMES, FRAME_COUNT, SET_REQUEST, GET_SLOTS, THIS_OBJECT}
use Rattle.jdwp_layout.specs.Shapes.{Fields}
use Rattle.jdwp_layout.specs.Writes.{entry_refusal}
use Rattle.jdwp_layout.specs.ModifierKindNumbers.{LOCATION_ONLY}
use Rattle.jdwp_layout.specs.Meanings.{ScalarMeaning, Byte, Int, Object, Text, Located, Tagged, DatumMeaning, One, Many}
use Rattle.jdwp_event.specs.declared.kind.EventKind.TheVariants as event
use Rattle.jdwp_event.specs.Composites.{POLICY_NONE}
use Rattle.jdwp_event.specs.EventKinds.{kind_byte}
use Rattle.jdwp_script.specs.Parts.{MethodPart, ClassPart, ThreadPart, ScriptPart}
use Rattle.jdwp_script_machine.specs.States.{SlotNow, FrameNow, State}
use Rattle.jdwp_script_machine.specs.Sites.{class_in, method_in, tagged, site_in, found_location}
use Rattle.jdwp_script_machine.specs.SlotWrites.{slot_value}
use Rattle.jdwp_script_machine.specs.ThreadAnswers.{frames_at, thread_name_answer, thread_group_answer, frame_entry, frames_listed, frames_answer, frame_count_answer, thread_answer_by, entry_has_slot, entry_suits, with_entry, entry_slot, slot_entries, slots_asked, slots_answer, this_answer, stack_frame_answer_by, index_answer, location_in_class, location_answer, set_answer}
use Rattle.jdwp_script_machine.specs.Sound.{IsShort, MethodIsSound, ClassIsSound, ThreadIsSound, ScriptIsSound, SlotNowIsSound, FrameIsSound, IsSound}
use Rattle.jdwp_script_machine.specs.SoundLaws.{all_found, zero_fits}
use Rattle.jdwp_script_machine.specs.FitLaws.{short_text, entries_fit, counted_fits}
use Rattle.jdwp_script_machine.specs.GoodAnswers.{Good, command_at, error_good, above, at_number, alone_good, found_good, thread_good, AreSound, frames_good, frame_good, entries_good, of_part_good}
use Rattle.jdwp_script_machine.specs.ClassAnswerLaws.{no_command}

-- ---- locations

pub null_fits : (w : Widths) → location_refusal w Null ≡ None
null_fits w = rw (zero_fits w.reference, zero_fits w.method) refl

method_found : (w : Widths) (index : ℕ) (c : ClassPart) → ClassIsSound w c → (m : Option MethodPart) → ((x : MethodPart) → m ≡ Some x → MethodIsSound w x)
    → location_refusal w (found_location index (option_map (λ (m : MethodPart). record { class = c; method = m }) m)) ≡ None
method_found w index c sound None good = null_fits w
method_found w index c sound (Some m) good = let h = good m refl in rw (sound.id, h.id) refl

class_found : (w : Widths) (index method : ℕ) (o : Option ClassPart) → ((x : ClassPart) → o ≡ Some x → ClassIsSound w x)
    → location_refusal w (found_location index (option_and_then (λ (c : ClassPart). option_map (λ (m : MethodPart). record { class = c; method = m }) (method_in c method)) o)) ≡ None
class_found w index method None good = null_fits w
class_found w index method (Some c) good =
    let h = good c refl in
    method_found w index c h (method_in c method) (λ m e. all_found (λ (m : MethodPart). m.id) (MethodIsSound w) c.methods method m h.each_method e)

pub location_fits : (script : ScriptPart) → ScriptIsSound script → (index class method : ℕ) → location_refusal script.sizes (found_location index (site_in script class method)) ≡ None
location_fits script sound index class method =
    class_found script.sizes index method (class_in script class) (λ c e. all_found (λ (c : ClassPart). c.id) (ClassIsSound script.sizes) script.classes class c sound.each_class e)

-- ---- ThreadReference

thread_name_good : (s : State) (t : ThreadPart) → ThreadIsSound s.script.sizes t → Good s THREAD_NAME (Data (One (Text t.name) ∷ []))
unfolding Good
thread_name_good s t h = rw (short_text t.name h.name) refl

thread_group_good : (s : State) (t : ThreadPart) → ThreadIsSound s.script.sizes t → Good s THREAD_GROUP (Data (One (Object t.group) ∷ []))
unfolding Good
thread_group_good s t h = rw h.group refl

frames_listed_good : (s : State) → IsSound s → (fs : List FrameNow) → IsShort fs → AllByRecursion (FrameIsSound s.script.sizes) fs → Good s FRAMES (frames_listed s.script fs)
unfolding Good
frames_listed_good s sound fs few all =
    let w = s.script.sizes in
    rw (entries_fit (FrameIsSound w) (entry_refusal w (Fields (field.FrameId ∷ field.Location ∷ []))) (frame_entry s.script)
    (λ f h. rw (h.id, location_fits s.script sound.script f.index f.class f.method) refl) fs few all) refl

frames_answer_good : (s : State) → IsSound s → (fs : List FrameNow) → AreSound s fs → (content : List DatumMeaning) → Good s FRAMES (frames_answer s.script fs content)
frames_answer_good s sound fs h content =
    let few = h.few in
    of_part_good (FrameIsSound s.script.sizes) s FRAMES (frames_listed s.script) true fs h.each (λ ys short all. frames_listed_good s sound ys (omega arith) all) content

frame_count_good : (s : State) (fs : List FrameNow) → Good s FRAME_COUNT (Data (One (Int (pos (length fs))) ∷ []))
unfolding Good
frame_count_good s fs = refl

pub threads_answered : (s : State) → IsSound s → (n : ℕ) (content : List DatumMeaning) → Good s (command_at THREAD_REFERENCE n) (thread_answer_by s.script (frames_at s) n content)
threads_answered s sound n content =
    at_number s THREAD_NAME n _ _ (thread_good s THREAD_NAME sound thread_name_answer (λ t h. alone_good s THREAD_NAME _ (thread_name_good s t h)) content) (
    at_number s THREAD_GROUP n _ _ (thread_good s THREAD_GROUP sound thread_group_answer (λ t h. alone_good s THREAD_GROUP _ (thread_group_good s t h)) content) (
    at_number s FRAMES n _ _ (frames_good s FRAMES sound (frames_answer s.script) (frames_answer_good s sound) content) (
    at_number s FRAME_COUNT n _ _ (frames_good s FRAME_COUNT sound frame_count_answer (λ fs h. alone_good s FRAME_COUNT _ (frame_count_good s fs)) content) (
    no_command s (command_at THREAD_REFERENCE n)))))

-- ---- StackFrame

slot_fits_by : (w : Widths) (n : ℤ) (x : SlotNow) (xs : List SlotNow) (v : Value) → SlotNowIsSound w x → (slot_value n xs ≡ Some v → value_refusal w v ≡ None) → (b : Bool) → (if b then Some x.value else slot_value n xs) ≡ Some v → value_refusal w v ≡ None
slot_fits_by w n x xs v here there true h = let same : x.value ≡ v = cc in rw (← same) here
slot_fits_by w n x xs v here there false h = there h

slot_fits : (w : Widths) (n : ℤ) (slots : List SlotNow) (v : Value) → AllByRecursion (SlotNowIsSound w) slots → slot_value n slots ≡ Some v → value_refusal w v ≡ None
slot_fits w n [] v all h = absurd cc
slot_fits w n (x ∷ xs) v all h = slot_fits_by w n x xs v all.0 (slot_fits w n xs v all.1) (int_eq x.slot n) h

entry_fits : (w : Widths) (slots : List SlotNow) → AllByRecursion (SlotNowIsSound w) slots → (entry : List ScalarMeaning) (v : Value) → entry_slot slots entry ≡ Some v → value_refusal w v ≡ None
entry_fits w slots all (Int n ∷ Byte asked ∷ []) v h = slot_fits w n slots v all h
entry_fits w slots all entry v h = absurd cc

more_fits : (w : Widths) (o : Option Value) (entries : List (List ScalarMeaning)) → ((v : Value) → o ≡ Some v → value_refusal w v ≡ None) → AllByRecursion (λ (x : List ScalarMeaning). entry_refusal w (Fields (field.Value ∷ [])) x ≡ None) entries
    → AllByRecursion (λ (x : List ScalarMeaning). entry_refusal w (Fields (field.Value ∷ [])) x ≡ None) (with_entry o entries)
more_fits w None entries fits all = all
more_fits w (Some v) entries fits all = (rw (fits v refl) refl, all)

more_count : (o : Option Value) (entries : List (List ScalarMeaning)) (n : ℕ) → length entries ≤ n → length (with_entry o entries) ≤ suc n
more_count None entries n h = omega arith
more_count (Some v) entries n h = omega arith

slots_fit : (w : Widths) (slots : List SlotNow) → AllByRecursion (SlotNowIsSound w) slots → (entries : List (List ScalarMeaning)) → AllByRecursion (λ (x : List ScalarMeaning). entry_refusal w (Fields (field.Value ∷ [])) x ≡ None) (slot_entries slots entries)
slots_fit w slots all [] = tt
slots_fit w slots all (entry ∷ entries) = more_fits w (entry_slot slots entry) (slot_entries slots entries) (entry_fits w slots all entry) (slots_fit w slots all entries)

slots_count : (slots : List SlotNow) (entries : List (List ScalarMeaning)) → length (slot_entries slots entries) ≤ length entries
slots_count slots [] = omega arith
slots_count slots (entry ∷ entries) = more_count (entry_slot slots entry) (slot_entries slots entries) (length entries) (slots_count slots entries)

slots_data : (s : State) (slots : List SlotNow) → AllByRecursion (SlotNowIsSound s.script.sizes) slots → (entries : List (List ScalarMeaning)) → nat_lt (length entries) (2 ^ 31) ≡ true → Good s GET_SLOTS (Data (Many (slot_entries slots entries) ∷ []))
unfolding Good
slots_data s slots all entries few =
    let w = s.script.sizes in
    let n = slots_count slots entries in
    let lt = ltb-true (length entries) (2 ^ 31) few in
    rw (counted_fits (entry_refusal w (Fields (field.Value ∷ []))) (slot_entries slots entries) (lt-ltb (length (slot_entries slots entries)) (2 ^ 31) (omega arith)) (slots_fit w slots all entries)) refl

asked_good : (s : State) (a b : Bool) (answer : Answer) → Good s GET_SLOTS answer → Good s GET_SLOTS (if not a then Error INVALID_SLOT else (if not b then Error TYPE_MISMATCH else answer))
asked_good s true true answer h = h
asked_good s true false answer h = error_good s GET_SLOTS TYPE_MISMATCH (above TYPE_MISMATCH (omega arith) (omega arith))
asked_good s false b answer h = error_good s GET_SLOTS INVALID_SLOT (above INVALID_SLOT (omega arith) (omega arith))

slots_good : (s : State) (f : FrameNow) → FrameIsSound s.script.sizes f → (content : List DatumMeaning) → Good s GET_SLOTS (slots_answer f content)
slots_good s f h content =
    entries_good s GET_SLOTS (slots_asked f.slots)
    (λ entries few. asked_good s (list_all (entry_has_slot f.slots) entries) (list_all (entry_suits f.slots) entries) (Data (Many (slot_entries f.slots entries) ∷ [])) (slots_data s f.slots h.slots entries few)) content

this_good : (s : State) (f : FrameNow) → FrameIsSound s.script.sizes f → Good s THIS_OBJECT (Data (One (Tagged (tagged s.script f.this)) ∷ []))
unfolding Good
this_good s f h = rw h.this refl

pub stack_frames_answered : (s : State) → IsSound s → (n : ℕ) (content : List DatumMeaning) → Good s (command_at STACK_FRAME n) (stack_frame_answer_by s.script (frames_at s) n content)
stack_frames_answered s sound n content =
    at_number s GET_SLOTS n _ _ (frame_good s GET_SLOTS sound slots_answer (slots_good s) content) (
    at_number s THIS_OBJECT n _ _ (frame_good s THIS_OBJECT sound (this_answer s.script) (λ f h. alone_good s THIS_OBJECT _ (this_good s f h)) content) (
    no_command s (command_at STACK_FRAME n)))

-- ---- the test of a location

location_ok : (s : State) → Good s SET_REQUEST (Data (One (Int (pos 0)) ∷ []))
unfolding Good
location_ok s = refl

index_when : (s : State) (b : Bool) → Good s SET_REQUEST (if b then Error INVALID_LOCATION else Data (One (Int (pos 0)) ∷ []))
index_when s true = error_good s SET_REQUEST INVALID_LOCATION (above INVALID_LOCATION (omega arith) (omega arith))
index_when s false = location_ok s

location_good : (s : State) (p : Location) → Good s SET_REQUEST (location_answer s.script p)
location_good s Null = error_good s SET_REQUEST INVALID_LOCATION (above INVALID_LOCATION (omega arith) (omega arith))
location_good s (At tag class method index) =
    found_good s SET_REQUEST INVALID_CLASS (location_in_class method.0 index) (class_in s.script class.0) (above INVALID_CLASS (omega arith) (omega arith))
    (λ c e. found_good s SET_REQUEST INVALID_METHODID (index_answer index) (method_in c method.0) (above INVALID_METHODID (omega arith) (omega arith)) (λ m k. index_when s (nat_lt m.last index)))

set_when : (s : State) (p : Location) (b : Bool) → Good s SET_REQUEST (if b then location_answer s.script p else Error NOT_IMPLEMENTED)
set_when s p true = location_good s p
set_when s p false = no_command s SET_REQUEST

pub set_answered : (s : State) (content : List DatumMeaning) → Good s SET_REQUEST (set_answer s.script content)
set_answered s (One (Byte kind) ∷ One (Byte policy) ∷ Many ((Byte modifier ∷ Located location ∷ []) ∷ []) ∷ []) =
    set_when s location ((kind == kind_byte event.Breakpoint) && ((policy == POLICY_NONE) && (modifier == LOCATION_ONLY)))
set_answered s content = no_command s SET_REQUEST
