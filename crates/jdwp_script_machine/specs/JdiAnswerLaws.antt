-- Proofs that what is answered for debuggers over the Java Debug Interface is in the layouts of the replies, and fits.
use Rattle.std.proofs.Common.{◌≡◌, ℕ, ◌+◌, ◌-◌, ◌^◌, ◌≤◌, ◌==◌, ◌&&◌, Bool, true, false, nat_lt, if◌then◌else◌, List, [], ◌∷◌, ◌++◌, map, length, refl, arith, Option, Some, None, option_map, inl, inr}
use Rattle.std.specs.Prelude.{bytes_eq, codes}
use Rattle.std.proofs.lemmas.Bool.{lt-ltb}
use Rattle.std.proofs.lemmas.List.{length-map}
use Rattle.std.specs.List.{AllByRecursion}
use Rattle.jdwp_wire.specs.Widths.{Widths}
use Rattle.jdwp_wire.specs.ErrorCodes.{ABSENT_INFORMATION}
use Rattle.jdwp_value.specs.declared.tag.ObjectTag.TheVariants as kind
use Rattle.jdwp_value.specs.Values.{object_id}
use Rattle.jdwp_layout.specs.declared.answer.Answer.{Answer}
use Rattle.jdwp_layout.specs.declared.answer.Answer.TheVariants.{Data, Error}
use Rattle.jdwp_layout.specs.declared.item.Field.TheVariants as field
use Rattle.jdwp_layout.specs.CommandNumbers.{CommandNumber, is_command, OBJECT_TYPE, ALL_MODULES, CLASS_MODULE, MODULE_NAME, MODULE_CLASS_LOADER, CLASS_PATHS, CONTENDED_MONITOR, OWNED_MONITORS, SOURCE_DEBUG_EXTENSION}
use Rattle.jdwp_layout.specs.Meanings.{ScalarMeaning, Text, Object, Tagged, DatumMeaning, One, Many, Raw}
use Rattle.jdwp_layout.specs.Shapes.{Fields}
use Rattle.jdwp_layout.specs.Writes.{entry_refusal}
use Rattle.jdwp_script.specs.Parts.{GroupPart, ClassPart, ThreadPart}
use Rattle.jdwp_script_machine.specs.States.{State}
use Rattle.jdwp_script_machine.specs.Sites.{class_in, group_in, thread_in}
use Rattle.jdwp_script_machine.specs.Requests.{of_object, of_module}
use Rattle.jdwp_script_machine.specs.ClassAnswers.{module_entry}
use Rattle.jdwp_script_machine.specs.ObjectAnswers.{type_answer, object_type_answer}
use Rattle.jdwp_script_machine.specs.ModuleAnswers.{module_name_answer, module_loader_answer}
use Rattle.jdwp_script_machine.specs.Answers.{answer_at}
use Rattle.jdwp_script_machine.specs.JdiAnswers.{class_paths_bytes, class_signed, class_by, class_of_id, TypeAsked, asked_of, type_asked, type_told, any_type_answer, greatest_id, fitting, unnamed_module, unnamed_entries, every_module, module_or_unnamed, any_module_answer, unnamed_asked, unnamed_told, any_name_answer, any_loader_answer, extension_answer, owned_answer, contended_answer, jdi_answer_at}
use Rattle.jdwp_script_machine.specs.Sound.{Fits, ClassIsSound, ModuleIsSound, IsSound}
use Rattle.jdwp_script_machine.specs.StateLaws.{either}
use Rattle.jdwp_script_machine.specs.SoundLaws.{all_found, zero_fits}
use Rattle.jdwp_script_machine.specs.FitLaws.{each_fits, counted_fits}
use Rattle.jdwp_script_machine.specs.GoodAnswers.{Good, command_at, error_good, above, alone_good, class_good, thread_good}
use Rattle.jdwp_script_machine.specs.ObjectAnswerLaws.{objects_answered, type_good}
use Rattle.jdwp_script_machine.specs.ModuleAnswerLaws.{modules_answered}
use Rattle.jdwp_script_machine.specs.FrameLaws.{command_is}

-- ---- the class of a thread or a group

signed_sound : (w : Widths) (signature : List ℕ) (cs : List ClassPart) (c : ClassPart) → AllByRecursion (ClassIsSound w) cs → class_signed signature cs ≡ Some c → ClassIsSound w c
signed_sound w signature [] c all h = absurd cc
signed_sound w signature (x ∷ xs) c all h = elim (either (bytes_eq x.signature signature)) [
  | inl k ↦ let e : Some x ≡ Some c = rw k at h in let same : x ≡ c = cc in rw (← same) all.0
  | inr k ↦ signed_sound w signature xs c all.1 (rw k at h)
]

named_sound : (s : State) → IsSound s → (class : ℕ) (signature : List ℕ) (c : ClassPart) (b : Bool) → (if b then class_signed signature s.script.classes else class_in s.script class) ≡ Some c → ClassIsSound s.script.sizes c
named_sound s sound class signature c true h = signed_sound s.script.sizes signature s.script.classes c sound.script.each_class h
named_sound s sound class signature c false h = all_found (λ (c : ClassPart). c.id) (ClassIsSound s.script.sizes) s.script.classes class c sound.script.each_class h

by_sound : (s : State) → IsSound s → (t : Option ThreadPart) (g : Option GroupPart) (c : ClassPart) → class_by s.script t g ≡ Some c → ClassIsSound s.script.sizes c
by_sound s sound (Some t) g c h = named_sound s sound t.class (codes "Ljava/lang/Thread;") c (t.class == 0) h
by_sound s sound None (Some g) c h = named_sound s sound g.class (codes "Ljava/lang/ThreadGroup;") c (g.class == 0) h
by_sound s sound None None c h = absurd cc

mapped_sound : (w : Widths) (rest : List DatumMeaning) (o : Option ClassPart) (x : TypeAsked) → ((c : ClassPart) → o ≡ Some c → ClassIsSound w c) → option_map (asked_of rest) o ≡ Some x → ClassIsSound w x.class
mapped_sound w rest None x sound h = absurd cc
mapped_sound w rest (Some c) x sound h = let same : asked_of rest c ≡ x = cc in rw (← same) (sound c refl)

asked_sound : (s : State) → IsSound s → (content : List DatumMeaning) (x : TypeAsked) → type_asked s.script content ≡ Some x → ClassIsSound s.script.sizes x.class
asked_sound s sound (One (Object id) ∷ rest) x h = mapped_sound s.script.sizes rest (class_of_id s.script id) x (λ c e. by_sound s sound (thread_in s.script id) (group_in s.script id) c e) h
asked_sound s sound content x h = absurd cc

told_good : (s : State) (otherwise : Answer) → Good s OBJECT_TYPE otherwise → (o : Option TypeAsked) → ((x : TypeAsked) → o ≡ Some x → ClassIsSound s.script.sizes x.class) → Good s OBJECT_TYPE (type_told otherwise o)
told_good s otherwise h None sound = h
told_good s otherwise h (Some x) sound = alone_good s OBJECT_TYPE (type_answer x.class) (type_good s x.class (sound x refl)) x.rest

any_type_good : (s : State) → IsSound s → (content : List DatumMeaning) → Good s OBJECT_TYPE (any_type_answer s content)
any_type_good s sound content =
    told_good s (of_object s (object_type_answer s.script) content) (objects_answered s sound OBJECT_TYPE.number content) (type_asked s.script content) (asked_sound s sound content)

-- ---- the unnamed module

fits_by : (width n : ℕ) (a b : Bool) → nat_lt n (256 ^ width) ≡ b → Fits width (if a && b then n else 0)
fits_by width n true true h = rw h refl
fits_by width n true false h = zero_fits width
fits_by width n false b h = zero_fits width

fitting_fits : (width n : ℕ) → Fits width (fitting width n)
fitting_fits width n = fits_by width n (nat_lt n (2 ^ 64)) (nat_lt n (256 ^ width)) refl

unnamed_fits : (s : State) → Fits s.script.sizes.object (unnamed_module s.script)
unnamed_fits s = fitting_fits s.script.sizes.object (greatest_id s.script + 1)

abbrev IdEntry : Widths → List ScalarMeaning → Type 0
IdEntry w x = entry_refusal w (Fields (field.ObjectId ∷ [])) x ≡ None

entries_unnamed : (w : Widths) (n : ℕ) → Fits w.object n → AllByRecursion (IdEntry w) (unnamed_entries n)
entries_unnamed w n h = elim (n == 0) as (λ (b : Bool). AllByRecursion (IdEntry w) (if b then [] else (Object n ∷ []) ∷ [])) [ true ↦ tt | false ↦ (rw h refl, tt) ]

few_unnamed : (n : ℕ) → length (unnamed_entries n) ≤ 1
few_unnamed n = elim (n == 0) as (λ (b : Bool). length (if b then [] else (Object n ∷ []) ∷ []) ≤ 1) [ true ↦ omega arith | false ↦ omega arith ]

all_behind : {A : Type 0} (P : A → Type 0) (xs ys : List A) → AllByRecursion P xs → AllByRecursion P ys → AllByRecursion P (xs ++ ys)
all_behind P [] ys all more = more
all_behind P (x ∷ xs) ys all more = (all.0, all_behind P xs ys all.1 more)

few_behind : {A : Type 0} (xs ys : List A) (n : ℕ) → length xs ≤ n → length ys ≤ 1 → length (xs ++ ys) ≤ n + 1
few_behind [] ys n h k = omega arith
few_behind (x ∷ xs) ys n h k = let more = few_behind xs ys (n - 1) (omega arith) k in omega arith

every_good : (s : State) → IsSound s → Good s ALL_MODULES (every_module s.script)
unfolding Good
every_good s sound =
    let w = s.script.sizes in
    let entries = map module_entry s.script.modules in
    let last = unnamed_entries (unnamed_module s.script) in
    let short : length entries ≤ 65_536 = rw (length-map s.script.modules module_entry) sound.script.modules in
    let few : length (entries ++ last) ≤ 65_537 = few_behind entries last 65_536 short (few_unnamed (unnamed_module s.script)) in
    let all = all_behind (IdEntry w) entries last (each_fits (ModuleIsSound w) (entry_refusal w (Fields (field.ObjectId ∷ []))) module_entry (λ m h. rw h.id refl) s.script.modules sound.script.each_module) (entries_unnamed w (unnamed_module s.script) (unnamed_fits s)) in
    rw (counted_fits (entry_refusal w (Fields (field.ObjectId ∷ []))) (entries ++ last) (lt-ltb (length (entries ++ last)) (2 ^ 31) (omega arith)) all) refl

module_fits : (s : State) (c : ClassPart) → ClassIsSound s.script.sizes c → Fits s.script.sizes.object (module_or_unnamed s.script c.module)
module_fits s c h = elim (c.module == 0) as (λ (b : Bool). Fits s.script.sizes.object (if b then unnamed_module s.script else c.module)) [ true ↦ unnamed_fits s | false ↦ h.module ]

any_module_good : (s : State) (c : ClassPart) → ClassIsSound s.script.sizes c → Good s CLASS_MODULE (Data (One (Object (module_or_unnamed s.script c.module)) ∷ []))
unfolding Good
any_module_good s c h = rw (module_fits s c h) refl

unnamed_good : (s : State) (command : CommandNumber) (unnamed otherwise : Answer) → Good s command unnamed → Good s command otherwise → (o : Option (List DatumMeaning)) → Good s command (unnamed_told unnamed otherwise o)
unnamed_good s command unnamed otherwise here there None = there
unnamed_good s command unnamed otherwise here there (Some rest) = alone_good s command unnamed here rest

empty_name_good : (s : State) → Good s MODULE_NAME (Data (One (Text []) ∷ []))
unfolding Good
empty_name_good s = refl

null_loader_good : (s : State) → Good s MODULE_CLASS_LOADER (Data (One (Object 0) ∷ []))
unfolding Good
null_loader_good s = rw (zero_fits s.script.sizes.object) refl

any_name_good : (s : State) → IsSound s → (content : List DatumMeaning) → Good s MODULE_NAME (any_name_answer s.script content)
any_name_good s sound content =
    unnamed_good s MODULE_NAME (Data (One (Text []) ∷ [])) (of_module s.script module_name_answer content) (empty_name_good s) (modules_answered s sound MODULE_NAME.number content) (unnamed_asked s.script content)

any_loader_good : (s : State) → IsSound s → (content : List DatumMeaning) → Good s MODULE_CLASS_LOADER (any_loader_answer s.script content)
any_loader_good s sound content =
    unnamed_good s MODULE_CLASS_LOADER (Data (One (Object 0) ∷ [])) (of_module s.script module_loader_answer content) (null_loader_good s) (modules_answered s sound MODULE_CLASS_LOADER.number content) (unnamed_asked s.script content)

-- ---- what no script says

raw_good : (s : State) (bytes : List ℕ) → Good s CLASS_PATHS (Data (Raw bytes ∷ []))
unfolding Good
raw_good s bytes = refl

extension_good : (s : State) → Good s SOURCE_DEBUG_EXTENSION (Error ABSENT_INFORMATION)
extension_good s = error_good s SOURCE_DEBUG_EXTENSION ABSENT_INFORMATION (above ABSENT_INFORMATION (omega arith) (omega arith))

owned_good : (s : State) → Good s OWNED_MONITORS (Data (Many [] ∷ []))
unfolding Good
owned_good s = refl

contended_good : (s : State) → Good s CONTENDED_MONITOR (Data (One (Tagged (object_id kind.Object 0)) ∷ []))
unfolding Good
contended_good s = rw (zero_fits s.script.sizes.object) refl

-- ---- all of it

at_command : (s : State) (k : CommandNumber) (set number : ℕ) (a b : Answer) → Good s k a → Good s (command_at set number) b → Good s (command_at set number) (if is_command k set number then a else b)
unfolding Good
at_command s k set number a b here there = elim (either (is_command k set number)) [
  | inl h ↦ let is = command_is set number k h in rw (h, is.0, is.1) here
  | inr h ↦ rw h there
]

pub jdi_good : (s : State) → IsSound s → (set number : ℕ) (content : List DatumMeaning) → Good s (command_at set number) (answer_at s set number content) → Good s (command_at set number) (jdi_answer_at s set number content)
jdi_good s sound set number content otherwise =
    at_command s OBJECT_TYPE set number _ _ (any_type_good s sound content) (
    at_command s CLASS_PATHS set number _ _ (alone_good s CLASS_PATHS _ (raw_good s class_paths_bytes) content) (
    at_command s ALL_MODULES set number _ _ (alone_good s ALL_MODULES (every_module s.script) (every_good s sound) content) (
    at_command s CLASS_MODULE set number _ _ (class_good s CLASS_MODULE sound (any_module_answer s.script) (λ c h. alone_good s CLASS_MODULE _ (any_module_good s c h)) content) (
    at_command s MODULE_NAME set number _ _ (any_name_good s sound content) (
    at_command s MODULE_CLASS_LOADER set number _ _ (any_loader_good s sound content) (
    at_command s SOURCE_DEBUG_EXTENSION set number _ _ (class_good s SOURCE_DEBUG_EXTENSION sound extension_answer (λ c h. alone_good s SOURCE_DEBUG_EXTENSION _ (extension_good s)) content) (
    at_command s OWNED_MONITORS set number _ _ (thread_good s OWNED_MONITORS sound owned_answer (λ t h. alone_good s OWNED_MONITORS _ (owned_good s)) content) (
    at_command s CONTENDED_MONITOR set number _ _ (thread_good s CONTENDED_MONITOR sound contended_answer (λ t h. alone_good s CONTENDED_MONITOR _ (contended_good s)) content) otherwise))))))))
