-- When there is more of something than a script may have.
use Rattle.std.specs.Prelude.{ℕ, ◌+◌, ◌-◌, ◌==◌, ◌||◌, List, [], ◌∷◌, length, Bool, false, not, nat_lt, Option, None, Some, filter}
use Rattle.std.specs.List.{list_any, flat_map}
use Rattle.jdwp_script.specs.Parts.{GroupPart, FieldPart, SlotPart, MethodPart, ClassPart, ElementsPart, ObjectPart, StepPart, Call, Go, Return, Throwing, Prepare, Start, Again, ThreadPart, ModulePart, ScriptPart}

-- ---- words

-- whether a list has more than so many elements
abbrev pub over : {X : Type 0} → ℕ → List X → Bool
over n xs = nat_lt n (length xs)

-- the bytes that a text may have
abbrev pub TEXT_LIMIT : ℕ
TEXT_LIMIT = 512

-- the elements that one list may have, and the frames that there may be at once
abbrev pub LIST_LIMIT : ℕ
LIST_LIMIT = 256

-- a text of more bytes than it may have
abbrev pub is_long : List ℕ → Bool
is_long s = over TEXT_LIMIT s

-- whether what may be there is there and passes a test
abbrev pub if_there : {X : Type 0} → (X → Bool) → Option X → Bool
if_there test None = false
if_there test (Some x) = test x

-- whether a number is one of these
abbrev pub is_in : List ℕ → ℕ → Bool
is_in ns n = list_any (λ m. m == n) ns

-- ---- threads that live from the beginning: those that no step starts

abbrev pub started_by : StepPart → List ℕ
started_by (Start n) = n ∷ []
started_by (Call c) = []
started_by (Go n) = []
started_by (Return v) = []
started_by (Throwing t) = []
started_by (Prepare n) = []
started_by (Again k) = []

-- the threads that steps start, each as often as a step starts it
abbrev pub started : List ThreadPart → List ℕ
started threads = flat_map (λ t. flat_map started_by t.steps) threads

abbrev pub living : List ThreadPart → List ThreadPart
living threads = filter (λ t. not (is_in (started threads) t.id)) threads

-- ---- frames at once

-- how many frames a step leaves where there are so many: a return with none leaves none
abbrev pub frames_after : ℕ → StepPart → ℕ
frames_after n (Call c) = n + 1
frames_after n (Return v) = n - 1
frames_after n (Go i) = n
frames_after n (Throwing t) = n
frames_after n (Prepare i) = n
frames_after n (Start i) = n
frames_after n (Again k) = n

-- whether more frames than there may be are there at once, after so many
abbrev pub is_deep : ℕ → List StepPart → Bool
is_deep n [] = false
is_deep n (s ∷ ss) = nat_lt LIST_LIMIT (frames_after n s) || is_deep (frames_after n s) ss

-- ---- parts that pass a limit

abbrev pub group_passes : GroupPart → Bool
group_passes g = is_long g.name

abbrev pub field_passes : FieldPart → Bool
field_passes f = is_long f.name || is_long f.signature

abbrev pub slot_passes : SlotPart → Bool
slot_passes s = is_long s.name || is_long s.signature

abbrev pub method_passes : MethodPart → Bool
method_passes m = is_long m.name || (is_long m.signature || (over LIST_LIMIT m.lines || (over LIST_LIMIT m.slots || list_any slot_passes m.slots)))

abbrev pub class_passes : ClassPart → Bool
class_passes c = is_long c.signature || (over LIST_LIMIT c.interfaces || (if_there is_long c.source || (over LIST_LIMIT c.fields || (over LIST_LIMIT c.methods || (list_any field_passes c.fields || list_any method_passes c.methods)))))

abbrev pub elements_pass : ElementsPart → Bool
elements_pass e = over 4096 e.bits

abbrev pub object_passes : ObjectPart → Bool
object_passes o = over LIST_LIMIT o.fields || (if_there (over 65_000) o.text || if_there elements_pass o.array)

abbrev pub step_passes : StepPart → Bool
step_passes (Call c) = over LIST_LIMIT c.slots
step_passes (Go n) = false
step_passes (Return v) = false
step_passes (Throwing t) = false
step_passes (Prepare n) = false
step_passes (Start n) = false
step_passes (Again k) = false

abbrev pub thread_passes : ThreadPart → Bool
thread_passes t = is_long t.name || (over 65_536 t.steps || (list_any step_passes t.steps || is_deep 0 t.steps))

abbrev pub module_passes : ModulePart → Bool
module_passes m = is_long m.name

-- a script in which more than this many threads may not live at the beginning
abbrev pub passes_limit : ℕ → ScriptPart → Bool
passes_limit live s =
    is_long s.name || (over 1_024 s.groups || (over 1_024 s.classes || (over 1_024 s.objects || (over 1_024 s.threads || (over 1_024 s.modules
    || (list_any group_passes s.groups || (list_any class_passes s.classes || (list_any object_passes s.objects || (list_any thread_passes s.threads || (list_any module_passes s.modules
    || over live (living s.threads)))))))))))
