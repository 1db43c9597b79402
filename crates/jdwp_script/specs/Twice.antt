-- When two things of one kind have one id. Threads, groups, objects and modules are of one kind; classes, methods, fields
-- and frames are each of their own.
use Rattle.std.specs.Prelude.{ℕ, ◌||◌, List, [], ◌∷◌, ◌++◌, Bool, false, map}
use Rattle.std.specs.List.{flat_map}
use Rattle.jdwp_script.specs.Parts.{GroupPart, ClassPart, ObjectPart, StepPart, Call, Go, Return, Throwing, Prepare, Start, Again, ThreadPart, ModulePart, ScriptPart}
use Rattle.jdwp_script.specs.Limits.{is_in}

-- ---- the ids that a script gives away

abbrev pub group_ids : List GroupPart → List ℕ
group_ids groups = map (λ g. g.id) groups

abbrev pub object_ids : List ObjectPart → List ℕ
object_ids objects = map (λ o. o.id) objects

abbrev pub thread_ids : List ThreadPart → List ℕ
thread_ids threads = map (λ t. t.id) threads

abbrev pub module_ids : List ModulePart → List ℕ
module_ids modules = map (λ m. m.id) modules

-- the ids of all that are of one kind with threads: groups, objects, modules and threads
abbrev pub shared_ids : ScriptPart → List ℕ
shared_ids s = ((group_ids s.groups ++ object_ids s.objects) ++ module_ids s.modules) ++ thread_ids s.threads

abbrev pub class_ids : List ClassPart → List ℕ
class_ids classes = map (λ c. c.id) classes

abbrev pub field_ids : List ClassPart → List ℕ
field_ids classes = flat_map (λ c. map (λ f. f.id) c.fields) classes

abbrev pub method_ids : List ClassPart → List ℕ
method_ids classes = flat_map (λ c. map (λ m. m.id) c.methods) classes

abbrev pub frame_of : StepPart → List ℕ
frame_of (Call c) = c.frame ∷ []
frame_of (Go n) = []
frame_of (Return v) = []
frame_of (Throwing t) = []
frame_of (Prepare n) = []
frame_of (Start n) = []
frame_of (Again k) = []

abbrev pub frame_ids : List ThreadPart → List ℕ
frame_ids threads = flat_map (λ t. flat_map frame_of t.steps) threads

-- ---- whether one stands twice

abbrev pub is_twice : List ℕ → Bool
is_twice [] = false
is_twice (n ∷ ns) = is_in ns n || is_twice ns

abbrev pub has_id_twice : ScriptPart → Bool
has_id_twice s = is_twice (shared_ids s) || (is_twice (class_ids s.classes) || (is_twice (method_ids s.classes) || (is_twice (field_ids s.classes) || is_twice (frame_ids s.threads))))
