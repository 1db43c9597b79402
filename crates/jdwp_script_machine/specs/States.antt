-- The states of a machine that runs a script.
use Rattle.std.specs.Prelude.{ℕ, ℤ, ◌==◌, Bool, true, false, not, List, [], ◌∷◌, map, if◌then◌else◌, Option}
use Rattle.std.specs.List.{list_any}
use Rattle.jdwp_value.specs.declared.value.Value.{Value}
use Rattle.jdwp_script.specs.Parts.{GroupPart, FieldPart, MethodPart, ClassPart, ObjectPart, StepPart, Call, Go, Return, Throwing, Prepare, Start, Again, ThreadPart, ModulePart, ScriptPart}
use Rattle.jdwp_value.specs.Rising.{rising}
use Rattle.jdwp_machine.specs.declared.profile.Profile.{Profile}
use Rattle.jdwp_machine.specs.declared.profile.Profile.TheVariants.{Standard}
use Rattle.jdwp_script_machine.specs.LookUps.{with_id}

-- what a slot of a frame holds
pub record SlotNow : Type 0 where
  pub slot : ℤ
  pub value : Value

-- a frame: the code index where it is, its `this` (0 where it has none), and its slots
pub record FrameNow : Type 0 where
  pub id : ℕ
  pub class : ℕ
  pub method : ℕ
  pub index : ℕ
  pub this : ℕ
  pub slots : List SlotNow

-- A thread waits until another one starts it, lives, or has ended.
pub data Life : Type 0 where
  Waits : Life
  Lives : Life
  HasEnded : Life

-- a thread: the place of its next step in its list, and its frames, the newest first
pub record ThreadNow : Type 0 where
  pub id : ℕ
  pub life : Life
  pub place : ℕ
  pub frames : List FrameNow

-- a class, and whether it is prepared
pub record ClassNow : Type 0 where
  pub id : ℕ
  pub is_prepared : Bool

-- A machine: its script, which never changes and whose lists stand by rising id, its threads and classes as they are
-- now, in the script's order, the strings that were made, in turn, and its profile, which never changes.
pub record State : Type 0 where
  pub script : ScriptPart
  pub threads : List ThreadNow
  pub classes : List ClassNow
  pub made : List ObjectPart
  pub profile : Profile

-- ---- threads

abbrev pub is_living : Life → Bool
is_living Waits = false
is_living Lives = true
is_living HasEnded = false

abbrev pub has_begun : Life → Bool
has_begun Waits = false
has_begun Lives = true
has_begun HasEnded = true

abbrev pub thread_at : State → ℕ → Option ThreadNow
thread_at s t = with_id (λ (e : ThreadNow). e.id) t s.threads

-- the threads that live, by rising id
abbrev pub living : List ThreadNow → List ℕ
living [] = []
living (e ∷ es) = if is_living e.life then e.id ∷ living es else living es

-- whether a thread lives or has lived
abbrev pub begun : List ThreadNow → ℕ → Bool
begun es t = list_any (λ (e : ThreadNow). if has_begun e.life then e.id == t else false) es

-- whether the machine has a thread that did not begin yet
abbrev pub may_begin : List ThreadNow → ℕ → Bool
may_begin es t = if begun es t then false else list_any (λ (e : ThreadNow). e.id == t) es

-- ---- classes

abbrev pub is_prepared : State → ℕ → Bool
is_prepared s class = list_any (λ (c : ClassNow). if c.is_prepared then c.id == class else false) s.classes

-- ---- the state at the beginning

-- a class with its fields and methods by rising id
abbrev pub class_arranged : ClassPart → ClassPart
class_arranged c = record c { fields = rising (λ (f : FieldPart). f.id) c.fields; methods = rising (λ (m : MethodPart). m.id) c.methods }

-- a script with its lists by rising id: interfaces, lines, slots and the fields of objects stay as they stand
abbrev pub arranged : ScriptPart → ScriptPart
arranged s =
    record s {
      groups = rising (λ (g : GroupPart). g.id) s.groups;
      classes = map class_arranged (rising (λ (c : ClassPart). c.id) s.classes);
      objects = rising (λ (o : ObjectPart). o.id) s.objects;
      threads = rising (λ (t : ThreadPart). t.id) s.threads;
      modules = rising (λ (m : ModulePart). m.id) s.modules;
    }

-- whether a step of some thread passes a test
abbrev pub some_step : (StepPart → Bool) → ScriptPart → Bool
some_step test script = list_any (λ (t : ThreadPart). list_any test t.steps) script.threads

abbrev pub starts_thread : ℕ → StepPart → Bool
starts_thread t (Start n) = n == t
starts_thread t (Call c) = false
starts_thread t (Go n) = false
starts_thread t (Return v) = false
starts_thread t (Throwing x) = false
starts_thread t (Prepare n) = false
starts_thread t (Again k) = false

abbrev pub prepares_class : ℕ → StepPart → Bool
prepares_class c (Prepare n) = n == c
prepares_class c (Call x) = false
prepares_class c (Go n) = false
prepares_class c (Return v) = false
prepares_class c (Throwing x) = false
prepares_class c (Start n) = false
prepares_class c (Again k) = false

-- A thread that a step starts waits for it; the others live from the beginning.
abbrev pub opening_thread : ScriptPart → ThreadPart → ThreadNow
opening_thread script t =
    record { id = t.id; life = if some_step (starts_thread t.id) script then Waits else Lives; place = 0; frames = [] }

-- A class that a step prepares is unprepared until then; the others are prepared.
abbrev pub opening_class : ScriptPart → ClassPart → ClassNow
opening_class script c = record { id = c.id; is_prepared = not (some_step (prepares_class c.id) script) }

abbrev pub opening_of : ScriptPart → State
opening_of script = record { script = script; threads = map (opening_thread script) script.threads; classes = map (opening_class script) script.classes; made = []; profile = Standard }

-- the machine of a script in the standard profile, and in any
abbrev pub opening : ScriptPart → State
opening script = opening_of (arranged script)

abbrev pub opening_as : Profile → ScriptPart → State
opening_as profile script = record (opening script) { profile = profile }
