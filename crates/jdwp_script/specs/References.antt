-- When an id is 0 or unknown, or something stands where it may not.
use Rattle.std.specs.Prelude.{ℕ, ◌+◌, ◌-◌, ◌==◌, ◌&&◌, ◌||◌, List, [], ◌∷◌, ◌++◌, length, take, drop, slice_get, Bool, false, true, not, nat_lt, nat_le, Option, None, Some, is_some, unwrap_or, if◌then◌else◌}
use Rattle.std.specs.List.{list_any, flat_map}
use Rattle.std.specs.Ordering.{int_eq}
use Rattle.jdwp_value.specs.Values.{is_object}
use Rattle.jdwp_script.specs.declared.script.Line.{Line}
use Rattle.jdwp_script.specs.declared.script.FieldValue.{FieldValue}
use Rattle.jdwp_script.specs.declared.step.Literal.{Literal}
use Rattle.jdwp_script.specs.declared.step.Place.{Place}
use Rattle.jdwp_script.specs.declared.step.SlotValue.{SlotValue}
use Rattle.jdwp_script.specs.Parts.{GroupPart, FieldPart, MethodPart, ClassPart, ElementsPart, ObjectPart, CallPart, StepPart, Call, Go, Return, Throwing, Prepare, Start, Again, ThreadPart, ModulePart, ScriptPart}
use Rattle.jdwp_script.specs.Literals.{fits_tag}
use Rattle.jdwp_script.specs.Limits.{if_there, is_in, started, living}
use Rattle.jdwp_script.specs.Twice.{group_ids, object_ids, thread_ids, module_ids, class_ids, field_ids, is_twice}

-- ---- what is known

-- the last code index of the method of a class, by their ids, if the class has the method
abbrev pub Lasts : Type 0
Lasts = ℕ → ℕ → Option ℕ

abbrev pub with_method : ℕ → MethodPart → Lasts → Lasts
with_method id m lasts class method = if (id == class) && (m.id == method) then Some m.last else lasts class method

abbrev pub with_methods : ℕ → List MethodPart → Lasts → Lasts
with_methods id [] lasts = lasts
with_methods id (m ∷ ms) lasts = with_methods id ms (with_method id m lasts)

abbrev pub with_classes : List ClassPart → Lasts → Lasts
with_classes [] lasts = lasts
with_classes (c ∷ cs) lasts = with_classes cs (with_methods c.id c.methods lasts)

abbrev pub no_methods : Lasts
no_methods class method = None

-- the ids of all that values may name: groups, objects and threads, but no modules
abbrev pub value_ids : ScriptPart → List ℕ
value_ids s = (group_ids s.groups ++ object_ids s.objects) ++ thread_ids s.threads

-- which ids are known
pub record Known : Type 0 where
  pub group : ℕ → Bool
  pub class : ℕ → Bool
  pub field : ℕ → Bool
  pub object : ℕ → Bool
  pub thread : ℕ → Bool
  pub «module» : ℕ → Bool
  -- what a value may name
  pub value : ℕ → Bool
  pub last : Lasts

abbrev pub known_in : ScriptPart → Known
known_in s = record { group = is_in (group_ids s.groups); class = is_in (class_ids s.classes); field = is_in (field_ids s.classes); object = is_in (object_ids s.objects); thread = is_in (thread_ids s.threads); «module» = is_in (module_ids s.modules); value = is_in (value_ids s); last = with_classes s.classes no_methods }

abbrev pub nothing : ℕ → Bool
nothing n = false

-- one more id is known
abbrev pub or_id : ℕ → (ℕ → Bool) → ℕ → Bool
or_id n known m = (n == m) || known m

-- an id that names nothing that is known, where 0 may stand for nothing
abbrev pub is_lost : (ℕ → Bool) → ℕ → Bool
is_lost known n = not (n == 0) && not (known n)

-- ---- values

-- bits that are more than values of the tag have, or an object that is unknown
abbrev pub literal_lost : Known → Literal → Bool
literal_lost k v = not (fits_tag v.tag v.bits) || (is_object v.tag && is_lost k.value v.bits)

-- ---- groups and classes: a parent, a superclass and interfaces stand before those that name them

abbrev pub groups_lost : (ℕ → Bool) → List GroupPart → Bool
groups_lost before [] = false
groups_lost before (g ∷ gs) = (g.id == 0) || (is_lost before g.parent || groups_lost (or_id g.id before) gs)

abbrev pub types_lost : (ℕ → Bool) → List ClassPart → Bool
types_lost before [] = false
types_lost before (c ∷ cs) = (c.id == 0) || (is_lost before c.superclass || (list_any (λ n. not (before n)) c.interfaces || types_lost (or_id c.id before) cs))

abbrev pub field_lost : Known → FieldPart → Bool
field_lost k f = (f.id == 0) || if_there (literal_lost k) f.value

-- an index past the last, or not above the one before it
abbrev pub lines_lost : ℕ → Option ℕ → List Line → Bool
lines_lost last before [] = false
lines_lost last before (l ∷ ls) = nat_lt last l.index || (if_there (λ n. nat_le l.index n) before || lines_lost last (Some l.index) ls)

abbrev pub method_lost : Known → MethodPart → Bool
method_lost k m = (m.id == 0) || (lines_lost m.last None m.lines || if_there (literal_lost k) m.returns)

-- a field or a method of a class, or its module
abbrev pub class_lost : Known → ClassPart → Bool
class_lost k c = list_any (field_lost k) c.fields || (list_any (method_lost k) c.methods || is_lost k.module c.module)

-- ---- objects

abbrev pub field_value_lost : Known → FieldValue → Bool
field_value_lost k f = not (k.field f.field.0) || literal_lost k f.value

abbrev pub same_field : FieldValue → FieldValue → Bool
same_field f g = g.field.0 == f.field.0

-- whether a field is listed twice
abbrev pub field_twice : List FieldValue → Bool
field_twice [] = false
field_twice (f ∷ fs) = list_any (same_field f) fs || field_twice fs

abbrev pub elements_lost : Known → ElementsPart → Bool
elements_lost k e = list_any (λ n. literal_lost k (record { tag = e.tag; bits = n })) e.bits

abbrev pub object_lost : Known → ObjectPart → Bool
object_lost k o = (o.id == 0) || (not (k.class o.class) || (list_any (field_value_lost k) o.fields || (field_twice o.fields || if_there (elements_lost k) o.array)))

-- ---- steps; a frame is the last code index of its method, and the newest frame stands last

abbrev pub newest : List ℕ → Option ℕ
newest frames = slice_get frames (length frames - 1)

-- no method, or an index past its last
abbrev pub is_past : ℕ → Option ℕ → Bool
is_past n None = true
is_past n (Some last) = nat_lt last n

abbrev pub slot_value_lost : Known → SlotValue → Bool
slot_value_lost k s = literal_lost k s.value

abbrev pub same_slot : SlotValue → SlotValue → Bool
same_slot s t = int_eq t.slot s.slot

-- whether a slot is listed twice
abbrev pub slot_twice : List SlotValue → Bool
slot_twice [] = false
slot_twice (s ∷ ss) = list_any (same_slot s) ss || slot_twice ss

abbrev pub call_lost : Known → CallPart → Bool
call_lost k c = (c.frame == 0) || (not (is_some (k.last c.class c.method)) || (is_lost k.object c.this || (list_any (slot_value_lost k) c.slots || slot_twice c.slots)))

abbrev pub place_lost : Known → Place → Bool
place_lost k p = is_past p.index (k.last p.class.0 p.method.0)

abbrev pub step_lost : Known → List ℕ → StepPart → Bool
step_lost k frames (Call c) = call_lost k c
step_lost k frames (Go n) = is_past n (newest frames)
step_lost k frames (Return v) = not (is_some (newest frames)) || literal_lost k v
step_lost k frames (Throwing t) = not (is_some (newest frames)) || (not (k.object t.object.0) || if_there (place_lost k) t.caught)
step_lost k frames (Prepare n) = not (k.class n)
step_lost k frames (Start n) = not (k.thread n)
step_lost k frames (Again n) = false

-- the frames that a step leaves
abbrev pub frames_left : Known → List ℕ → StepPart → List ℕ
frames_left k frames (Call c) = frames ++ unwrap_or (k.last c.class c.method) 0 ∷ []
frames_left k frames (Go n) = frames
frames_left k frames (Return v) = take (length frames - 1) frames
frames_left k frames (Throwing t) = frames
frames_left k frames (Prepare n) = frames
frames_left k frames (Start n) = frames
frames_left k frames (Again n) = frames

abbrev pub steps_lost : Known → List ℕ → List StepPart → Bool
steps_lost k frames [] = false
steps_lost k frames (s ∷ ss) = step_lost k frames s || steps_lost k (frames_left k frames s) ss

-- ---- going back

abbrev pub goes_back : StepPart → Bool
goes_back (Again k) = true
goes_back (Call c) = false
goes_back (Go n) = false
goes_back (Return v) = false
goes_back (Throwing t) = false
goes_back (Prepare n) = false
goes_back (Start n) = false

-- a step that is made once at most: what has begun can't begin again
abbrev pub is_once : StepPart → Bool
is_once (Prepare n) = true
is_once (Start n) = true
is_once (Call c) = false
is_once (Go n) = false
is_once (Return v) = false
is_once (Throwing t) = false
is_once (Again k) = false

-- Whether steps return each frame that they call and no other, where so many of those that they called are there. Then the frames behind
-- them are those before them.
abbrev pub returns_own : ℕ → List StepPart → Bool
returns_own n [] = n == 0
returns_own n (Call c ∷ ss) = returns_own (n + 1) ss
returns_own n (Return v ∷ ss) = nat_lt 0 n && returns_own (n - 1) ss
returns_own n (Go i ∷ ss) = returns_own n ss
returns_own n (Throwing t ∷ ss) = returns_own n ss
returns_own n (Prepare i ∷ ss) = returns_own n ss
returns_own n (Start i ∷ ss) = returns_own n ss
returns_own n (Again k ∷ ss) = returns_own n ss

-- the last k of these steps
abbrev pub last_steps : ℕ → List StepPart → List StepPart
last_steps k steps = drop (length steps - k) steps

-- an `again` that goes k steps back, behind these steps: over steps that are there, can be made again and leave the frames as they were
abbrev pub again_lost : List StepPart → ℕ → Bool
again_lost before k = (k == 0) || (nat_lt (length before) k || (list_any is_once (last_steps k before) || not (returns_own 0 (last_steps k before))))

abbrev pub last_lost : List StepPart → Option StepPart → Bool
last_lost before None = false
last_lost before (Some (Again k)) = again_lost before k
last_lost before (Some (Call c)) = false
last_lost before (Some (Go n)) = false
last_lost before (Some (Return v)) = false
last_lost before (Some (Throwing t)) = false
last_lost before (Some (Prepare n)) = false
last_lost before (Some (Start n)) = false

-- all but the last step
abbrev pub before_last : List StepPart → List StepPart
before_last steps = take (length steps - 1) steps

-- an `again` that does not stand last, so that steps behind it are never made, or that may not go back so far
abbrev pub loop_lost : List StepPart → Bool
loop_lost steps = list_any goes_back (before_last steps) || last_lost (before_last steps) (slice_get steps (length steps - 1))

abbrev pub thread_lost : Known → ThreadPart → Bool
thread_lost k t = (t.id == 0) || (not (k.group t.group) || (steps_lost k [] t.steps || loop_lost t.steps))

-- ---- modules

abbrev pub module_lost : ModulePart → Bool
module_lost m = m.id == 0

-- ---- the classes of groups and threads

abbrev pub group_class_lost : Known → GroupPart → Bool
group_class_lost k g = is_lost k.class g.class

abbrev pub thread_class_lost : Known → ThreadPart → Bool
thread_class_lost k t = is_lost k.class t.class

-- ---- all

abbrev pub prepared_by : StepPart → List ℕ
prepared_by (Prepare n) = n ∷ []
prepared_by (Call c) = []
prepared_by (Go n) = []
prepared_by (Return v) = []
prepared_by (Throwing t) = []
prepared_by (Start n) = []
prepared_by (Again k) = []

-- the classes that steps prepare, each as often as a step prepares it
abbrev pub prepared : List ThreadPart → List ℕ
prepared threads = flat_map (λ t. flat_map prepared_by t.steps) threads

-- no thread may be started twice, no class prepared twice, and a thread has to live from the beginning
abbrev pub starts_lost : List ThreadPart → Bool
starts_lost threads = is_twice (started threads) || (is_twice (prepared threads) || (length (living threads) == 0))

-- something stands where it may not, what is known being so much
abbrev pub is_lost_among : Known → ScriptPart → Bool
is_lost_among k s =
    groups_lost nothing s.groups || (types_lost nothing s.classes || (list_any (class_lost k) s.classes || (list_any (object_lost k) s.objects || (list_any (thread_lost k) s.threads
    || (list_any module_lost s.modules || (list_any (group_class_lost k) s.groups || (list_any (thread_class_lost k) s.threads || starts_lost s.threads)))))))

abbrev pub has_bad_reference : ScriptPart → Bool
has_bad_reference s = is_lost_among (known_in s) s
