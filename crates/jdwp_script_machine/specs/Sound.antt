-- What holds of every state of a script machine: its widths are 1 to 8, its ids fit them, its texts and lists are not too long for a
-- packet's counts, no two threads have one id, and strings that were made have ids of their own.
use Rattle.std.specs.Prelude.{◌≡◌, ℕ, suc, ◌≤◌, ◌==◌, List, [], ◌∷◌, map, length, Option, Some, None}
use Rattle.std.specs.List.{AllByRecursion, IsDistinct}
use Rattle.jdwp_wire.specs.Widths.{Widths, AreWidths}
use Rattle.jdwp_wire.specs.Numbers.{id_refusal}
use Rattle.jdwp_wire.specs.Text.{text_refusal}
use Rattle.jdwp_value.specs.Values.{value_refusal}
use Rattle.jdwp_script.specs.declared.script.FieldValue.{FieldValue}
use Rattle.jdwp_script.specs.declared.step.SlotValue.{SlotValue}
use Rattle.jdwp_script.specs.declared.step.Literal.{Literal}
use Rattle.jdwp_script.specs.Literals.{literal_value, value_of_bits}
use Rattle.jdwp_script.specs.Parts.{GroupPart, FieldPart, SlotPart, MethodPart, ClassPart, ElementsPart, ObjectPart, CallPart, StepPart, Call, Go, Return, Throwing, Prepare, Start, Again, ThreadPart, ModulePart, ScriptPart}
use Rattle.jdwp_script_machine.specs.States.{SlotNow, FrameNow, ThreadNow, State}
use Rattle.jdwp_machine.specs.Laws.{SIGNATURE_LIMIT}
use Rattle.jdwp_script_machine.specs.Steps.{FRAME_LIMIT}
use Rattle.jdwp_script_machine.specs.JdiAnswers.{greatest_id}
use Rattle.jdwp_script_machine.specs.Made.{MADE_LIMIT, first_made}

-- ---- words

-- no longer than 65,536: texts in bytes, and lists
abbrev pub IsShort : {A : Type 0} → List A → Type 0
IsShort xs = length xs ≤ 65_536

abbrev pub Fits : ℕ → ℕ → Type 0
Fits width id = id_refusal width id ≡ None

abbrev pub ValueFits : Widths → Literal → Type 0
ValueFits w x = value_refusal w (literal_value x) ≡ None

abbrev pub IfThere : {A : Type 0} → (A → Type 0) → Option A → Type 0
IfThere P None = Unit {0}
IfThere P (Some x) = P x

-- ---- the script

pub record FieldIsSound (w : Widths) (f : FieldPart) : Type 0 where
  pub id : Fits w.field f.id
  pub name : IsShort f.name
  pub signature : IsShort f.signature
  pub value : IfThere (ValueFits w) f.value

pub record SlotIsSound (x : SlotPart) : Type 0 where
  pub name : IsShort x.name
  pub signature : IsShort x.signature

pub record MethodIsSound (w : Widths) (m : MethodPart) : Type 0 where
  pub id : Fits w.method m.id
  pub name : IsShort m.name
  pub signature : IsShort m.signature
  pub lines : IsShort m.lines
  pub slots : IsShort m.slots
  pub each_slot : AllByRecursion SlotIsSound m.slots
  pub returns : IfThere (ValueFits w) m.returns

pub record ClassIsSound (w : Widths) (c : ClassPart) : Type 0 where
  pub id : Fits w.reference c.id
  pub superclass : Fits w.reference c.superclass
  pub signature : length c.signature ≤ SIGNATURE_LIMIT
  pub interfaces : IsShort c.interfaces
  pub each_interface : AllByRecursion (Fits w.reference) c.interfaces
  pub source : IfThere IsShort c.source
  pub fields : IsShort c.fields
  pub each_field : AllByRecursion (FieldIsSound w) c.fields
  pub methods : IsShort c.methods
  pub each_method : AllByRecursion (MethodIsSound w) c.methods
  pub «module» : Fits w.object c.module

pub record ElementsAreSound (w : Widths) (e : ElementsPart) : Type 0 where
  pub bits : IsShort e.bits
  pub each : AllByRecursion (λ bits. value_refusal w (value_of_bits e.tag bits) ≡ None) e.bits

pub record ObjectIsSound (w : Widths) (o : ObjectPart) : Type 0 where
  pub id : Fits w.object o.id
  pub fields : AllByRecursion (λ (x : FieldValue). ValueFits w x.value) o.fields
  pub text : IfThere IsShort o.text
  pub array : IfThere (ElementsAreSound w) o.array

pub record GroupIsSound (w : Widths) (g : GroupPart) : Type 0 where
  pub id : Fits w.object g.id
  pub name : IsShort g.name
  pub parent : Fits w.object g.parent

pub record CallIsSound (w : Widths) (c : CallPart) : Type 0 where
  pub frame : Fits w.frame c.frame
  pub this : Fits w.object c.this
  pub slots : AllByRecursion (λ (x : SlotValue). ValueFits w x.value) c.slots

abbrev pub StepIsSound : Widths → StepPart → Type 0
StepIsSound w (Call c) = CallIsSound w c
StepIsSound w (Go n) = Unit {0}
StepIsSound w (Return v) = ValueFits w v
StepIsSound w (Throwing x) = Unit {0}
StepIsSound w (Prepare n) = Unit {0}
StepIsSound w (Start n) = Unit {0}
StepIsSound w (Again k) = Unit {0}

pub record ThreadIsSound (w : Widths) (t : ThreadPart) : Type 0 where
  pub id : Fits w.object t.id
  pub name : IsShort t.name
  pub group : Fits w.object t.group
  pub steps : AllByRecursion (StepIsSound w) t.steps

pub record ModuleIsSound (w : Widths) (m : ModulePart) : Type 0 where
  pub id : Fits w.object m.id
  pub name : IsShort m.name

pub record ScriptIsSound (s : ScriptPart) : Type 0 where
  pub widths : AreWidths s.sizes.field s.sizes.method s.sizes.object s.sizes.reference s.sizes.frame
  pub name : IsShort s.name
  pub groups : IsShort s.groups
  pub each_group : AllByRecursion (GroupIsSound s.sizes) s.groups
  pub classes : IsShort s.classes
  pub each_class : AllByRecursion (ClassIsSound s.sizes) s.classes
  pub each_object : AllByRecursion (ObjectIsSound s.sizes) s.objects
  pub threads : IsShort s.threads
  pub each_thread : AllByRecursion (ThreadIsSound s.sizes) s.threads
  pub modules : IsShort s.modules
  pub each_module : AllByRecursion (ModuleIsSound s.sizes) s.modules

-- ---- the threads as they are now

abbrev pub SlotNowIsSound : Widths → SlotNow → Type 0
SlotNowIsSound w x = value_refusal w x.value ≡ None

pub record FrameIsSound (w : Widths) (f : FrameNow) : Type 0 where
  pub id : Fits w.frame f.id
  pub this : Fits w.object f.this
  pub slots : AllByRecursion (SlotNowIsSound w) f.slots

pub record ThreadNowIsSound (w : Widths) (e : ThreadNow) : Type 0 where
  pub id : Fits w.object e.id
  pub frames : length e.frames ≤ FRAME_LIMIT
  pub each_frame : AllByRecursion (FrameIsSound w) e.frames

abbrev pub thread_ids : List ThreadNow → List ℕ
thread_ids es = map (λ (e : ThreadNow). e.id) es

-- ---- ids of strings that were made

-- the ids of a script are no greater than this
pub record AreWithin (n : ℕ) (s : ScriptPart) : Type 0 where
  pub groups : AllByRecursion (λ (g : GroupPart). g.id ≤ n) s.groups
  pub threads : AllByRecursion (λ (t : ThreadPart). t.id ≤ n) s.threads
  pub objects : AllByRecursion (λ (o : ObjectPart). o.id ≤ n) s.objects
  pub modules : AllByRecursion (λ (m : ModulePart). m.id ≤ n) s.modules

-- what can be told of an object, of the script or made: ids and a text that fit a packet
pub record ObjectFits (w : Widths) (o : ObjectPart) : Type 0 where
  pub id : Fits w.object o.id
  pub fields : AllByRecursion (λ (x : FieldValue). ValueFits w x.value) o.fields
  pub text : IfThere (λ t. text_refusal t ≡ None) o.text
  pub array : IfThere (ElementsAreSound w) o.array

-- these have one id after the other, from this one on
abbrev pub AreCounted : ℕ → List ObjectPart → Type 0
AreCounted n [] = Unit {0}
AreCounted n (o ∷ os) = (o.id ≡ n) × AreCounted (suc n) os

-- ---- all of it

pub record IsSound (s : State) : Type 0 where
  pub script : ScriptIsSound s.script
  pub threads : IsShort s.threads
  pub each_thread : AllByRecursion (ThreadNowIsSound s.script.sizes) s.threads
  pub distinct : IsDistinct (λ (a b : ℕ). a == b) (thread_ids s.threads)
  pub within : AreWithin (greatest_id s.script) s.script
  pub few_made : length s.made ≤ MADE_LIMIT
  pub each_made : AllByRecursion (ObjectFits s.script.sizes) s.made
  pub counted : AreCounted (first_made s.script) s.made
