-- Proofs that the machine of a script that passes no limit, has no id twice and none that is too wide begins in a sound
-- state.
use Rattle.std.proofs.Common.{◌≡◌, ℕ, suc, ◌-◌, ◌^◌, max, ◌≤◌, ◌==◌, ◌||◌, ◌&&◌, Bool, true, false, not, nat_lt, nat_le, if◌then◌else◌, List, [], ◌∷◌, ◌++◌, map, length, refl, sym, ◌∙◌, ap, subst, arith, Option, Some, None, inl, inr}
use Rattle.std.proofs.lemmas.Bool.{ltb-false, leb-true, leb-false, false≢true}
use Rattle.std.proofs.Math.Nat.{le-max_left, le-max_right}
use Rattle.std.proofs.lemmas.List.{length-map}
use Rattle.std.specs.List.{list_any, AllByRecursion, IsDistinct}
use Rattle.jdwp_wire.specs.Widths.{Widths, IsWidth}
use Rattle.jdwp_value.specs.declared.tag.Tag.{Tag}
use Rattle.jdwp_value.specs.declared.tag.Tag.TheVariants as tag
use Rattle.jdwp_value.specs.Values.{value_refusal, is_object}
use Rattle.jdwp_script.specs.declared.script.FieldValue.{FieldValue}
use Rattle.jdwp_script.specs.declared.step.SlotValue.{SlotValue}
use Rattle.jdwp_script.specs.declared.step.Literal.{Literal}
use Rattle.jdwp_script.specs.Literals.{value_of_bits}
use Rattle.jdwp_script.specs.Parts.{GroupPart, FieldPart, SlotPart, MethodPart, ClassPart, ElementsPart, ObjectPart, StepPart, Call, Go, Return, Throwing, Prepare, Start, Again, ThreadPart, ModulePart, ScriptPart}
use Rattle.jdwp_script.specs.Limits.{TEXT_LIMIT, LIST_LIMIT, over, is_long, if_there, is_in, field_passes, slot_passes, method_passes, class_passes, elements_pass, object_passes, step_passes, is_deep, thread_passes, module_passes, living, passes_limit}
use Rattle.jdwp_script.specs.Twice.{group_ids, object_ids, module_ids, shared_ids, is_twice, class_ids, method_ids, field_ids, frame_ids, has_id_twice}
use Rattle.jdwp_script.specs.Twice as twice
use Rattle.jdwp_script.specs.TooWide.{is_wide, literal_wide, group_wide, field_wide, method_wide, class_wide, field_value_wide, elements_wide, object_wide, slot_value_wide, step_wide, thread_wide, module_wide, is_no_width, has_wide_id}
use Rattle.jdwp_value.specs.Rising.{put_in, rising}
use Rattle.jdwp_script_machine.specs.States.{class_arranged, arranged, opening_thread, opening_of, opening}
use Rattle.jdwp_script_machine.specs.JdiAnswers.{last_id, greatest_id}
use Rattle.jdwp_script_machine.specs.Sound.{IsShort, Fits, ValueFits, IfThere, FieldIsSound, SlotIsSound, MethodIsSound, ClassIsSound, ElementsAreSound, ObjectIsSound, GroupIsSound, StepIsSound, ThreadIsSound, ModuleIsSound, ScriptIsSound, ThreadNowIsSound, thread_ids, AreWithin, IsSound}
use Rattle.jdwp_script_machine.specs.StateLaws.{either, eqb_swap}

-- ---- words

pub neither : (a b : Bool) → (a || b) ≡ false → (a ≡ false) × (b ≡ false)
neither true b h = absurd (false≢true (sym h))
neither false b h = (refl, h)

abbrev any_of : Bool → List Bool → Bool
any_of b [] = b
any_of b (c ∷ cs) = b || any_of c cs

each_false : (b : Bool) (bs : List Bool) → any_of b bs ≡ false → AllByRecursion (λ (x : Bool). x ≡ false) (b ∷ bs)
each_false b [] h = (h, tt)
each_false b (c ∷ cs) h = let both = neither b (any_of c cs) h in (both.0, each_false c cs both.1)

pub none_passes : {A : Type 0} (test : A → Bool) (xs : List A) → list_any test xs ≡ false → AllByRecursion (λ (x : A). test x ≡ false) xs
none_passes test [] h = tt
none_passes test (x ∷ xs) h = let both = neither (test x) (list_any test xs) h in (both.0, none_passes test xs both.1)

pub with_both : {A : Type 0} (P Q R : A → Type 0) → ((x : A) → P x → Q x → R x) → (xs : List A) → AllByRecursion P xs → AllByRecursion Q xs → AllByRecursion R xs
with_both P Q R both [] p q = tt
with_both P Q R both (x ∷ xs) p q = (both x p.0 q.0, with_both P Q R both xs p.1 q.1)

pub with_each : {A : Type 0} (P R : A → Type 0) → ((x : A) → P x → R x) → (xs : List A) → AllByRecursion P xs → AllByRecursion R xs
with_each P R each [] p = tt
with_each P R each (x ∷ xs) p = (each x p.0, with_each P R each xs p.1)

not_over : {A : Type 0} (n : ℕ) (xs : List A) → over n xs ≡ false → length xs ≤ n
not_over n xs h = ltb-false n (length xs) h

short : {A : Type 0} (n : ℕ) (xs : List A) → n ≤ 65_536 → over n xs ≡ false → IsShort xs
short n xs at_most h = let few = not_over n xs h in omega arith

if_none : {A : Type 0} (test : A → Bool) (o : Option A) → if_there test o ≡ false → IfThere (λ (x : A). test x ≡ false) o
if_none test None h = tt
if_none test (Some x) h = h

if_each : {A : Type 0} (P Q : A → Type 0) → ((x : A) → P x → Q x) → (o : Option A) → IfThere P o → IfThere Q o
if_each P Q each None h = tt
if_each P Q each (Some x) h = each x h

if_both : {A : Type 0} (P Q R : A → Type 0) → ((x : A) → P x → Q x → R x) → (o : Option A) → IfThere P o → IfThere Q o → IfThere R o
if_both P Q R both None p q = tt
if_both P Q R both (Some x) p q = both x p q

not_false : (b : Bool) → not b ≡ false → b ≡ true
not_false true h = refl
not_false false h = absurd (false≢true (sym h))

id_fits : (width n : ℕ) → is_wide width n ≡ false → Fits width n
id_fits width n h = rw (not_false (nat_lt n (256 ^ width)) h) refl

bits_fit : (w : Widths) (t : Tag) (bits : ℕ) → (is_object t && is_wide w.object bits) ≡ false → value_refusal w (value_of_bits t bits) ≡ None
bits_fit w tag.Byte bits h = refl
bits_fit w tag.Char bits h = refl
bits_fit w tag.Double bits h = refl
bits_fit w tag.Float bits h = refl
bits_fit w tag.Int bits h = refl
bits_fit w tag.Long bits h = refl
bits_fit w tag.Short bits h = refl
bits_fit w tag.Void bits h = refl
bits_fit w tag.Boolean bits h = refl
bits_fit w (tag.Object kind) bits h = id_fits w.object bits h

literal_fits : (w : Widths) (v : Literal) → literal_wide w v ≡ false → ValueFits w v
literal_fits w v h = bits_fit w v.tag v.bits h

-- ---- parts

field_sound : (w : Widths) (f : FieldPart) → field_passes f ≡ false → field_wide w f ≡ false → FieldIsSound w f
field_sound w f limits wide =
    let l = neither (is_long f.name) (is_long f.signature) limits in
    let i = neither (is_wide w.field f.id) (if_there (literal_wide w) f.value) wide in
    record {
      id = id_fits w.field f.id i.0;
      name = short TEXT_LIMIT f.name (omega arith) l.0;
      signature = short TEXT_LIMIT f.signature (omega arith) l.1;
      value = if_each (λ (v : Literal). literal_wide w v ≡ false) (ValueFits w) (literal_fits w) f.value (if_none (literal_wide w) f.value i.1);
    }

slot_sound : (x : SlotPart) → slot_passes x ≡ false → SlotIsSound x
slot_sound x limits =
    let l = neither (is_long x.name) (is_long x.signature) limits in
    record { name = short TEXT_LIMIT x.name (omega arith) l.0; signature = short TEXT_LIMIT x.signature (omega arith) l.1 }

method_sound : (w : Widths) (m : MethodPart) → method_passes m ≡ false → method_wide w m ≡ false → MethodIsSound w m
method_sound w m limits wide =
    let l = each_false (is_long m.name) (is_long m.signature ∷ over LIST_LIMIT m.lines ∷ over LIST_LIMIT m.slots ∷ list_any slot_passes m.slots ∷ []) limits in
    let i = neither (is_wide w.method m.id) (if_there (literal_wide w) m.returns) wide in
    record {
      id = id_fits w.method m.id i.0;
      name = short TEXT_LIMIT m.name (omega arith) l.0;
      signature = short TEXT_LIMIT m.signature (omega arith) l.1.0;
      lines = short LIST_LIMIT m.lines (omega arith) l.1.1.0;
      slots = short LIST_LIMIT m.slots (omega arith) l.1.1.1.0;
      each_slot = with_each (λ (x : SlotPart). slot_passes x ≡ false) SlotIsSound slot_sound m.slots (none_passes slot_passes m.slots l.1.1.1.1.0);
      returns = if_each (λ (v : Literal). literal_wide w v ≡ false) (ValueFits w) (literal_fits w) m.returns (if_none (literal_wide w) m.returns i.1);
    }

class_sound : (w : Widths) (c : ClassPart) → class_passes c ≡ false → class_wide w c ≡ false → ClassIsSound w c
class_sound w c limits wide =
    let l = each_false (is_long c.signature) (over LIST_LIMIT c.interfaces ∷ if_there is_long c.source ∷ over LIST_LIMIT c.fields ∷ over LIST_LIMIT c.methods ∷ list_any field_passes c.fields ∷ list_any method_passes c.methods ∷ []) limits in
    let i = each_false (is_wide w.reference c.id) (is_wide w.reference c.superclass ∷ list_any (is_wide w.reference) c.interfaces ∷ list_any (field_wide w) c.fields ∷ list_any (method_wide w) c.methods ∷ is_wide w.object c.module ∷ []) wide in
    record {
      id = id_fits w.reference c.id i.0;
      superclass = id_fits w.reference c.superclass i.1.0;
      signature = not_over TEXT_LIMIT c.signature l.0;
      interfaces = short LIST_LIMIT c.interfaces (omega arith) l.1.0;
      each_interface = with_each (λ (n : ℕ). is_wide w.reference n ≡ false) (Fits w.reference) (id_fits w.reference) c.interfaces (none_passes (is_wide w.reference) c.interfaces i.1.1.0);
      source = if_each (λ (t : List ℕ). is_long t ≡ false) IsShort (λ t h. short TEXT_LIMIT t (omega arith) h) c.source (if_none is_long c.source l.1.1.0);
      fields = short LIST_LIMIT c.fields (omega arith) l.1.1.1.0;
      each_field = with_both (λ (f : FieldPart). field_passes f ≡ false) (λ (f : FieldPart). field_wide w f ≡ false) (FieldIsSound w) (field_sound w) c.fields (none_passes field_passes c.fields l.1.1.1.1.1.0) (none_passes (field_wide w) c.fields i.1.1.1.0);
      methods = short LIST_LIMIT c.methods (omega arith) l.1.1.1.1.0;
      each_method = with_both (λ (m : MethodPart). method_passes m ≡ false) (λ (m : MethodPart). method_wide w m ≡ false) (MethodIsSound w) (method_sound w) c.methods (none_passes method_passes c.methods l.1.1.1.1.1.1.0) (none_passes (method_wide w) c.methods i.1.1.1.1.0);
      «module» = id_fits w.object c.module i.1.1.1.1.1.0;
    }

apart_bits : (o a b : Bool) → (o && (a || b)) ≡ false → ((o && a) ≡ false) × ((o && b) ≡ false)
apart_bits true true b h = absurd (false≢true (sym h))
apart_bits true false b h = (refl, h)
apart_bits false a b h = (refl, refl)

all_bits : (w : Widths) (t : Tag) (bits : List ℕ) → (is_object t && list_any (is_wide w.object) bits) ≡ false → AllByRecursion (λ (n : ℕ). value_refusal w (value_of_bits t n) ≡ None) bits
all_bits w t [] h = tt
all_bits w t (n ∷ ns) h = let both = apart_bits (is_object t) (is_wide w.object n) (list_any (is_wide w.object) ns) h in (bits_fit w t n both.0, all_bits w t ns both.1)

elements_sound : (w : Widths) (e : ElementsPart) → elements_pass e ≡ false → elements_wide w e ≡ false → ElementsAreSound w e
elements_sound w e limits wide = record { bits = short 4096 e.bits (omega arith) limits; each = all_bits w e.tag e.bits wide }

held_value_fits : (w : Widths) (x : FieldValue) → field_value_wide w x ≡ false → ValueFits w x.value
held_value_fits w x h = literal_fits w x.value (neither (is_wide w.field x.field.0) (literal_wide w x.value) h).1

object_sound : (w : Widths) (o : ObjectPart) → object_passes o ≡ false → object_wide w o ≡ false → ObjectIsSound w o
object_sound w o limits wide =
    let l = each_false (over LIST_LIMIT o.fields) (if_there (over 65_000) o.text ∷ if_there elements_pass o.array ∷ []) limits in
    let i = each_false (is_wide w.object o.id) (is_wide w.reference o.class ∷ list_any (field_value_wide w) o.fields ∷ if_there (elements_wide w) o.array ∷ []) wide in
    record {
      id = id_fits w.object o.id i.0;
      fields = with_each (λ (x : FieldValue). field_value_wide w x ≡ false) (λ (x : FieldValue). ValueFits w x.value) (held_value_fits w) o.fields (none_passes (field_value_wide w) o.fields i.1.1.0);
      text = if_each (λ (t : List ℕ). over 65_000 t ≡ false) IsShort (λ t h. short 65_000 t (omega arith) h) o.text (if_none (over 65_000) o.text l.1.0);
      array = if_both (λ (e : ElementsPart). elements_pass e ≡ false) (λ (e : ElementsPart). elements_wide w e ≡ false) (ElementsAreSound w) (elements_sound w) o.array (if_none elements_pass o.array l.1.1.0) (if_none (elements_wide w) o.array i.1.1.1.0);
    }

group_sound : (w : Widths) (g : GroupPart) → is_long g.name ≡ false → group_wide w g ≡ false → GroupIsSound w g
group_sound w g limits wide =
    let i = each_false (is_wide w.object g.id) (is_wide w.object g.parent ∷ is_wide w.reference g.class ∷ []) wide in
    record { id = id_fits w.object g.id i.0; name = short TEXT_LIMIT g.name (omega arith) limits; parent = id_fits w.object g.parent i.1.0 }

step_sound : (w : Widths) (step : StepPart) → step_wide w step ≡ false → StepIsSound w step
step_sound w (Call c) wide =
    let i = each_false (is_wide w.frame c.frame) (is_wide w.reference c.class ∷ is_wide w.method c.method ∷ is_wide w.object c.this ∷ list_any (slot_value_wide w) c.slots ∷ []) wide in
    record {
      frame = id_fits w.frame c.frame i.0;
      this = id_fits w.object c.this i.1.1.1.0;
      slots = with_each (λ (x : SlotValue). slot_value_wide w x ≡ false) (λ (x : SlotValue). ValueFits w x.value) (λ x h. literal_fits w x.value h) c.slots (none_passes (slot_value_wide w) c.slots i.1.1.1.1.0);
    }
step_sound w (Go n) wide = tt
step_sound w (Return v) wide = literal_fits w v wide
step_sound w (Throwing x) wide = tt
step_sound w (Prepare n) wide = tt
step_sound w (Start n) wide = tt
step_sound w (Again k) wide = tt

thread_sound : (w : Widths) (t : ThreadPart) → thread_passes t ≡ false → thread_wide w t ≡ false → ThreadIsSound w t
thread_sound w t limits wide =
    let l = each_false (is_long t.name) (over 65_536 t.steps ∷ list_any step_passes t.steps ∷ is_deep 0 t.steps ∷ []) limits in
    let i = each_false (is_wide w.object t.id) (is_wide w.object t.group ∷ list_any (step_wide w) t.steps ∷ is_wide w.reference t.class ∷ []) wide in
    record {
      id = id_fits w.object t.id i.0;
      name = short TEXT_LIMIT t.name (omega arith) l.0;
      group = id_fits w.object t.group i.1.0;
      steps = with_each (λ (x : StepPart). step_wide w x ≡ false) (StepIsSound w) (step_sound w) t.steps (none_passes (step_wide w) t.steps i.1.1.0);
    }

module_sound : (w : Widths) (m : ModulePart) → module_passes m ≡ false → module_wide w m ≡ false → ModuleIsSound w m
module_sound w m limits wide = record { id = id_fits w.object m.id wide; name = short TEXT_LIMIT m.name (omega arith) limits }

-- ---- lists by rising id

all_put : {A : Type 0} (key : A → ℕ) (P : A → Type 0) (x : A) (xs : List A) → P x → AllByRecursion P xs → AllByRecursion P (put_in key x xs)
all_put key P x [] p all = (p, tt)
all_put key P x (y ∷ ys) p all = elim (nat_le (key x) (key y)) as (λ (b : Bool). AllByRecursion P (if b then x ∷ y ∷ ys else y ∷ put_in key x ys)) [ true ↦ (p, all) | false ↦ (all.0, all_put key P x ys p all.1) ]

pub all_rising : {A : Type 0} (key : A → ℕ) (P : A → Type 0) (xs : List A) → AllByRecursion P xs → AllByRecursion P (rising key xs)
all_rising key P [] all = tt
all_rising key P (x ∷ xs) all = all_put key P x (rising key xs) all.0 (all_rising key P xs all.1)

length_put : {A : Type 0} (key : A → ℕ) (x : A) (xs : List A) → length (put_in key x xs) ≡ suc (length xs)
length_put key x [] = refl
length_put key x (y ∷ ys) = elim (nat_le (key x) (key y)) as (λ (b : Bool). length (if b then x ∷ y ∷ ys else y ∷ put_in key x ys) ≡ suc (suc (length ys))) [ true ↦ refl | false ↦ ap suc (length_put key x ys) ]

length_rising : {A : Type 0} (key : A → ℕ) (xs : List A) → length (rising key xs) ≡ length xs
length_rising key [] = refl
length_rising key (x ∷ xs) = length_put key x (rising key xs) ∙ ap suc (length_rising key xs)

short_rising : {A : Type 0} (key : A → ℕ) (xs : List A) → IsShort xs → IsShort (rising key xs)
short_rising key xs h = rw (length_rising key xs) h

-- ---- no id of a script stands above its greatest one

-- each stands at or before those behind it
abbrev Rises : {A : Type 0} → (A → ℕ) → List A → Type 0
Rises key [] = Unit {0}
Rises key (x ∷ xs) = AllByRecursion (λ y. key x ≤ key y) xs × Rises key xs

rises_put : {A : Type 0} (key : A → ℕ) (x : A) (xs : List A) → Rises key xs → Rises key (put_in key x xs)
rises_put key x [] h = (tt, tt)
rises_put key x (y ∷ ys) h = elim (either (nat_le (key x) (key y))) [
  | inl k ↦
      let le = leb-true (key x) (key y) k in
      rw k ((le, with_each (λ z. key y ≤ key z) (λ z. key x ≤ key z) (λ z more. omega arith) ys h.0), h)
  | inr k ↦
      let lt = leb-false (key x) (key y) k in
      rw k (all_put key (λ z. key y ≤ key z) x ys (omega arith) h.0, rises_put key x ys h.1)
]

rises_rising : {A : Type 0} (key : A → ℕ) (xs : List A) → Rises key (rising key xs)
rises_rising key [] = tt
rises_rising key (x ∷ xs) = rises_put key x (rising key xs) (rises_rising key xs)

last_behind : {A : Type 0} (key : A → ℕ) (x y : A) (ys : List A) → last_id key (x ∷ y ∷ ys) ≡ last_id key (y ∷ ys)
last_behind key x y ys =
    let longer : length (x ∷ y ∷ ys) - 1 ≡ suc (length ys) = omega arith in
    let shorter : length (y ∷ ys) - 1 ≡ length ys = omega arith in
    rw (longer, shorter) refl

within_last : {A : Type 0} (key : A → ℕ) (xs : List A) → Rises key xs → AllByRecursion (λ x. key x ≤ last_id key xs) xs
within_last key [] h = tt
within_last key (x ∷ []) h = (omega arith, tt)
within_last key (x ∷ y ∷ ys) h =
    let rest = within_last key (y ∷ ys) h.1 in
    let first = h.0.0 in
    let next = rest.0 in
    let P : ℕ → Type 0 = λ n. AllByRecursion (λ z. key z ≤ n) (x ∷ y ∷ ys) in
    subst P (sym (last_behind key x y ys)) (omega arith, rest)

-- where the last one is within a number, all are
rising_within : {A : Type 0} (key : A → ℕ) (xs : List A) (n : ℕ) → last_id key (rising key xs) ≤ n → AllByRecursion (λ x. key x ≤ n) (rising key xs)
rising_within key xs n h =
    with_each (λ x. key x ≤ last_id key (rising key xs)) (λ x. key x ≤ n) (λ x le. omega arith) (rising key xs) (within_last key (rising key xs) (rises_rising key xs))

arranged_within : (s : ScriptPart) → AreWithin (greatest_id (arranged s)) (arranged s)
arranged_within s =
    let groups = last_id (λ (g : GroupPart). g.id) (arranged s).groups in
    let threads = last_id (λ (t : ThreadPart). t.id) (arranged s).threads in
    let objects = last_id (λ (o : ObjectPart). o.id) (arranged s).objects in
    let modules = last_id (λ (m : ModulePart). m.id) (arranged s).modules in
    let left = le-max_left (max groups threads) (max objects modules) in
    let right = le-max_right (max groups threads) (max objects modules) in
    let group = le-max_left groups threads in
    let thread = le-max_right groups threads in
    let object = le-max_left objects modules in
    let last = le-max_right objects modules in
    record {
      groups = rising_within (λ (g : GroupPart). g.id) s.groups (greatest_id (arranged s)) (omega arith);
      threads = rising_within (λ (t : ThreadPart). t.id) s.threads (greatest_id (arranged s)) (omega arith);
      objects = rising_within (λ (o : ObjectPart). o.id) s.objects (greatest_id (arranged s)) (omega arith);
      modules = rising_within (λ (m : ModulePart). m.id) s.modules (greatest_id (arranged s)) (omega arith);
    }

-- ---- no id twice

abbrev Apart : ℕ → List ℕ → Type 0
Apart n ns = AllByRecursion (λ (m : ℕ). (n == m) ≡ false) ns

apart_all : (n : ℕ) (ns : List ℕ) → is_in ns n ≡ false → Apart n ns
apart_all n ns h = with_each (λ (m : ℕ). (m == n) ≡ false) (λ (m : ℕ). (n == m) ≡ false) (λ m k. eqb_swap n m ∙ k) ns (none_passes (λ (m : ℕ). m == n) ns h)

pub distinct_all : (ns : List ℕ) → is_twice ns ≡ false → IsDistinct (λ (a b : ℕ). a == b) ns
unfolding IsDistinct
distinct_all [] h = tt
distinct_all (n ∷ ns) h = let both = neither (is_in ns n) (is_twice ns) h in (apart_all n ns both.0, distinct_all ns both.1)

twice_back : (ms ns : List ℕ) → is_twice (ms ++ ns) ≡ false → is_twice ns ≡ false
twice_back [] ns h = h
twice_back (m ∷ ms) ns h = twice_back ms ns (neither (is_in (ms ++ ns) m) (is_twice (ms ++ ns)) h).1

apart_put : {A : Type 0} (key : A → ℕ) (n : ℕ) (x : A) (xs : List A) → (n == key x) ≡ false → Apart n (map key xs) → Apart n (map key (put_in key x xs))
apart_put key n x [] off all = (off, tt)
apart_put key n x (y ∷ ys) off all = elim (nat_le (key x) (key y)) as (λ (b : Bool). Apart n (map key (if b then x ∷ y ∷ ys else y ∷ put_in key x ys))) [ true ↦ (off, all) | false ↦ (all.0, apart_put key n x ys off all.1) ]

apart_rising : {A : Type 0} (key : A → ℕ) (n : ℕ) (xs : List A) → Apart n (map key xs) → Apart n (map key (rising key xs))
apart_rising key n [] all = tt
apart_rising key n (x ∷ xs) all = apart_put key n x (rising key xs) all.0 (apart_rising key n xs all.1)

distinct_put : {A : Type 0} (key : A → ℕ) (x : A) (xs : List A) → Apart (key x) (map key xs) → IsDistinct (λ (a b : ℕ). a == b) (map key xs) → IsDistinct (λ (a b : ℕ). a == b) (map key (put_in key x xs))
unfolding IsDistinct
distinct_put key x [] apart all = (tt, tt)
distinct_put key x (y ∷ ys) apart all =
    elim (nat_le (key x) (key y)) as (λ (b : Bool). IsDistinct (λ (a b : ℕ). a == b) (map key (if b then x ∷ y ∷ ys else y ∷ put_in key x ys))) [
      | true ↦ (apart, all)
      | false ↦ (apart_put key (key y) x ys (eqb_swap (key y) (key x) ∙ apart.0) all.0, distinct_put key x ys apart.1 all.1)
    ]

pub distinct_rising : {A : Type 0} (key : A → ℕ) (xs : List A) → IsDistinct (λ (a b : ℕ). a == b) (map key xs) → IsDistinct (λ (a b : ℕ). a == b) (map key (rising key xs))
unfolding IsDistinct
distinct_rising key [] all = tt
distinct_rising key (x ∷ xs) all = distinct_put key x (rising key xs) (apart_rising key (key x) xs all.0) (distinct_rising key xs all.1)

-- ---- a script

arranged_class_sound : (w : Widths) (c : ClassPart) → ClassIsSound w c → ClassIsSound w (class_arranged c)
arranged_class_sound w c h =
    record {
      id = h.id;
      superclass = h.superclass;
      signature = h.signature;
      interfaces = h.interfaces;
      each_interface = h.each_interface;
      source = h.source;
      fields = short_rising (λ (f : FieldPart). f.id) c.fields h.fields;
      each_field = all_rising (λ (f : FieldPart). f.id) (FieldIsSound w) c.fields h.each_field;
      methods = short_rising (λ (m : MethodPart). m.id) c.methods h.methods;
      each_method = all_rising (λ (m : MethodPart). m.id) (MethodIsSound w) c.methods h.each_method;
      «module» = h.module;
    }

each_mapped : {A B : Type 0} (P : A → Type 0) (Q : B → Type 0) (f : A → B) → ((x : A) → P x → Q (f x)) → (xs : List A) → AllByRecursion P xs → AllByRecursion Q (map f xs)
each_mapped P Q f step [] all = tt
each_mapped P Q f step (x ∷ xs) all = (step x all.0, each_mapped P Q f step xs all.1)

is_width : (n : ℕ) → is_no_width n ≡ false → IsWidth n
is_width n h =
    let both = neither (nat_lt n 1) (nat_lt 8 n) h in
    (ltb-false n 1 both.0, ltb-false 8 n both.1)

-- what holds of a script that was not refused for a limit or an id that is too wide
arranged_sound : (live : ℕ) (s : ScriptPart) → passes_limit live s ≡ false → has_wide_id s ≡ false → ScriptIsSound (arranged s)
arranged_sound live s limits wide =
    let w = s.sizes in
    let l = each_false (is_long s.name) (
    over 1_024 s.groups ∷ over 1_024 s.classes ∷ over 1_024 s.objects ∷ over 1_024 s.threads ∷ over 1_024 s.modules ∷ list_any (λ (g : GroupPart). is_long g.name) s.groups
    ∷ list_any class_passes s.classes ∷ list_any object_passes s.objects ∷ list_any thread_passes s.threads ∷ list_any module_passes s.modules ∷ over live (living s.threads) ∷ []) limits in
    let i = each_false (is_no_width w.field) (
    is_no_width w.method ∷ is_no_width w.object ∷ is_no_width w.reference ∷ is_no_width w.frame ∷ list_any (group_wide w) s.groups ∷ list_any (class_wide w) s.classes
    ∷ list_any (object_wide w) s.objects ∷ list_any (thread_wide w) s.threads ∷ list_any (module_wide w) s.modules ∷ []) wide in
    let kinds = i.1.1.1.1.1 in
    let each = l.1.1.1.1.1.1 in
    let groups = with_both (λ (g : GroupPart). is_long g.name ≡ false) (λ (g : GroupPart). group_wide w g ≡ false) (GroupIsSound w) (group_sound w) s.groups (none_passes (λ (g : GroupPart). is_long g.name) s.groups each.0) (none_passes (group_wide w) s.groups kinds.0) in
    let classes = with_both (λ (c : ClassPart). class_passes c ≡ false) (λ (c : ClassPart). class_wide w c ≡ false) (ClassIsSound w) (class_sound w) s.classes (none_passes class_passes s.classes each.1.0) (none_passes (class_wide w) s.classes kinds.1.0) in
    let objects = with_both (λ (o : ObjectPart). object_passes o ≡ false) (λ (o : ObjectPart). object_wide w o ≡ false) (ObjectIsSound w) (object_sound w) s.objects (none_passes object_passes s.objects each.1.1.0) (none_passes (object_wide w) s.objects kinds.1.1.0) in
    let threads = with_both (λ (t : ThreadPart). thread_passes t ≡ false) (λ (t : ThreadPart). thread_wide w t ≡ false) (ThreadIsSound w) (thread_sound w) s.threads (none_passes thread_passes s.threads each.1.1.1.0) (none_passes (thread_wide w) s.threads kinds.1.1.1.0) in
    let modules = with_both (λ (m : ModulePart). module_passes m ≡ false) (λ (m : ModulePart). module_wide w m ≡ false) (ModuleIsSound w) (module_sound w) s.modules (none_passes module_passes s.modules each.1.1.1.1.0) (none_passes (module_wide w) s.modules kinds.1.1.1.1.0) in
    record {
      widths = record { field_is = is_width w.field i.0; method_is = is_width w.method i.1.0; object_is = is_width w.object i.1.1.0; reference_is = is_width w.reference i.1.1.1.0; frame_is = is_width w.frame i.1.1.1.1.0 };
      name = short TEXT_LIMIT s.name (omega arith) l.0;
      groups = short_rising (λ (g : GroupPart). g.id) s.groups (short 1_024 s.groups (omega arith) l.1.0);
      each_group = all_rising (λ (g : GroupPart). g.id) (GroupIsSound w) s.groups groups;
      classes = rw (length-map (rising (λ (c : ClassPart). c.id) s.classes) class_arranged) (short_rising (λ (c : ClassPart). c.id) s.classes (short 1_024 s.classes (omega arith) l.1.1.0));
      each_class = each_mapped (ClassIsSound w) (ClassIsSound w) class_arranged (arranged_class_sound w) (rising (λ (c : ClassPart). c.id) s.classes) (all_rising (λ (c : ClassPart). c.id) (ClassIsSound w) s.classes classes);
      each_object = all_rising (λ (o : ObjectPart). o.id) (ObjectIsSound w) s.objects objects;
      threads = short_rising (λ (t : ThreadPart). t.id) s.threads (short 1_024 s.threads (omega arith) l.1.1.1.1.0);
      each_thread = all_rising (λ (t : ThreadPart). t.id) (ThreadIsSound w) s.threads threads;
      modules = short_rising (λ (m : ModulePart). m.id) s.modules (short 1_024 s.modules (omega arith) l.1.1.1.1.1.0);
      each_module = all_rising (λ (m : ModulePart). m.id) (ModuleIsSound w) s.modules modules;
    }

opening_thread_sound : (w : Widths) (script : ScriptPart) (t : ThreadPart) → ThreadIsSound w t → ThreadNowIsSound w (opening_thread script t)
opening_thread_sound w script t h = record { id = h.id; frames = omega arith; each_frame = tt }

opening_ids : (script : ScriptPart) (ts : List ThreadPart) → thread_ids (map (opening_thread script) ts) ≡ map (λ (t : ThreadPart). t.id) ts
opening_ids script [] = refl
opening_ids script (t ∷ ts) = ap (λ ns. t.id ∷ ns) (opening_ids script ts)

opening_of_sound : (script : ScriptPart) → ScriptIsSound script → IsDistinct (λ (a b : ℕ). a == b) (map (λ (t : ThreadPart). t.id) script.threads) → AreWithin (greatest_id script) script → IsSound (opening_of script)
opening_of_sound script sound distinct within =
    record {
      script = sound;
      threads = rw (length-map script.threads (opening_thread script)) sound.threads;
      each_thread = each_mapped (ThreadIsSound script.sizes) (ThreadNowIsSound script.sizes) (opening_thread script) (opening_thread_sound script.sizes script) script.threads sound.each_thread;
      distinct = rw (opening_ids script script.threads) distinct;
      within = within;
      few_made = omega arith;
      each_made = tt;
      counted = tt;
    }

thread_ids_distinct : (s : ScriptPart) → has_id_twice s ≡ false → IsDistinct (λ (a b : ℕ). a == b) (map (λ (t : ThreadPart). t.id) (rising (λ (t : ThreadPart). t.id) s.threads))
thread_ids_distinct s h =
    let shared = neither (is_twice (shared_ids s)) (is_twice (class_ids s.classes) || (is_twice (method_ids s.classes) || (is_twice (field_ids s.classes) || is_twice (frame_ids s.threads)))) h in
    distinct_rising (λ (t : ThreadPart). t.id) s.threads (distinct_all (twice.thread_ids s.threads) (twice_back ((group_ids s.groups ++ object_ids s.objects) ++ module_ids s.modules) (twice.thread_ids s.threads) shared.0))

pub opening_sound : (live : ℕ) (s : ScriptPart) → passes_limit live s ≡ false → has_id_twice s ≡ false → has_wide_id s ≡ false → IsSound (opening s)
opening_sound live s limits apart wide = opening_of_sound (arranged s) (arranged_sound live s limits wide) (thread_ids_distinct s apart) (arranged_within s)
