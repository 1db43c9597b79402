-- Proofs about the steps of a script with no fault: each can be made where those before it were.
use Rattle.std.proofs.Common.{◌≡◌, ℕ, ◌+◌, ◌-◌, ◌<◌, ◌≤◌, ◌==◌, ◌||◌, ◌&&◌, Bool, true, false, not, nat_lt, if◌then◌else◌, List, [], ◌∷◌, ◌++◌, map, length, refl, sym, ◌∙◌, ap, ap₂, arith, Option, Some, None, option_map, option_and_then, inl, inr}
use Rattle.std.specs.Prelude.{is_some, unwrap_or}
use Rattle.std.proofs.lemmas.Bool.{ltb-false, eqb-true, eq-eqb, false≢true}
use Rattle.std.proofs.lemmas.List.{length-append, length-take-le}
use Rattle.std.specs.List.{list_any, AllByRecursion, IsDistinct}
use Rattle.jdwp_script.specs.Parts.{MethodPart, ClassPart, ObjectPart, StepPart, Call, Go, Return, Throwing, Prepare, Start, Again, ScriptPart}
use Rattle.jdwp_script.specs.Limits.{is_in, frames_after, is_deep}
use Rattle.jdwp_script.specs.References.{Lasts, with_method, with_methods, with_classes, no_methods, Known, known_in, literal_lost, newest, is_past, step_lost, frames_left, steps_lost}
use Rattle.jdwp_script.specs.Twice.{object_ids, class_ids}
use Rattle.jdwp_value.specs.Rising.{rising}
use Rattle.jdwp_script_machine.specs.LookUps.{with_id}
use Rattle.jdwp_script_machine.specs.States.{class_arranged, arranged}
use Rattle.jdwp_script_machine.specs.Sites.{Site, class_in, method_in, object_in, site_in}
use Rattle.jdwp_script_machine.specs.StateLaws.{either}
use Rattle.jdwp_script_machine.specs.OpeningLaws.{neither}
use Rattle.jdwp_script_machine.proofs.Openings.{any_rising}

-- ---- look-ups

pub there : {A : Type 0} (key : A → ℕ) (id : ℕ) (xs : List A) → is_some (with_id key id xs) ≡ list_any (λ (x : A). key x == id) xs
there key id [] = refl
there key id (x ∷ xs) = elim (either (key x == id)) [ inl h ↦ rw h refl | inr h ↦ rw h (there key id xs) ]

pub any_map : {A B : Type 0} (test : B → Bool) (f : A → B) (xs : List A) → list_any test (map f xs) ≡ list_any (λ (x : A). test (f x)) xs
any_map test f [] = refl
any_map test f (x ∷ xs) = ap (λ (r : Bool). test (f x) || r) (any_map test f xs)

any_same : {A : Type 0} (test other : A → Bool) → ((x : A) → test x ≡ other x) → (xs : List A) → list_any test xs ≡ list_any other xs
any_same test other same [] = refl
any_same test other same (x ∷ xs) = ap₂ (λ (a b : Bool). a || b) (same x) (any_same test other same xs)

object_there : (s : ScriptPart) (id : ℕ) → is_some (object_in (arranged s) id) ≡ is_in (object_ids s.objects) id
object_there s id =
    there (λ (o : ObjectPart). o.id) id (arranged s).objects ∙ any_rising (λ (o : ObjectPart). o.id) (λ (o : ObjectPart). o.id == id) s.objects
    ∙ sym (any_map (λ (m : ℕ). m == id) (λ (o : ObjectPart). o.id) s.objects)

class_there : (s : ScriptPart) (id : ℕ) → is_some (class_in (arranged s) id) ≡ is_in (class_ids s.classes) id
class_there s id =
    there (λ (c : ClassPart). c.id) id (arranged s).classes ∙ any_map (λ (c : ClassPart). c.id == id) class_arranged (rising (λ (c : ClassPart). c.id) s.classes)
    ∙ any_rising (λ (c : ClassPart). c.id) (λ (c : ClassPart). c.id == id) s.classes ∙ sym (any_map (λ (m : ℕ). m == id) (λ (c : ClassPart). c.id) s.classes)

-- ---- a class and its method

abbrev has_method : List MethodPart → ℕ → Bool
has_method methods method = list_any (λ (m : MethodPart). m.id == method) methods

-- whether a class of this id has a method of that id
abbrev is_site : ℕ → ℕ → ClassPart → Bool
is_site class method c = (c.id == class) && has_method c.methods method

abbrev has_site : List ClassPart → ℕ → ℕ → Bool
has_site classes class method = list_any (is_site class method) classes

site_arranged : (class method : ℕ) (c : ClassPart) → is_site class method (class_arranged c) ≡ is_site class method c
site_arranged class method c = ap (λ (r : Bool). (c.id == class) && r) (any_rising (λ (m : MethodPart). m.id) (λ (m : MethodPart). m.id == method) c.methods)

sites_arranged : (s : ScriptPart) (class method : ℕ) → has_site (arranged s).classes class method ≡ has_site s.classes class method
sites_arranged s class method =
    any_map (is_site class method) class_arranged (rising (λ (c : ClassPart). c.id) s.classes)
    ∙ any_same (λ (c : ClassPart). is_site class method (class_arranged c)) (is_site class method) (site_arranged class method) (rising (λ (c : ClassPart). c.id) s.classes)
    ∙ any_rising (λ (c : ClassPart). c.id) (is_site class method) s.classes

some_mapped : {A B : Type 0} (f : A → B) (o : Option A) → is_some (option_map f o) ≡ is_some o
some_mapped f None = refl
some_mapped f (Some x) = refl

-- the site of a class, if the class has the method
abbrev site_of : ℕ → ClassPart → Option Site
site_of method c = option_map (λ (m : MethodPart). record { class = c; method = m }) (method_in c method)

site_of_there : (method : ℕ) (c : ClassPart) → is_some (site_of method c) ≡ has_method c.methods method
site_of_there method c = some_mapped (λ (m : MethodPart). record { class = c; method = m }) (method_in c method) ∙ there (λ (m : MethodPart). m.id) method c.methods

no_site : (class method x : ℕ) → (x == class) ≡ true → (cs : List ClassPart) → AllByRecursion (λ (y : ℕ). (x == y) ≡ false) (map (λ (c : ClassPart). c.id) cs) → has_site cs class method ≡ false
no_site class method x is [] apart = refl
no_site class method x is (c ∷ cs) apart =
    let off : (c.id == class) ≡ false = elim (either (c.id == class)) [ inl k ↦ absurd (false≢true (sym apart.0 ∙ eq-eqb x c.id (eqb-true x class is ∙ sym (eqb-true c.id class k)))) | inr k ↦ k ] in
    rw off (no_site class method x is cs apart.1)

either_left : (a b : Bool) → b ≡ false → (a || b) ≡ true → a ≡ true
either_left true b none h = refl
either_left false b none h = absurd (false≢true (sym none ∙ h))

site_found : (class method : ℕ) (cs : List ClassPart) → IsDistinct (λ (a b : ℕ). a == b) (map (λ (c : ClassPart). c.id) cs) → has_site cs class method ≡ true
    → is_some (option_and_then (site_of method) (with_id (λ (c : ClassPart). c.id) class cs)) ≡ true
unfolding IsDistinct
site_found class method [] distinct h = absurd (false≢true h)
site_found class method (c ∷ cs) distinct h = elim (either (c.id == class)) [
  | inl k ↦ let here = rw k at h in
      rw k (site_of_there method c ∙ either_left (has_method c.methods method) (has_site cs class method) (no_site class method c.id k cs distinct.0) here)
  | inr k ↦ rw k (site_found class method cs distinct.1 (rw k at h))
]

-- ---- what is known of methods

more_methods : (b q r : Bool) (last : ℕ) (o : Option ℕ) → ((b && r) || is_some (if b && q then Some last else o)) ≡ ((b && (q || r)) || is_some o)
more_methods true true true last o = refl
more_methods true true false last o = refl
more_methods true false r last o = refl
more_methods false q r last o = refl

none_more : (b x : Bool) → x ≡ ((b && false) || x)
none_more true x = refl
none_more false x = refl

methods_known : (id : ℕ) (ms : List MethodPart) (lasts : Lasts) (class method : ℕ) → is_some (with_methods id ms lasts class method) ≡ (((id == class) && has_method ms method) || is_some (lasts class method))
methods_known id [] lasts class method = none_more (id == class) (is_some (lasts class method))
methods_known id (m ∷ ms) lasts class method =
    methods_known id ms (with_method id m lasts) class method ∙ more_methods (id == class) (m.id == method) (has_method ms method) m.last (lasts class method)

or_turn : (a b c : Bool) → (a || (b || c)) ≡ ((b || a) || c)
or_turn true true c = refl
or_turn true false c = refl
or_turn false true c = refl
or_turn false false c = refl

classes_known : (cs : List ClassPart) (lasts : Lasts) (class method : ℕ) → is_some (with_classes cs lasts class method) ≡ (has_site cs class method || is_some (lasts class method))
classes_known [] lasts class method = refl
classes_known (c ∷ cs) lasts class method =
    classes_known cs (with_methods c.id c.methods lasts) class method ∙ ap (λ (r : Bool). has_site cs class method || r) (methods_known c.id c.methods lasts class method)
    ∙ or_turn (has_site cs class method) (is_site class method c) (is_some (lasts class method))

or_none : (a : Bool) → (a || false) ≡ a
or_none true = refl
or_none false = refl

-- the class ids of a script as it is arranged
abbrev pub AreApart : ScriptPart → Type 0
AreApart s = IsDistinct (λ (a b : ℕ). a == b) (map (λ (c : ClassPart). c.id) (arranged s).classes)

site_known : (s : ScriptPart) → AreApart s → (class method : ℕ) → is_some ((known_in s).last class method) ≡ true → is_some (site_in (arranged s) class method) ≡ true
site_known s apart class method h =
    site_found class method (arranged s).classes apart (sites_arranged s class method ∙ (sym (or_none (has_site s.classes class method)) ∙ (sym (classes_known s.classes no_methods class method) ∙ h)))

-- ---- steps that can be made

-- whether a thread with so many frames can make a step, but for whom it starts; an `again` is none that is made
abbrev pub CanMake : ScriptPart → ℕ → StepPart → Type 0
CanMake script n (Call c) = (n < 256) × (is_some (site_in script c.class c.method) ≡ true)
CanMake script n (Go i) = 1 ≤ n
CanMake script n (Return v) = 1 ≤ n
CanMake script n (Throwing x) = (1 ≤ n) × (is_some (object_in script x.object.0) ≡ true)
CanMake script n (Prepare c) = is_some (class_in script c) ≡ true
CanMake script n (Start t) = Unit {0}
CanMake script n (Again k) = Unit {0}

-- and all of these, one after the other
abbrev pub CanMakeAll : ScriptPart → ℕ → List StepPart → Type 0
CanMakeAll script n [] = Unit {0}
CanMakeAll script n (step ∷ steps) = CanMake script n step × CanMakeAll script (frames_after n step) steps

pub not_false : (b : Bool) → not b ≡ false → b ≡ true
not_false true h = refl
not_false false h = absurd (false≢true (sym h))

has_newest : (i : ℕ) (frames : List ℕ) → is_past i (newest frames) ≡ false → 1 ≤ length frames
has_newest i [] h = absurd (false≢true (sym h))
has_newest i (f ∷ fs) h = omega arith

some_newest : (frames : List ℕ) → is_some (newest frames) ≡ true → 1 ≤ length frames
some_newest [] h = absurd (false≢true h)
some_newest (f ∷ fs) h = omega arith

-- a step that is not lost, and leaves no more than 256 frames
can_make : (s : ScriptPart) → AreApart s → (frames : List ℕ) (step : StepPart) → step_lost (known_in s) frames step ≡ false → nat_lt 256 (frames_after (length frames) step) ≡ false → CanMake (arranged s) (length frames) step
can_make s apart frames (Call c) lost deep =
    let id = neither (c.frame == 0) _ lost in
    let method = neither (not (is_some ((known_in s).last c.class c.method))) _ id.1 in
    let few = ltb-false 256 (length frames + 1) deep in
    (omega arith, site_known s apart c.class c.method (not_false _ method.0))
can_make s apart frames (Go i) lost deep = has_newest i frames lost
can_make s apart frames (Return v) lost deep = some_newest frames (not_false _ (neither (not (is_some (newest frames))) (literal_lost (known_in s) v) lost).0)
can_make s apart frames (Throwing x) lost deep =
    let frame = neither (not (is_some (newest frames))) _ lost in
    let object = neither (not ((known_in s).object x.object.0)) _ frame.1 in
    (some_newest frames (not_false _ frame.0), object_there s x.object.0 ∙ not_false _ object.0)
can_make s apart frames (Prepare c) lost deep = class_there s c ∙ not_false _ lost
can_make s apart frames (Start t) lost deep = tt
can_make s apart frames (Again k) lost deep = tt

left_length : (k : Known) (frames : List ℕ) (step : StepPart) → length (frames_left k frames step) ≡ frames_after (length frames) step
left_length k frames (Call c) = length-append frames (unwrap_or (k.last c.class c.method) 0 ∷ [])
left_length k frames (Go i) = refl
left_length k frames (Return v) = length-take-le (length frames - 1) frames (omega arith)
left_length k frames (Throwing x) = refl
left_length k frames (Prepare c) = refl
left_length k frames (Start t) = refl
left_length k frames (Again i) = refl

pub can_make_all : (s : ScriptPart) → AreApart s → (frames : List ℕ) (steps : List StepPart) → steps_lost (known_in s) frames steps ≡ false → is_deep (length frames) steps ≡ false → CanMakeAll (arranged s) (length frames) steps
can_make_all s apart frames [] lost deep = tt
can_make_all s apart frames (step ∷ steps) lost deep =
    let l = neither (step_lost (known_in s) frames step) _ lost in
    let d = neither (nat_lt 256 (frames_after (length frames) step)) _ deep in
    let same = left_length (known_in s) frames step in
    (can_make s apart frames step l.0 d.0, rw (← same) (can_make_all s apart (frames_left (known_in s) frames step) steps l.1 (rw same d.1)))
