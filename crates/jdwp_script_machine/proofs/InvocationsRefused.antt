-- Proofs that invocations are refused as the script says, and answered what it says.
use Rattle.std.proofs.Common.{◌≡◌, ◌≢◌, ◌||◌, ℕ, ℤ, Bool, true, false, if◌then◌else◌, List, [], ◌∷◌, Option, Some, None, refl, sym, ap, subst, arith}
use Rattle.jdwp_wire.specs.declared.error_code.ErrorCode.{ErrorCode}
use Rattle.jdwp_wire.specs.ErrorCodes.{INVALID_OBJECT, INVALID_CLASS, INVALID_METHODID, NOT_IMPLEMENTED}
use Rattle.jdwp_wire.specs.Widths.{Widths}
use Rattle.jdwp_layout.specs.declared.answer.Answer.TheVariants.{Data, Error}
use Rattle.jdwp_layout.specs.CommandNumbers.{is_command, CLASS_INVOKE, INTERFACE_INVOKE, OBJECT_INVOKE}
use Rattle.jdwp_layout.specs.Meanings.{ScalarMeaning, Raw}
use Rattle.jdwp_layout.specs.Writes.{data_canonical, data_refusal}
use Rattle.jdwp_machine.specs.declared.profile.Profile.TheVariants.{Jdi}
use Rattle.jdwp_layout.specs.Invocations.{invocation_reply}
use Rattle.jdwp_script.specs.declared.step.Literal.{Literal}
use Rattle.jdwp_script.specs.Literals.{literal_value}
use Rattle.jdwp_script.specs.Parts.{ClassPart, MethodPart, ScriptPart}
use Rattle.jdwp_script_machine.specs.States.{State}
use Rattle.jdwp_script_machine.specs.Sites.{class_in, method_in}
use Rattle.jdwp_script_machine.specs.Requests.{found_or}
use Rattle.jdwp_script_machine.specs.InvocationAnswers.{is_object_in, returned, returned_content, written_as}
use Rattle.jdwp_script_machine.specs.InvocationRefusals.{Invokes, OfClass, OfMethod, object_data, type_data}
use Rattle.jdwp_script_machine.specs.ProfileAnswers.{answer_in}
use Rattle.jdwp_script_machine.specs.Sound.{ClassIsSound, IfThere, IsSound, MethodIsSound, ValueFits}
use Rattle.jdwp_script_machine.specs.SoundLaws.{all_found, zero_fits}
use Rattle.jdwp_script_machine.specs.FrameLaws.{command_is}

-- ---- what is named is one

one-class : (script : ScriptPart) (class : ℕ) (c : ClassPart) (P : ClassPart → Type 0) → class_in script class ≡ Some c → OfClass script class P → P c
one-class script class c P is (d, e, p) = subst P (let same : d ≡ c = cc (is, e) in same) p

no-class-there : (script : ScriptPart) (class : ℕ) (P : ClassPart → Type 0) (Q : Type 0) → class_in script class ≡ None → OfClass script class P → Q
no-class-there script class P Q none (c, e, p) = absurd (cc (none, e))

a-class-there : (script : ScriptPart) (class : ℕ) (c : ClassPart) (Q : Type 0) → class_in script class ≡ Some c → class_in script class ≡ None → Q
a-class-there script class c Q is none = absurd (cc (is, none))

abbrev HasMethod : ℕ → (MethodPart → Type 0) → ClassPart → Type 0
HasMethod method P c = (m : MethodPart) × (method_in c method ≡ Some m) × P m

one-method : (script : ScriptPart) (class method : ℕ) (c : ClassPart) (m : MethodPart) (P : MethodPart → Type 0) → class_in script class ≡ Some c → method_in c method ≡ Some m → OfMethod script class method P → P m
one-method script class method c m P is of some =
    let found = one-class script class c (HasMethod method P) is some in
    let n = found.0 in
    let e : method_in c method ≡ Some n = found.1 in
    subst P (let same : n ≡ m = cc (of, e) in same) found.2

no-method-there : (script : ScriptPart) (class method : ℕ) (c : ClassPart) (P : MethodPart → Type 0) (Q : Type 0) → class_in script class ≡ Some c → method_in c method ≡ None → OfMethod script class method P → Q
no-method-there script class method c P Q is none some =
    let found = one-class script class c (HasMethod method P) is some in
    let e : method_in c method ≡ Some found.0 = found.1 in
    absurd (cc (none, e))

-- ---- the five answers

apart : (a b : ErrorCode) (P : Type 0) → a.0 ≢ b.0 → Error a ≡ Error b → P
apart a b P differ e = let same : a ≡ b = cc in absurd (differ (ap (λ (x : ErrorCode). x.0) same))

untrue : (Q : Type 0) → false ≡ true → Q
untrue Q h = absurd cc

unfalse : (Q : Type 0) → true ≡ false → Q
unfalse Q h = absurd cc

no-object : (script : ScriptPart) (class method : ℕ) → Invokes script false class method (Error INVALID_OBJECT)
no-object script class method = record {
  no_object = (λ _. refl, λ _. refl);
  no_class = (λ h. apart INVALID_OBJECT INVALID_CLASS _ (λ n. omega (arith, n)) h, λ h. untrue _ h.0);
  no_method = (λ h. apart INVALID_OBJECT INVALID_METHODID _ (λ n. omega (arith, n)) h, λ h. untrue _ h.0);
  says_nothing = (λ h. apart INVALID_OBJECT NOT_IMPLEMENTED _ (λ n. omega (arith, n)) h, λ h. untrue _ h.0);
  returns = λ literal h some. untrue _ h;
}

no-class : (script : ScriptPart) (class method : ℕ) → class_in script class ≡ None → Invokes script true class method (Error INVALID_CLASS)
no-class script class method none = record {
  no_object = (λ h. apart INVALID_CLASS INVALID_OBJECT _ (λ n. omega (arith, n)) h, λ h. unfalse _ h);
  no_class = (λ _. (refl, none), λ _. refl);
  no_method = (λ h. apart INVALID_CLASS INVALID_METHODID _ (λ n. omega (arith, n)) h, λ h. no-class-there script class _ _ none h.1);
  says_nothing = (λ h. apart INVALID_CLASS NOT_IMPLEMENTED _ (λ n. omega (arith, n)) h, λ h. no-class-there script class _ _ none h.1);
  returns = λ literal _ some. no-class-there script class _ _ none some;
}

no-method : (script : ScriptPart) (class method : ℕ) (c : ClassPart) → class_in script class ≡ Some c → method_in c method ≡ None → Invokes script true class method (Error INVALID_METHODID)
no-method script class method c is none = record {
  no_object = (λ h. apart INVALID_METHODID INVALID_OBJECT _ (λ n. omega (arith, n)) h, λ h. unfalse _ h);
  no_class = (λ h. apart INVALID_METHODID INVALID_CLASS _ (λ n. omega (arith, n)) h, λ h. a-class-there script class c _ is h.1);
  no_method = (λ _. (refl, (c, is, none)), λ _. refl);
  says_nothing = (λ h. apart INVALID_METHODID NOT_IMPLEMENTED _ (λ n. omega (arith, n)) h, λ h. no-method-there script class method c _ _ is none h.1);
  returns = λ literal _ some. no-method-there script class method c _ _ is none some;
}

says-nothing : (script : ScriptPart) (class method : ℕ) (c : ClassPart) (m : MethodPart) → class_in script class ≡ Some c → method_in c method ≡ Some m → m.returns ≡ None → Invokes script true class method (Error NOT_IMPLEMENTED)
says-nothing script class method c m is of nothing = record {
  no_object = (λ h. apart NOT_IMPLEMENTED INVALID_OBJECT _ (λ n. omega (arith, n)) h, λ h. unfalse _ h);
  no_class = (λ h. apart NOT_IMPLEMENTED INVALID_CLASS _ (λ n. omega (arith, n)) h, λ h. a-class-there script class c _ is h.1);
  no_method = (λ h. apart NOT_IMPLEMENTED INVALID_METHODID _ (λ n. omega (arith, n)) h, λ h. let none = one-class script class c (λ d. method_in d method ≡ None) is h.1 in absurd (cc (none, of)));
  says_nothing = (λ _. (refl, (c, is, (m, of, nothing))), λ _. refl);
  returns = λ literal _ some. let says = one-method script class method c m (λ n. n.returns ≡ Some literal) is of some in absurd (cc (says, nothing));
}

says : (script : ScriptPart) (class method : ℕ) (c : ClassPart) (m : MethodPart) (literal : Literal) → class_in script class ≡ Some c → method_in c method ≡ Some m → m.returns ≡ Some literal
    → Invokes script true class method (Data (Raw (data_canonical script.sizes (returned_content (literal_value literal))) ∷ []))
says script class method c m literal is of told = record {
  no_object = (λ h. absurd cc, λ h. unfalse _ h);
  no_class = (λ h. absurd cc, λ h. a-class-there script class c _ is h.1);
  no_method = (λ h. absurd cc, λ h. let none = one-class script class c (λ d. method_in d method ≡ None) is h.1 in absurd (cc (none, of)));
  says_nothing = (λ h. absurd cc, λ h. let nothing = one-method script class method c m (λ n. n.returns ≡ None) is of h.1 in absurd (cc (told, nothing)));
  returns = λ other _ some.
      let too = one-method script class method c m (λ n. n.returns ≡ Some other) is of some in
      let same : literal ≡ other = cc (told, too) in
      ap (λ (x : Literal). Data (Raw (data_canonical script.sizes (returned_content (literal_value x))) ∷ [])) same;
}

-- ---- by what is found

fits-reply : (w : Widths) (literal : Literal) → ValueFits w literal → data_refusal w invocation_reply (returned_content (literal_value literal)) ≡ None
fits-reply w literal fits = rw (fits, zero_fits w.object) refl

by-returns : (script : ScriptPart) (class method : ℕ) (c : ClassPart) (m : MethodPart) (o : Option Literal) → class_in script class ≡ Some c → method_in c method ≡ Some m → m.returns ≡ o → IfThere (ValueFits script.sizes) o
    → Invokes script true class method (returned script.sizes o)
by-returns script class method c m None is of told fits = says-nothing script class method c m is of told
by-returns script class method c m (Some literal) is of told fits =
    subst (λ (f : Option _). Invokes script true class method (written_as script.sizes (returned_content (literal_value literal)) f)) (sym (fits-reply script.sizes literal fits)) (says script class method c m literal is of told)

by-method : (script : ScriptPart) (class method : ℕ) (c : ClassPart) (o : Option MethodPart) → class_in script class ≡ Some c → method_in c method ≡ o → ((m : MethodPart) → o ≡ Some m → MethodIsSound script.sizes m)
    → Invokes script true class method (found_or INVALID_METHODID (λ (m : MethodPart). returned script.sizes m.returns) o)
by-method script class method c None is of sound = no-method script class method c is of
by-method script class method c (Some m) is of sound = by-returns script class method c m m.returns is of refl (sound m refl).returns

by-class : (script : ScriptPart) (class method : ℕ) (o : Option ClassPart) → class_in script class ≡ o → ((c : ClassPart) → o ≡ Some c → ClassIsSound script.sizes c)
    → Invokes script true class method (found_or INVALID_CLASS (λ (c : ClassPart). found_or INVALID_METHODID (λ (m : MethodPart). returned script.sizes m.returns) (method_in c method)) o)
by-class script class method None is sound = no-class script class method is
by-class script class method (Some c) is sound =
    by-method script class method c (method_in c method) is refl
    (λ m h. all_found (λ (m : MethodPart). m.id) (MethodIsSound script.sizes) c.methods method m (sound c refl).each_method h)

class-found : (s : State) → IsSound s → (class method : ℕ)
    → Invokes s.script true class method (found_or INVALID_CLASS (λ (c : ClassPart). found_or INVALID_METHODID (λ (m : MethodPart). returned s.script.sizes m.returns) (method_in c method)) (class_in s.script class))
class-found s sound class method =
    by-class s.script class method (class_in s.script class) refl (λ c h. all_found (λ (c : ClassPart). c.id) (ClassIsSound s.script.sizes) s.script.classes class c sound.script.each_class h)

object-found : (s : State) → IsSound s → (is_there : Bool) (class method : ℕ)
    → Invokes s.script is_there class method (if is_there then found_or INVALID_CLASS (λ (c : ClassPart). found_or INVALID_METHODID (λ (m : MethodPart). returned s.script.sizes m.returns) (method_in c method)) (class_in s.script class) else Error INVALID_OBJECT)
object-found s sound true class method = class-found s sound class method
object-found s sound false class method = no-object s.script class method

-- ---- all of it

either-of : (a b : Bool) (P : Type 0) → (a || b) ≡ true → (a ≡ true → P) → (b ≡ true → P) → P
either-of true b P h p q = p refl
either-of false b P h p q = q h

pub types_invoked : (s : State) (set number class thread method : ℕ) (arguments : List (List ScalarMeaning)) (options : ℤ) → IsSound s → s.profile ≡ Jdi → (is_command CLASS_INVOKE set number || is_command INTERFACE_INVOKE set number) ≡ true
    → Invokes s.script true class method (answer_in s.profile s set number (type_data class thread method arguments options))
types_invoked s set number class thread method arguments options sound jdi of =
    rw jdi (either-of (is_command CLASS_INVOKE set number) (is_command INTERFACE_INVOKE set number) _ of
    (λ k. let is = command_is set number CLASS_INVOKE k in rw (is.0, is.1) (class-found s sound class method))
    (λ k. let is = command_is set number INTERFACE_INVOKE k in rw (is.0, is.1) (class-found s sound class method)))

pub objects_invoked : (s : State) (object thread class method : ℕ) (arguments : List (List ScalarMeaning)) (options : ℤ) → IsSound s → s.profile ≡ Jdi
    → Invokes s.script (is_object_in s object) class method (answer_in s.profile s OBJECT_INVOKE.set OBJECT_INVOKE.number (object_data object thread class method arguments options))
objects_invoked s object thread class method arguments options sound jdi = rw jdi (object-found s sound (is_object_in s object) class method)
