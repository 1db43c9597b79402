-- Proofs that what invocations are answered is an answer of their rows.
use Rattle.std.proofs.Common.{ℕ, ◌||◌, Bool, true, false, if◌then◌else◌, List, [], ◌∷◌, refl, arith, Option, Some, None, inl, inr}
use Rattle.jdwp_wire.specs.ErrorCodes.{INVALID_OBJECT, NOT_IMPLEMENTED, ILLEGAL_ARGUMENT, INTERNAL}
use Rattle.jdwp_wire.specs.Widths.{Widths}
use Rattle.jdwp_wire.specs.declared.data_fault.DataFault.{DataFault}
use Rattle.jdwp_layout.specs.declared.answer.Answer.{Answer}
use Rattle.jdwp_layout.specs.declared.answer.Answer.TheVariants.{Data, Error}
use Rattle.jdwp_layout.specs.CommandNumbers.{CommandNumber, is_command, CLASS_INVOKE, INTERFACE_INVOKE, OBJECT_INVOKE}
use Rattle.jdwp_layout.specs.Meanings.{Object, DatumMeaning, One, Raw}
use Rattle.jdwp_layout.specs.Writes.{data_canonical, data_refusal}
use Rattle.jdwp_layout.specs.Invocations.{invocation_reply}
use Rattle.jdwp_script.specs.declared.step.Literal.{Literal}
use Rattle.jdwp_script.specs.Literals.{literal_value}
use Rattle.jdwp_script.specs.Parts.{ClassPart, MethodPart}
use Rattle.jdwp_script_machine.specs.States.{State}
use Rattle.jdwp_script_machine.specs.Requests.{Asks, of_class, of_method_in}
use Rattle.jdwp_script_machine.specs.JdiAnswers.{jdi_answer_at}
use Rattle.jdwp_script_machine.specs.InvocationAnswers.{returned_content, written_as, returned, are_arguments, returned_answer, past_thread, with_rest, method_invoked, type_invoked, is_object_in, object_invoked, invoking_answer_at}
use Rattle.jdwp_script_machine.specs.Sound.{ClassIsSound, IsSound}
use Rattle.jdwp_script_machine.specs.StateLaws.{either}
use Rattle.jdwp_script_machine.specs.GoodAnswers.{Good, command_at, error_good, above, class_good, method_in_good, method_good}
use Rattle.jdwp_script_machine.specs.FrameLaws.{command_is}

-- the row is raw: bytes answer it
abbrev TakesBytes : State → CommandNumber → Type 0
TakesBytes s k = (bytes : List ℕ) → Good s k (Data (Raw bytes ∷ []))

class_takes : (s : State) → TakesBytes s CLASS_INVOKE
unfolding Good
class_takes s bytes = refl

interface_takes : (s : State) → TakesBytes s INTERFACE_INVOKE
unfolding Good
interface_takes s bytes = refl

object_takes : (s : State) → TakesBytes s OBJECT_INVOKE
unfolding Good
object_takes s bytes = refl

illegal : (s : State) (k : CommandNumber) → Good s k (Error ILLEGAL_ARGUMENT)
illegal s k = error_good s k ILLEGAL_ARGUMENT (above ILLEGAL_ARGUMENT (omega arith) (omega arith))

written_good : (s : State) (k : CommandNumber) → TakesBytes s k → (w : Widths) (content : List DatumMeaning) (fault : Option DataFault) → Good s k (written_as w content fault)
written_good s k takes w content None = takes (data_canonical w content)
written_good s k takes w content (Some f) = error_good s k INTERNAL (above INTERNAL (omega arith) (omega arith))

returned_good : (s : State) (k : CommandNumber) → TakesBytes s k → (w : Widths) (returns : Option Literal) → Good s k (returned w returns)
returned_good s k takes w None = error_good s k NOT_IMPLEMENTED (above NOT_IMPLEMENTED (omega arith) (omega arith))
returned_good s k takes w (Some literal) =
    written_good s k takes w (returned_content (literal_value literal)) (data_refusal w invocation_reply (returned_content (literal_value literal)))

answer_good : (s : State) (k : CommandNumber) → TakesBytes s k → (w : Widths) (c : ClassPart) (m : MethodPart) (content : List DatumMeaning) → Good s k (returned_answer w c m content)
answer_good s k takes w c m content =
    elim (are_arguments content) as (λ (b : Bool). Good s k (if b then returned w m.returns else Error ILLEGAL_ARGUMENT)) [ true ↦ returned_good s k takes w m.returns | false ↦ illegal s k ]

rest_good : (s : State) (k : CommandNumber) (answer : Asks) → ((rest : List DatumMeaning) → Good s k (answer rest)) → (o : Option (List DatumMeaning)) → Good s k (with_rest answer o)
rest_good s k answer good None = illegal s k
rest_good s k answer good (Some rest) = good rest

invoked_good : (s : State) (k : CommandNumber) → TakesBytes s k → (w : Widths) (c : ClassPart) → ClassIsSound s.script.sizes c → (content : List DatumMeaning) → Good s k (method_invoked w c content)
invoked_good s k takes w c sound content =
    rest_good s k (of_method_in (returned_answer w) c) (λ rest. method_in_good s k (returned_answer w) (λ c m h rest. answer_good s k takes w c m rest) c sound rest) (past_thread content)

type_good : (s : State) → IsSound s → (k : CommandNumber) → TakesBytes s k → (content : List DatumMeaning) → Good s k (type_invoked s.script content)
type_good s sound k takes content =
    class_good s k sound (method_invoked s.script.sizes) (λ c h rest. invoked_good s k takes s.script.sizes c h rest) content

object_good_if : (s : State) → IsSound s → (b : Bool) (o : Option (List DatumMeaning))
    → Good s OBJECT_INVOKE (if b then with_rest (of_class s.script (of_method_in (returned_answer s.script.sizes))) o else Error INVALID_OBJECT)
object_good_if s sound true o =
    rest_good s OBJECT_INVOKE (of_class s.script (of_method_in (returned_answer s.script.sizes)))
    (λ rest. method_good s OBJECT_INVOKE sound (returned_answer s.script.sizes) (λ c m h rest. answer_good s OBJECT_INVOKE (object_takes s) s.script.sizes c m rest) rest) o
object_good_if s sound false o = error_good s OBJECT_INVOKE INVALID_OBJECT (above INVALID_OBJECT (omega arith) (omega arith))

object_good : (s : State) → IsSound s → (content : List DatumMeaning) → Good s OBJECT_INVOKE (object_invoked s content)
object_good s sound (One (Object id) ∷ rest) = object_good_if s sound (is_object_in s id) (past_thread rest)
object_good s sound content = illegal s OBJECT_INVOKE

-- ---- all of it

at_class : (s : State) (set number : ℕ) (a b : Answer) → Good s CLASS_INVOKE a → Good s INTERFACE_INVOKE a → Good s (command_at set number) b
    → Good s (command_at set number) (if is_command CLASS_INVOKE set number || is_command INTERFACE_INVOKE set number then a else b)
unfolding Good
at_class s set number a b class interface there = elim (either (is_command CLASS_INVOKE set number)) [
  | inl h ↦ let is = command_is set number CLASS_INVOKE h in rw (is.0, is.1) class
  | inr h ↦ elim (either (is_command INTERFACE_INVOKE set number)) [
    | inl k ↦ let is = command_is set number INTERFACE_INVOKE k in rw (is.0, is.1) interface
    | inr k ↦ rw (h, k) there
  ]
]

at_object : (s : State) (set number : ℕ) (a b : Answer) → Good s OBJECT_INVOKE a → Good s (command_at set number) b → Good s (command_at set number) (if is_command OBJECT_INVOKE set number then a else b)
unfolding Good
at_object s set number a b here there = elim (either (is_command OBJECT_INVOKE set number)) [
  | inl h ↦ let is = command_is set number OBJECT_INVOKE h in rw (is.0, is.1) here
  | inr h ↦ rw h there
]

pub invoking_good : (s : State) → IsSound s → (set number : ℕ) (content : List DatumMeaning) → Good s (command_at set number) (jdi_answer_at s set number content)
    → Good s (command_at set number) (invoking_answer_at s set number content)
invoking_good s sound set number content otherwise =
    at_class s set number _ _ (type_good s sound CLASS_INVOKE (class_takes s) content) (type_good s sound INTERFACE_INVOKE (interface_takes s) content) (
    at_object s set number _ _ (object_good s sound content) otherwise)
