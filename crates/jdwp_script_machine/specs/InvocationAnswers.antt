-- What an invocation is answered: what the script says that the method returns, and that it throws nothing (JDWP specification, "ClassType",
-- "InterfaceType" and "ObjectReference": InvokeMethod). No thread makes a step for it. Whether the thread may invoke is not the machine's
-- to say, and what it passes on counts for nothing.
use Rattle.std.specs.Prelude.{ℕ, ◌||◌, Bool, true, false, List, [], ◌∷◌, if◌then◌else◌, Option, Some, None}
use Rattle.jdwp_wire.specs.ErrorCodes.{INVALID_OBJECT, NOT_IMPLEMENTED, ILLEGAL_ARGUMENT, INTERNAL}
use Rattle.jdwp_wire.specs.Widths.{Widths}
use Rattle.jdwp_wire.specs.declared.data_fault.DataFault.{DataFault}
use Rattle.jdwp_value.specs.declared.tag.ObjectTag.TheVariants as kind
use Rattle.jdwp_value.specs.declared.value.Value.{Value}
use Rattle.jdwp_value.specs.Values.{object_id}
use Rattle.jdwp_layout.specs.declared.answer.Answer.{Answer}
use Rattle.jdwp_layout.specs.declared.answer.Answer.TheVariants.{Data, Error}
use Rattle.jdwp_layout.specs.CommandNumbers.{is_command, CLASS_INVOKE, INTERFACE_INVOKE, OBJECT_INVOKE}
use Rattle.jdwp_layout.specs.Meanings.{Int, Object, Tagged, Valued, DatumMeaning, One, Many, Raw}
use Rattle.jdwp_layout.specs.Writes.{data_canonical, data_refusal}
use Rattle.jdwp_layout.specs.Invocations.{invocation_reply}
use Rattle.jdwp_script.specs.declared.step.Literal.{Literal}
use Rattle.jdwp_script.specs.Literals.{literal_value}
use Rattle.jdwp_script.specs.Parts.{ClassPart, MethodPart, ScriptPart}
use Rattle.jdwp_script_machine.specs.LookUps.{is_some}
use Rattle.jdwp_script_machine.specs.States.{State}
use Rattle.jdwp_script_machine.specs.Sites.{group_in, object_at, thread_in}
use Rattle.jdwp_script_machine.specs.Requests.{Asks, of_class, of_method_in}
use Rattle.jdwp_script_machine.specs.JdiAnswers.{jdi_answer_at}

-- the data of the reply: what was returned, and no exception
abbrev pub returned_content : Value → List DatumMeaning
returned_content v = One (Valued v) ∷ One (Tagged (object_id kind.Object 0)) ∷ []

-- The row is raw, so it is answered the bytes of these. A value that does not fit its width, which no script has, is an internal fault.
abbrev pub written_as : Widths → List DatumMeaning → Option DataFault → Answer
written_as w content None = Data (Raw (data_canonical w content) ∷ [])
written_as w content (Some fault) = Error INTERNAL

abbrev pub reply_bytes : Widths → List DatumMeaning → Answer
reply_bytes w content = written_as w content (data_refusal w invocation_reply content)

-- a method of which the script does not say what it returns is not invoked
abbrev pub returned : Widths → Option Literal → Answer
returned w None = Error NOT_IMPLEMENTED
returned w (Some literal) = reply_bytes w (returned_content (literal_value literal))

-- arguments and options, and nothing more
abbrev pub are_arguments : List DatumMeaning → Bool
are_arguments (Many arguments ∷ One (Int options) ∷ []) = true
are_arguments content = false

abbrev pub returned_behind : Widths → Option Literal → Asks
returned_behind w returns content = if are_arguments content then returned w returns else Error ILLEGAL_ARGUMENT

abbrev pub returned_answer : Widths → ClassPart → MethodPart → Asks
returned_answer w c m = returned_behind w m.returns

-- the data behind the thread
abbrev pub past_thread : List DatumMeaning → Option (List DatumMeaning)
past_thread (One (Object thread) ∷ rest) = Some rest
past_thread content = None

abbrev pub with_rest : Asks → Option (List DatumMeaning) → Answer
with_rest answer None = Error ILLEGAL_ARGUMENT
with_rest answer (Some rest) = answer rest

-- ClassType.InvokeMethod and InterfaceType.InvokeMethod: a type, a thread, and a method that the type has
abbrev pub method_invoked : Widths → ClassPart → Asks
method_invoked w c content = with_rest (of_method_in (returned_answer w) c) (past_thread content)

abbrev pub type_invoked : ScriptPart → Asks
type_invoked script = of_class script (method_invoked script.sizes)

-- an object, a thread or a group
abbrev pub is_object_in : State → ℕ → Bool
is_object_in s id = is_some (object_at s id) || (is_some (thread_in s.script id) || is_some (group_in s.script id))

-- ObjectReference.InvokeMethod: an object, a thread, and a class with a method that it has
abbrev pub object_invoked : State → Asks
object_invoked s (One (Object id) ∷ rest) =
    if is_object_in s id then with_rest (of_class s.script (of_method_in (returned_answer s.script.sizes))) (past_thread rest) else Error INVALID_OBJECT
object_invoked s content = Error ILLEGAL_ARGUMENT

-- ---- all of it

abbrev pub invoking_answer_at : State → ℕ → ℕ → Asks
invoking_answer_at s set number content =
    if is_command CLASS_INVOKE set number || is_command INTERFACE_INVOKE set number then type_invoked s.script content else (
    if is_command OBJECT_INVOKE set number then object_invoked s content else
    jdi_answer_at s set number content)
