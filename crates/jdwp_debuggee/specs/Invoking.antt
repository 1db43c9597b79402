-- What an invocation of a method is answered (JDWP specification, "ClassType", "InterfaceType" and "ObjectReference": InvokeMethod): by a
-- thread that an event stopped what the machine says, at once. No thread makes a step, and no suspend count moves.
use Rattle.std.specs.Prelude.{ℕ, List, [], ◌∷◌, Option, Some, None, unwrap_or, Result, Ok, Err, if◌then◌else◌}
use Rattle.jdwp_wire.specs.ErrorCodes.{INVALID_THREAD, THREAD_NOT_SUSPENDED, ILLEGAL_ARGUMENT}
use Rattle.jdwp_wire.specs.Widths.{Widths}
use Rattle.jdwp_wire.specs.declared.data_fault.DataFault.{DataFault}
use Rattle.jdwp_layout.specs.declared.answer.Answer.{Answer}
use Rattle.jdwp_layout.specs.declared.answer.Answer.TheVariants.{Error}
use Rattle.jdwp_layout.specs.Meanings.{Object, DatumMeaning, One, raw_bytes}
use Rattle.jdwp_layout.specs.Reads.{data_at}
use Rattle.jdwp_layout.specs.Shapes.{ItemShape}
use Rattle.jdwp_machine.specs.declared.query.Query.{Query}
use Rattle.jdwp_machine.specs.Meanings.{Meaning, has}
use Rattle.jdwp_debuggee.specs.Answers.{bounded}
use Rattle.jdwp_debuggee.specs.Settings.{Settings}
use Rattle.jdwp_debuggee.specs.State.{Moment, count_of}

-- the data that the bytes of an invocation are, in the layout of its request
abbrev pub data_in : Widths → List ItemShape → List DatumMeaning → Result (List DatumMeaning) DataFault
data_in w shapes content = data_at w shapes (unwrap_or (raw_bytes content) [])

-- data that do not read
abbrev pub DoesNotRead : Result (List DatumMeaning) DataFault → Type 0
DoesNotRead (Ok content) = ⊥
DoesNotRead (Err fault) = Unit {0}

-- the same question with these data
abbrev pub with_data : Query → List DatumMeaning → Query
with_data q content = record { set = q.set; number = q.number; content = content }

-- the thread that is to invoke, which stands second
abbrev pub invoking_thread : List DatumMeaning → Option ℕ
invoking_thread (x ∷ One (Object t) ∷ rest) = Some t
invoking_thread content = None

-- by a thread and its count
abbrev pub invoked_at : {S : Type 0} → Meaning S → Settings → Moment S → Query → ℕ → Option ℕ → Answer
invoked_at m settings now q t None = Error INVALID_THREAD
invoked_at m settings now q t (Some count) =
    if has now.state.stopped t then bounded settings (m.sizes now.machine) (m.query now.machine q) else Error THREAD_NOT_SUSPENDED

abbrev pub invoked_by : {S : Type 0} → Meaning S → Settings → Moment S → Query → Option ℕ → Answer
invoked_by m settings now q None = Error ILLEGAL_ARGUMENT
invoked_by m settings now q (Some t) = invoked_at m settings now q t (count_of now.state t)

-- data that do not read are refused
abbrev pub invoked : {S : Type 0} → Meaning S → Settings → Moment S → Query → Result (List DatumMeaning) DataFault → Answer
invoked m settings now q (Ok content) = invoked_by m settings now (with_data q content) (invoking_thread content)
invoked m settings now q (Err fault) = Error ILLEGAL_ARGUMENT

-- a question for the machine, which is an invocation where its request has a layout
abbrev pub answer_asked : {S : Type 0} → Meaning S → Settings → Moment S → Query → Option (List ItemShape) → Answer
answer_asked m settings now q None = bounded settings (m.sizes now.machine) (m.query now.machine q)
answer_asked m settings now q (Some shapes) = invoked m settings now q (data_in (m.sizes now.machine) shapes q.content)
