-- What holds of every invocation of a method: nothing changes by it, and when it is refused with which error, both ways.
use Rattle.std.specs.Prelude.{◌≡◌, ◌⊎◌, ◌↔◌, ℕ, true, false, List, Option, Some, None, is_some, Result, Ok, Err}
use Rattle.jdwp_wire.specs.declared.error_code.ErrorCode.{ErrorCode}
use Rattle.jdwp_wire.specs.ErrorCodes.{INVALID_THREAD, THREAD_NOT_SUSPENDED, ILLEGAL_ARGUMENT}
use Rattle.jdwp_wire.specs.declared.data_fault.DataFault.{DataFault}
use Rattle.jdwp_layout.specs.declared.answer.Answer.{Answer}
use Rattle.jdwp_layout.specs.declared.answer.Answer.TheVariants.{Error}
use Rattle.jdwp_layout.specs.Meanings.{DatumMeaning}
use Rattle.jdwp_machine.specs.declared.query.Query.{Query}
use Rattle.jdwp_machine.specs.Meanings.{Meaning, has}
use Rattle.jdwp_action.specs.AnswerPackets.{error_of}
use Rattle.jdwp_debuggee.specs.Answers.{bounded}
use Rattle.jdwp_debuggee.specs.Effects.{Effect}
use Rattle.jdwp_debuggee.specs.Invoking.{DoesNotRead, invoking_thread, with_data}
use Rattle.jdwp_debuggee.specs.Settings.{Settings}
use Rattle.jdwp_debuggee.specs.State.{Moment, State, count_of}

-- ---- who is to invoke

-- the thread that is to invoke, where the data read
abbrev pub invoker : Result (List DatumMeaning) DataFault → Option ℕ
invoker (Ok content) = invoking_thread content
invoker (Err fault) = None

-- the data read, and this holds of their thread
abbrev pub IsBy : Result (List DatumMeaning) DataFault → (ℕ → Type 0) → Type 0
IsBy found P = (t : ℕ) × (invoker found ≡ Some t) × P t

-- A thread is not alive; or it lives, and no event stopped it; or it lives, and an event stopped it.
abbrev pub IsGone : State → ℕ → Type 0
IsGone state t = count_of state t ≡ None

abbrev pub IsUnstopped : State → ℕ → Type 0
IsUnstopped state t = (is_some (count_of state t) ≡ true) × (has state.stopped t ≡ false)

abbrev pub IsStopped : State → ℕ → Type 0
IsStopped state t = (is_some (count_of state t) ≡ true) × (has state.stopped t ≡ true)

-- ---- refusals

-- what the machine says of an invocation whose data read
abbrev pub MachineSays : {S : Type 0} → Meaning S → S → Query → Result (List DatumMeaning) DataFault → Answer → Type 0
MachineSays m s q (Ok content) answer = m.query s (with_data q content) ≡ answer
MachineSays m s q (Err fault) answer = ⊥

-- An invocation is refused with ILLEGAL_ARGUMENT exactly where its data do not read, or the machine says so of one by a thread that an event
-- stopped; with INVALID_THREAD exactly where its thread is not alive; and with THREAD_NOT_SUSPENDED exactly where the thread lives and no
-- event stopped it.
pub record IsRefused {S : Type 0} (m : Meaning S) (now : Moment S) (q : Query) (found : Result (List DatumMeaning) DataFault) (error : ErrorCode) : Type 0 where
  pub unread : (error ≡ ILLEGAL_ARGUMENT) ↔ (DoesNotRead found ⊎ (IsBy found (IsStopped now.state) × MachineSays m now.machine q found (Error ILLEGAL_ARGUMENT)))
  pub gone : (error ≡ INVALID_THREAD) ↔ IsBy found (IsGone now.state)
  pub unstopped : (error ≡ THREAD_NOT_SUSPENDED) ↔ IsBy found (IsUnstopped now.state)

-- ---- all of it

-- An invocation moves no suspend count and no thread makes a step for it: the moment stays, the machine does not die, and the session goes
-- on. By a thread that an event stopped it is answered what the machine says, where that is not longer than a packet.
pub record Invokes {S : Type 0} (m : Meaning S) (settings : Settings) (now : Moment S) (q : Query) (found : Result (List DatumMeaning) DataFault) (e : Effect S) : Type 0 where
  pub stays : e.after ≡ now
  pub lives : e.dies ≡ false
  pub goes_on : e.closes ≡ false
  pub refused : IsRefused m now q found (error_of e.answer)
  pub answered : (content : List DatumMeaning) → found ≡ Ok content → IsBy found (IsStopped now.state)
      → e.answer ≡ bounded settings (m.sizes now.machine) (m.query now.machine (with_data q content))
