-- Tickets that were given: they rise from 1, and none is given twice.
use Rattle.std.specs.Prelude.{◌≡◌, ℕ, ◌≤◌, ◌<◌, Bool, true, List, [], Option, Some, None}
use Rattle.std.specs.List.{AllByRecursion}
use Rattle.jdwp_action.specs.Actions.{Command}
use Rattle.jdwp_layout.specs.declared.answer.Answer.{Answer}
use Rattle.jdwp_end.specs.Story.{Story}
use Rattle.jdwp_debugger.specs.declared.pending.Ticket.{Ticket}
use Rattle.jdwp_debugger.specs.Debuggers.{Asked}
use Rattle.jdwp_debugger.specs.DebuggerTurns.{Told}
use Rattle.jdwp_client.specs.declared.errors.ClientError.{ClientError}
use Rattle.jdwp_client.specs.Clients.{Client, FailsToSend, IsLimited, Sends, StepFails, Waits, ended, lacks_answer, with_answers}
use Rattle.jdwp_client.specs.Keeping.{HandsOut, is_under}

-- where so many tickets were given, this is one of them, or none
abbrev pub IsGiven : ℕ → Option Ticket → Type 0
IsGiven tickets None = Unit {0}
IsGiven tickets (Some ticket) = ticket.0 ≤ tickets

-- Each answer that is kept, and each command that waits for its answer, is under a ticket that was given.
pub record AreGiven {P : Type 0} (c : Client P) : Type 0 where
  pub answers : AllByRecursion (λ (kept : Ticket × Answer). kept.0.0 ≤ c.debugger.tickets) c.answers
  pub waiting : AllByRecursion (λ (p : Asked). IsGiven c.debugger.tickets p.ticket) c.debugger.pending

-- It is so as a session begins, and each call of a client keeps it, also one that fails. So the answer that `ask` gives was told behind the
-- command that it sent: none is kept under a ticket that was not given yet.
pub record KeepsGiven {P : Type 0} (story : P → Story) : Type 0 where
  pub begins : (c : Client P) → c.answers ≡ [] → c.debugger.pending ≡ [] → AreGiven c
  pub sends : (command : Command) (ticket : ℕ) (old new : Client P) → Sends story command ticket old new → AreGiven old → AreGiven new
  pub waits : (is_missing : Client P → Bool) (base new : Client P) (n : ℕ) (told : List Told) → Waits story is_missing base n told new
      → AreGiven base → AreGiven new
  pub gives : (c : Client P) (ticket : ℕ) (answer : Ticket × Answer) (answers : List (Ticket × Answer)) → HandsOut (is_under ticket) c.answers answer answers
      → AreGiven c → AreGiven (with_answers answers c)
  pub ends : (c : Client P) → AreGiven c → AreGiven (ended c)
  pub fails : (e : ClientError) (old new : Client P) → StepFails story e old new → AreGiven old → AreGiven new
  pub fails_to_send : (command : Command) (e : ClientError) (old new : Client P) → FailsToSend story command old e new → AreGiven old → AreGiven new
  pub limits : (old new : Client P) → IsLimited story old new → AreGiven old → AreGiven new
  pub fresh : (c : Client P) (ticket : ℕ) → AreGiven c → c.debugger.tickets < ticket → lacks_answer ticket c ≡ true
