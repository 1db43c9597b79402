-- What went through a client's pipe, beside what its debugger was fed and what was taken from it to leave.
use Rattle.std.specs.Prelude.{◌≡◌, ℕ, Bool, List, ◌++◌}
use Rattle.jdwp_wire.specs.Streams.{IsFront}
use Rattle.jdwp_wire.specs.Limits.{Limits}
use Rattle.jdwp_action.specs.Actions.{Command}
use Rattle.jdwp_end.specs.Story.{Story}
use Rattle.jdwp_debugger.specs.declared.order.Order.{Order}
use Rattle.jdwp_debugger.specs.Debuggers.{Debugger, attached, new_debugger_in}
use Rattle.jdwp_debugger.specs.DebuggerTurns.{Told}
use Rattle.jdwp_client.specs.declared.errors.ClientError.{ClientError}
use Rattle.jdwp_client.specs.Clients.{Client, FailsToSend, IsLimited, Sends, StepFails, Waits, ended}

-- Since the pipe had this story as the session began, the debugger was fed what was read, in order; what was taken from it to leave was written,
-- in order; and before each read all that was written had left. What was taken is a beginning of what the debugger put (`Carries`).
pub record IsExact (start now : Story) (d : Debugger) : Type 0 where
  pub read : now.read ≡ start.read ++ d.end.session.fed
  pub written : now.written ≡ start.written ++ d.end.session.taken
  pub prompt : now.early ≡ start.early

-- The same where a write may have failed: a beginning of what was taken was written.
pub record IsCut (start now : Story) (d : Debugger) : Type 0 where
  pub read : now.read ≡ start.read ++ d.end.session.fed
  pub written : (bytes : List ℕ) × (now.written ≡ start.written ++ bytes) × IsFront bytes d.end.session.taken
  pub prompt : now.early ≡ start.early

-- It is so as a session begins, and each call of a client keeps it: a command that is sent, each step of a wait, the end of the session, a limit of
-- time, and what is handed out, by which neither changes. Behind a call that failed a beginning of what was taken was written, and so it stays where
-- a limit is taken back.
pub record KeepsExact {P : Type 0} (story : P → Story) : Type 0 where
  pub begins : (order : Order) (limits : Limits) (id : ℕ) (pipe : P) → IsExact (story pipe) (story pipe) (attached (new_debugger_in order limits id))
  pub sends : (start : Story) (command : Command) (ticket : ℕ) (old new : Client P) → Sends story command ticket old new
      → IsExact start (story old.pipe) old.debugger → IsExact start (story new.pipe) new.debugger
  pub waits : (start : Story) (is_missing : Client P → Bool) (base new : Client P) (n : ℕ) (told : List Told) → Waits story is_missing base n told new
      → IsExact start (story base.pipe) base.debugger → IsExact start (story new.pipe) new.debugger
  pub ends : (start : Story) (c : Client P) → IsExact start (story c.pipe) c.debugger → IsExact start (story c.pipe) (ended c).debugger
  pub fails : (start : Story) (e : ClientError) (old new : Client P) → StepFails story e old new
      → IsExact start (story old.pipe) old.debugger → IsCut start (story new.pipe) new.debugger
  pub fails_to_send : (start : Story) (command : Command) (e : ClientError) (old new : Client P) → FailsToSend story command old e new
      → IsExact start (story old.pipe) old.debugger → IsCut start (story new.pipe) new.debugger
  pub limits : (start : Story) (old new : Client P) → IsLimited story old new
      → IsExact start (story old.pipe) old.debugger → IsExact start (story new.pipe) new.debugger
  pub limits_behind : (start : Story) (old new : Client P) → IsLimited story old new
      → IsCut start (story old.pipe) old.debugger → IsCut start (story new.pipe) new.debugger
