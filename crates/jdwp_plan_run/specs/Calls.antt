-- Calls of a client, within the limit of time that a plan sets, where it sets one.
use Rattle.std.specs.Prelude.{ℕ, Option, Some, None}
use Rattle.jdwp_end.specs.Story.{Story}
use Rattle.jdwp_client.specs.declared.errors.Awaited.{Awaited}
use Rattle.jdwp_client.specs.declared.errors.ClientError.{ClientError}
use Rattle.jdwp_client.specs.Clients.{Client, FailsWithin, Within}

-- a call did this
abbrev pub Calls : {P : Type 0} → (P → Story) → Option ℕ → (Client P → Client P → Type 0) → Client P → Client P → Type 0
Calls story None Does old new = Does old new
Calls story (Some milliseconds) Does old new = Within story Does old new

-- a call failed so
abbrev pub FailsCall : {P : Type 0} → (P → Story) → Option ℕ → Awaited → (Client P → ClientError → Client P → Type 0) → Client P → ClientError → Client P → Type 0
FailsCall story None awaited Fails old e new = Fails old e new
FailsCall story (Some milliseconds) awaited Fails old e new = FailsWithin story awaited Fails old e new
