-- What happened at one end in a session, as histories that take no memory.
use Rattle.std.specs.Prelude.{ℕ, Bool, false, List, []}

-- The bytes that were fed, those of the messages handled, those enqueued to leave and those taken; how many messages were handled; and
-- whether the end noticed a loss.
pub record Session : Type 0 where
  pub fed : List ℕ
  pub handled : List ℕ
  pub enqueued : List ℕ
  pub taken : List ℕ
  pub turns : ℕ
  pub lost : Bool

abbrev pub new_session : Session
new_session = record { fed = []; handled = []; enqueued = []; taken = []; turns = 0; lost = false }
