-- Where a thread runs: what is so wherever it may make a step.
use Rattle.std.specs.Prelude.{◌≡◌, ◌≢◌, ℕ, true, false, Some}
use Rattle.jdwp_debuggee.specs.Settings.{Settings}
use Rattle.jdwp_debuggee.specs.State.{State, count_of}

-- The first handshake was completed, the machine is alive, events are not held, the thread lives and is not suspended, and no thread
-- stands at the count limit.
pub record Runs (settings : Settings) (state : State) (t : ℕ) : Type 0 where
  pub greeted : state.handshaken ≡ true
  pub alive : state.alive ≡ true
  pub not_held : state.held ≡ false
  pub count : count_of state t ≡ Some 0
  pub none_at_limit : (u : ℕ) → count_of state u ≢ Some settings.count_limit
