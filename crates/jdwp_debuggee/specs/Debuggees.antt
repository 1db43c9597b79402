-- A debuggee: what it is made with, its moment, and the visits; and what the code keeps of it.
use Rattle.std.specs.Prelude.{◌≡◌, ◌≤◌, ◌+◌, ℕ, false, length, Some}
use Rattle.jdwp_wire.specs.Limits.{Limits, IsCount, composite_limit, least_packet_limit}
use Rattle.jdwp_wire.specs.Numbers.{greatest_int}
use Rattle.jdwp_layout.specs.declared.answer.Answer.{Answer}
use Rattle.jdwp_machine.specs.Meanings.{Meaning}
use Rattle.jdwp_machine.specs.Laws.{AreDistinct}
use Rattle.jdwp_action.specs.Actions.{Action, Command}
use Rattle.jdwp_debuggee.specs.Effects.{carried}
use Rattle.jdwp_debuggee.specs.Facts.{IsSound}
use Rattle.jdwp_debuggee.specs.Settings.{Settings, IsCountLimit}
use Rattle.jdwp_debuggee.specs.State.{State, Moment, count_of, ids}
use Rattle.jdwp_debuggee.specs.Visits.{visits_carried}

-- The settings; the moment; and how many threads the last move of all suspend counts visited, 0 before the first.
pub record Debuggee (S : Type 0) : Type 0 where
  pub settings : Settings
  pub moment : Moment S
  pub visits : ℕ

-- the same debuggee at another moment; with another state; with other visits
abbrev pub at_moment : {S : Type 0} → Moment S → Debuggee S → Debuggee S
at_moment moment d = record { settings = d.settings; moment = moment; visits = d.visits }

abbrev pub with_state : {S : Type 0} → State → Debuggee S → Debuggee S
with_state state d = at_moment (record { state = state; machine = d.moment.machine }) d

abbrev pub visiting : {S : Type 0} → ℕ → Debuggee S → Debuggee S
visiting visits d = record { settings = d.settings; moment = d.moment; visits = visits }

-- Limits by which a composite event of one event for each request fits a packet.
pub record AreRoomy (limits : Limits) : Type 0 where
  pub packet : least_packet_limit ≤ limits.packet
  pub requests : IsCount limits.requests
  pub composite : composite_limit limits.requests ≤ limits.packet

-- What holds of every debuggee: its moment is sound, no thread stands twice, every suspend count is 0 before the first handshake, and
-- there are no more requests than there may be.
pub record IsKept {S : Type 0} (m : Meaning S) (d : Debuggee S) : Type 0 where
  pub sound : IsSound m d.settings d.moment
  pub distinct : AreDistinct (ids d.moment.state.threads)
  pub quiet : d.moment.state.handshaken ≡ false → (t n : ℕ) → count_of d.moment.state t ≡ Some n → n ≡ 0
  pub limit : IsCountLimit d.settings.count_limit
  pub next : d.moment.state.next_request ≤ greatest_int + 1
  pub limits : AreRoomy d.settings.limits
  pub room : length d.moment.state.requests ≤ d.settings.limits.requests

-- a command of this action was carried out: what became of the debuggee, and what is answered
pub record CarriesOut {S : Type 0} (m : Meaning S) (action : Action) (old new : Debuggee S) (answer : Answer) : Type 0 where
  pub after : (c : Command) → new ≡ visiting (visits_carried old.moment action (carried m old.settings old.moment c action) old.visits)
      (at_moment (carried m old.settings old.moment c action).after old)
  pub answers : (c : Command) → answer ≡ (carried m old.settings old.moment c action).answer
