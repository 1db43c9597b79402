-- How many threads a move of all suspend counts visits: those that it turns, from running to suspended or the other way round.
use Rattle.std.specs.Prelude.{ℕ, ◌+◌, ◌==◌, Bool, true, false, List, [], ◌∷◌, Option, Some, None, if◌then◌else◌}
use Rattle.jdwp_layout.specs.declared.answer.Answer.{Answer}
use Rattle.jdwp_layout.specs.declared.answer.Answer.TheVariants.{Data}
use Rattle.jdwp_event.specs.Composites.{CompositeMeaning, POLICY_ALL}
use Rattle.jdwp_action.specs.Actions
use Rattle.jdwp_action.specs.Actions.{Action}
use Rattle.jdwp_debuggee.specs.Effects.{Effect}
use Rattle.jdwp_debuggee.specs.Settings.{Settings}
use Rattle.jdwp_debuggee.specs.State.{Moment, State, Thread}
use Rattle.jdwp_debuggee.specs.Steps.{handshaken, occurs, start_policy, starts, with_started}
use Rattle.jdwp_machine.specs.Meanings.{Meaning}

-- whether a thread ran before and runs after: 1 where one of them alone holds
abbrev pub turned_one : Bool → Bool → ℕ
turned_one true true = 0
turned_one true false = 1
turned_one false true = 1
turned_one false false = 0

-- How many of these threads ran before and are suspended after, or the other way round. Both lists are of the same threads, in order.
abbrev pub turned : List Thread → List Thread → ℕ
turned [] after = 0
turned (t ∷ before) [] = 0
turned (t ∷ before) (u ∷ after) = turned_one (t.suspend_count == 0) (u.suspend_count == 0) + turned before after

-- the visits after a command of this action that is so answered: a machine Suspend or Resume that is not refused visits the threads
-- that it turns, and all else leaves the visits as they were
abbrev pub visits_by : Action → Answer → List Thread → List Thread → ℕ → ℕ
visits_by Actions.Suspend (Data content) before after visits = turned before after
visits_by Actions.Resume (Data content) before after visits = turned before after
visits_by action answer before after visits = visits

-- the visits after a command of this action with this effect
abbrev pub visits_carried : {S : Type 0} → Moment S → Action → Effect S → ℕ → ℕ
visits_carried now action e visits = visits_by action e.answer now.state.threads e.after.state.threads visits

-- the visits after an event with this policy: policy ALL visits the threads that it turns
abbrev pub visits_at : ℕ → List Thread → List Thread → ℕ → ℕ
visits_at policy before after visits = if policy == POLICY_ALL then turned before after else visits

-- the visits after what is sent, if anything
abbrev pub visits_for : Option CompositeMeaning → List Thread → List Thread → ℕ → ℕ
visits_for None before after visits = visits
visits_for (Some c) before after visits = visits_at c.policy before after visits

-- the visits after a step: a thread that starts in it runs before the event
abbrev pub visits_stepped : {S : Type 0} → Meaning S → Moment S → ℕ → ℕ → ℕ
visits_stepped m now t visits = visits_for (occurs m now t).sends (with_started (starts m now t) now.state).threads (occurs m now t).after.state.threads visits

-- the visits after the first handshake of the target's life
abbrev pub visits_greeted : Settings → State → ℕ → ℕ
visits_greeted settings state visits = visits_at (start_policy settings.start_all) state.threads (handshaken settings state).threads visits
