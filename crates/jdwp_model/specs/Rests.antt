-- What all that is said of a session rests on: that the machine keeps the laws of machines, and what laws of the debuggee say of commands
-- and steps.
use Rattle.std.specs.Prelude.{◌≡◌, ◌≤◌, ℕ, true, List, Some}
use Rattle.jdwp_layout.specs.Meanings.{ScalarMeaning}
use Rattle.jdwp_event.specs.Composites.{CompositeMeaning, POLICY_ALL}
use Rattle.jdwp_event.specs.Requests.{all_asked}
use Rattle.jdwp_machine.specs.Laws.{IsLawful}
use Rattle.jdwp_machine.specs.Meanings.{Meaning}
use Rattle.jdwp_debuggee.specs.Settings.{Settings}
use Rattle.jdwp_debuggee.specs.State.{Moment}
use Rattle.jdwp_action.specs.Actions.{Command, action_of, IdSizes, SetRequest}
use Rattle.jdwp_action.specs.AnswerPackets.{sizes_answer}
use Rattle.jdwp_debuggee.specs.Breadth.{keeps_machine}
use Rattle.jdwp_debuggee.specs.Effects.{effect}
use Rattle.jdwp_debuggee.specs.Facts.{Facts, is_data}
use Rattle.jdwp_debuggee.specs.Reports.{HavePolicies, IsReport}
use Rattle.jdwp_debuggee.specs.Running.{Runs}
use Rattle.jdwp_debuggee.specs.Steps.{may_step, occurs}

-- Each field but the first is the law of the debuggee that stands above it.
pub record Rests {S : Type 0} (m : Meaning S) : Type 0 where
  pub lawful : IsLawful m
  -- moves_counts_and_requests
  pub facts : (settings : Settings) → Facts m settings
  -- changes_machine_at_exit_slots_and_strings
  pub machine : (settings : Settings) (now : Moment S) (c : Command) → keeps_machine c ≡ true → (effect m settings now c).after.machine ≡ now.machine
  -- answers_id_sizes
  pub sizes : (settings : Settings) (now : Moment S) (c : Command) → action_of c ≡ IdSizes → (effect m settings now c).answer ≡ sizes_answer (m.sizes now.machine)
  -- accepts_the_three_policies
  pub policies : (settings : Settings) (now : Moment S) (c : Command) (kind policy : ℕ) (entries : List (List ScalarMeaning))
      → action_of c ≡ SetRequest kind policy entries → is_data (effect m settings now c).answer ≡ true → policy ≤ POLICY_ALL
  -- reports_one_thread
  pub reports : (now : Moment S) (t : ℕ) (c : CompositeMeaning) → HavePolicies (all_asked now.state.requests) → (occurs m now t).sends ≡ Some c → IsReport c
  -- steps_where_it_runs
  pub runs : (settings : Settings) (now : Moment S) (t : ℕ) → may_step m settings now t ≡ true → Runs settings now.state t
