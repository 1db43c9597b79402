use Rattle.std.proofs.Common.{◌≡◌, ◌++◌, take, drop, map}
use Rattle.jdwp_script.specs.Meanings.{step_part}
use Rattle.jdwp_script_machine.specs.LookUps.{first_changed}
use Rattle.jdwp_script_machine.specs.States.{ThreadNow}
use Rattle.jdwp_script_machine.specs.StateMeanings.{thread_now}
use Rattle.jdwp_script_machine.specs.Steps.{after_step}
use Rattle.jdwp_script_machine.proofs.steps.advance.Given as goal

abbrev pub invariant-loop-entry : goal.invariant-loop-entry
invariant-loop-entry l = record {
  same : l.threads ≡ l.fn.threads;
  first : map thread_now (take l.entry-index l.threads) ++ first_changed (λ (e : ThreadNow). e.id) l.thread.0 (after_step l.place (step_part l.step)) (map thread_now (drop l.entry-index l.threads))
      ≡ first_changed (λ (e : ThreadNow). e.id) l.thread.0 (after_step l.place (step_part l.step)) (map thread_now l.fn.threads);
}
