use Rattle.std.proofs.Common.{◌≡◌, ◌++◌, take, drop, map}
use Rattle.jdwp_script_machine.specs.LookUps.{changed}
use Rattle.jdwp_script_machine.specs.States.{ThreadNow}
use Rattle.jdwp_script_machine.specs.StateMeanings.{thread_now}
use Rattle.jdwp_script_machine.specs.Steps.{gone}
use Rattle.jdwp_script_machine.proofs.steps.end_each.Given as goal

abbrev pub invariant-loop-entry : goal.invariant-loop-entry
invariant-loop-entry l =
    map thread_now (take l.entry-index l.threads) ++ changed (λ (e : ThreadNow). e.id) l.thread.0 gone (map thread_now (drop l.entry-index l.threads)) ≡ changed (λ (e : ThreadNow). e.id) l.thread.0 gone (map thread_now l.fn.threads)
