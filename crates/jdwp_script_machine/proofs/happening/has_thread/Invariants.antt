use Rattle.std.proofs.Common.{◌≡◌, ◌==◌, drop, map}
use Rattle.std.specs.List.{list_any}
use Rattle.jdwp_script_machine.specs.States.{ThreadNow}
use Rattle.jdwp_script_machine.specs.StateMeanings.{thread_now}
use Rattle.jdwp_script_machine.proofs.happening.has_thread.Given as goal

abbrev pub invariant-loop-entry : goal.invariant-loop-entry
invariant-loop-entry l =
    list_any (λ (e : ThreadNow). e.id == l.thread.0) (map thread_now (drop l.entry-index l.threads)) ≡ list_any (λ (e : ThreadNow). e.id == l.thread.0) (map thread_now l.threads)
