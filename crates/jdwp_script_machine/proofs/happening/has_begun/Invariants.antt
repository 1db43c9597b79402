use Rattle.std.proofs.Common.{◌≡◌, drop, map}
use Rattle.jdwp_script_machine.specs.States.{begun}
use Rattle.jdwp_script_machine.specs.StateMeanings.{thread_now}
use Rattle.jdwp_script_machine.proofs.happening.has_begun.Given as goal

abbrev pub invariant-loop-entry : goal.invariant-loop-entry
invariant-loop-entry l = begun (map thread_now (drop l.entry-index l.threads)) l.thread.0 ≡ begun (map thread_now l.threads) l.thread.0
