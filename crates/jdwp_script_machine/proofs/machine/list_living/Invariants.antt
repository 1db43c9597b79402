use Rattle.std.proofs.Common.{◌≡◌, ◌≤◌, ◌++◌, map, take, drop}
use Rattle.jdwp_machine.specs.Meanings.{numbers}
use Rattle.jdwp_script_machine.specs.States.{living}
use Rattle.jdwp_script_machine.specs.StateMeanings.{thread_now}
use Rattle.jdwp_script_machine.proofs.machine.list_living.Given as goal

abbrev pub invariant-loop-entry : goal.invariant-loop-entry
invariant-loop-entry l = record {
  few : l.count ≤ l.entry-index;
  value : numbers (take l.count l.places) ++ living (map thread_now (drop l.entry-index l.threads)) ≡ living (map thread_now l.threads);
}
