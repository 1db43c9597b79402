use Rattle.std.proofs.Common.{◌≡◌, ◌++◌, map, take, drop}
use Rattle.jdwp_script_machine.specs.StateMeanings.{thread_now}
use Rattle.jdwp_script_machine.specs.Changes.{thread_changed}
use Rattle.jdwp_script_machine.proofs.slots.write_threads.Given as goal

abbrev pub invariant-loop-thread : goal.invariant-loop-thread
invariant-loop-thread l = map thread_now (take l.thread-index l.threads) ++ map (thread_changed l.id.0 l.frame.0 l.values) (map thread_now (drop l.thread-index l.threads)) ≡ map (thread_changed l.id.0 l.frame.0 l.values) (map thread_now l.fn.threads)
