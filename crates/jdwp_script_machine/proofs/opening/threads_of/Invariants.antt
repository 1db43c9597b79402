use Rattle.std.proofs.Common.{◌≡◌, map, take}
use Rattle.jdwp_script.specs.Meanings.{thread_part, script_part}
use Rattle.jdwp_script_machine.specs.States.{opening_thread}
use Rattle.jdwp_script_machine.specs.StateMeanings.{thread_now}
use Rattle.jdwp_script_machine.proofs.opening.threads_of.Given as goal

abbrev pub invariant-loop-thread : goal.invariant-loop-thread
invariant-loop-thread l = map thread_now l.threads.items ≡ map (opening_thread (script_part l.script)) (map thread_part (take l.thread-index l.script.threads.items))
