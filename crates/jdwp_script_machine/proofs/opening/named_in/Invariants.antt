use Rattle.std.proofs.Common.{map, take}
use Rattle.std.specs.List.{list_any}
use Rattle.jdwp_script.specs.Parts.{ThreadPart}
use Rattle.jdwp_script.specs.Meanings.{thread_part}
use Rattle.jdwp_script_machine.specs.Sought.{names}
use Rattle.jdwp_script_machine.specs.Layers.{Holds}
use Rattle.jdwp_script_machine.proofs.opening.named_in.Given as goal

abbrev pub invariant-loop-thread : goal.invariant-loop-thread
invariant-loop-thread l = Holds l.found (λ n. list_any (λ (t : ThreadPart). list_any (names l.sought n) t.steps) (map thread_part (take l.thread-index l.script.threads.items)))
