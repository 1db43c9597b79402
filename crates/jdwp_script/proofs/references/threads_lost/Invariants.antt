use Rattle.std.proofs.Common.{◌≡◌, drop, map}
use Rattle.std.specs.List.{list_any}
use Rattle.jdwp_script.specs.Meanings.{thread_part}
use Rattle.jdwp_script.specs.IdSets.{known_ids}
use Rattle.jdwp_script.specs.References.{thread_lost}
use Rattle.jdwp_script.proofs.references.threads_lost.Given as goal

abbrev pub invariant-loop-thread : goal.invariant-loop-thread
invariant-loop-thread l = list_any (thread_lost (known_ids l.known)) (map thread_part (drop l.thread-index l.threads)) ≡ list_any (thread_lost (known_ids l.known)) (map thread_part l.threads)
