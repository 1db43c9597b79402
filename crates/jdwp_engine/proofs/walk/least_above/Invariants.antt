use Rattle.std.proofs.Common.{take}
use Rattle.jdwp_machine.specs.Meanings.{numbers}
use Rattle.jdwp_engine.specs.Rounds.{IsNext, id_in}
use Rattle.jdwp_engine.proofs.walk.least_above.Given as goal

-- what was found so far
abbrev pub invariant-loop-thread : goal.invariant-loop-thread
invariant-loop-thread l = IsNext (numbers (take l.thread-index l.threads)) (id_in l.last) (id_in l.found)
