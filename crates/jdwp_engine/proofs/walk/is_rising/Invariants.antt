use Rattle.std.proofs.Common.{drop}
use Rattle.jdwp_machine.specs.Meanings.{numbers}
use Rattle.jdwp_engine.specs.Rounds.{AreRising, id_in}
use Rattle.jdwp_engine.proofs.walk.is_rising.Given as goal

-- all rise where those that are left do
abbrev pub invariant-loop-thread : goal.invariant-loop-thread
invariant-loop-thread l = AreRising (id_in l.before) (numbers (drop l.thread-index l.threads)) → AreRising (id_in l.fn.last) (numbers l.threads)
