use Rattle.std.proofs.Common.{take}
use Rattle.jdwp_machine.specs.Meanings.{numbers}
use Rattle.jdwp_engine.specs.Rounds.{AreBelow, id_in}
use Rattle.jdwp_engine.proofs.walk.passed.Given as goal

-- none so far is above the last
abbrev pub invariant-loop-place : goal.invariant-loop-place
invariant-loop-place l = AreBelow (id_in l.last) (numbers (take l.place l.threads))
