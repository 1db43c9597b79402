use Rattle.std.proofs.Common.{◌≡◌, drop}
use Rattle.jdwp_script.specs.References.{slot_twice}
use Rattle.jdwp_script.proofs.references.slot_twice.Given as goal

abbrev pub invariant-loop-place : goal.invariant-loop-place
invariant-loop-place l = slot_twice (drop l.place l.slots) ≡ slot_twice l.slots
