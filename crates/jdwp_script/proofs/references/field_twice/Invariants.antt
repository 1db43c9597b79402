use Rattle.std.proofs.Common.{◌≡◌, drop}
use Rattle.jdwp_script.specs.References.{field_twice}
use Rattle.jdwp_script.proofs.references.field_twice.Given as goal

abbrev pub invariant-loop-place : goal.invariant-loop-place
invariant-loop-place l = field_twice (drop l.place l.fields) ≡ field_twice l.fields
