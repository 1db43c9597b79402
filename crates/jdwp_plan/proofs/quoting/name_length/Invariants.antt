use Rattle.std.proofs.Common.{◌≡◌, ◌+◌, drop}
use Rattle.jdwp_plan.specs.Names as names
use Rattle.jdwp_plan.proofs.quoting.name_length.Given as goal

abbrev pub invariant-loop-index : goal.invariant-loop-index
invariant-loop-index l = names.name_length (drop l.index l.text) + l.index ≡ names.name_length l.text
