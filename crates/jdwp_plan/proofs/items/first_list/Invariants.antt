use Rattle.std.proofs.Common.{◌≡◌, drop}
use Rattle.jdwp_layout.specs.Meanings.{meanings}
use Rattle.jdwp_plan.specs.Items as paths
use Rattle.jdwp_plan.proofs.items.first_list.Given as goal

abbrev pub invariant-loop-datum : goal.invariant-loop-datum
invariant-loop-datum l = paths.first_list (meanings (drop l.datum-index l.data)) ≡ paths.first_list (meanings l.data)
