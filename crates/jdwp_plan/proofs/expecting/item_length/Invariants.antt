use Rattle.std.proofs.Common.{◌≡◌, ◌≤◌, ◌+◌, drop}
use Rattle.jdwp_plan.specs.declared.quoting.Place.TheVariants.{Outside}
use Rattle.jdwp_plan.specs.Expecting as expecting
use Rattle.jdwp_plan.proofs.expecting.item_length.Given as goal

abbrev pub invariant-loop-index : goal.invariant-loop-index
invariant-loop-index l = record {
  deep : l.depth ≤ l.index;
  so_far : expecting.item_length l.depth l.place (drop l.index l.text) + l.index ≡ expecting.item_length 0 Outside l.text;
}
