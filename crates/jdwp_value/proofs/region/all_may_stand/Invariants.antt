use Rattle.std.proofs.Common.{◌≡◌, drop}
use Rattle.std.specs.List.{list_all}
use Rattle.jdwp_value.specs.Regions.{may_stand}
use Rattle.jdwp_value.proofs.region.all_may_stand.Given as goal

abbrev pub invariant-loop-value : goal.invariant-loop-value
invariant-loop-value l = record {
  ahead : list_all (may_stand l.tag) (drop l.value-index l.values) ≡ list_all (may_stand l.tag) l.values;
}
