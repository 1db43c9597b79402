use Rattle.std.proofs.Common.{◌≡◌, drop}
use Rattle.jdwp_event.specs.Filters.{reaches_class}
use Rattle.jdwp_event.specs.RequestParts.{ids_meaning}
use Rattle.jdwp_event.proofs.filter.is_among.Given as goal

abbrev pub invariant-loop-id : goal.invariant-loop-id
invariant-loop-id l = reaches_class l.class.0 (ids_meaning (drop l.id-index l.reached)) ≡ reaches_class l.class.0 (ids_meaning l.reached)
