use Rattle.std.proofs.Common.{◌≡◌, ◌≤◌, length}
use Rattle.jdwp_plan.specs.Filling.{filled, filled_behind, joined}
use Rattle.jdwp_plan.proofs.values.Values.fill.Given as goal

abbrev pub invariant-loop-rest : goal.invariant-loop-rest
invariant-loop-rest l = record {
  short : length l.rest ≤ length l.text;
  so_far : joined l.out.items (filled_behind l.self 0 l.place l.rest) ≡ filled l.self l.text;
}

abbrev pub decreases-loop-rest : goal.decreases-loop-rest
decreases-loop-rest l = length l.rest
