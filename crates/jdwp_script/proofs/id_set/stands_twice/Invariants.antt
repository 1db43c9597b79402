use Rattle.std.proofs.Common.{◌≡◌, ◌≤◌, drop, false, length}
use Rattle.jdwp_script.specs.Limits.{is_in}
use Rattle.jdwp_script.specs.IdSets.{Holds}
use Rattle.jdwp_script.specs.Twice.{is_twice}
use Rattle.jdwp_script.proofs.id_set.stands_twice.Given as goal

abbrev pub invariant-loop-place : goal.invariant-loop-place
invariant-loop-place l = record {
  within : l.place ≤ length l.ids;
  holds : Holds l.seen (is_in (drop l.place l.ids));
  none : is_twice (drop l.place l.ids) ≡ false;
}

abbrev pub decreases-loop-place : goal.decreases-loop-place
decreases-loop-place l = l.place
