use Rattle.std.proofs.Common.{◌≡◌, drop}
use Rattle.jdwp_mirror.specs.Faults.{is_of_two}
use Rattle.jdwp_mirror.specs.FaultParts.{is_of_two_behind}
use Rattle.jdwp_mirror.proofs.judging.are_of_two.Given as goal

abbrev pub invariant-loop-event : goal.invariant-loop-event
invariant-loop-event l = is_of_two_behind l.before (drop l.event-index l.events) ≡ is_of_two l.events
