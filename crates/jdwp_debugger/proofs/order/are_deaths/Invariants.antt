use Rattle.std.proofs.Common.{◌≡◌, drop}
use Rattle.std.specs.List.{list_any}
use Rattle.jdwp_debugger.specs.Orders.{is_no_death}
use Rattle.jdwp_debugger.proofs.order.are_deaths.Given as goal

abbrev pub invariant-loop-event : goal.invariant-loop-event
invariant-loop-event l = list_any is_no_death (drop l.event-index l.events) ≡ list_any is_no_death l.events
