use Rattle.std.proofs.Common.{◌≡◌, ◌++◌, take, drop}
use Rattle.jdwp_event.specs.Filters.{all_counted}
use Rattle.jdwp_event.proofs.requests.count_each.Given as goal

abbrev pub invariant-loop-entry : goal.invariant-loop-entry
invariant-loop-entry l = take l.entry-index l.entries ++ all_counted l.happening (drop l.entry-index l.entries) ≡ all_counted l.happening l.fn.entries
