use Rattle.std.proofs.Common.{take}
use Rattle.jdwp_event.specs.RequestLists.{AllBelow}
use Rattle.jdwp_event.proofs.requests.place_for.Given as goal

abbrev pub invariant-loop-place : goal.invariant-loop-place
invariant-loop-place l = AllBelow l.id (take l.place l.entries)
