use Rattle.std.proofs.Common.{◌≡◌, drop}
use Rattle.std.specs.List.{list_any}
use Rattle.jdwp_draw.specs.Columns.{same_request}
use Rattle.jdwp_draw.proofs.cells.stands_in.Given as goal

-- it is none of those so far
abbrev pub invariant-loop-other : goal.invariant-loop-other
invariant-loop-other l = list_any (same_request l.request) (drop l.other-index l.requests) ≡ list_any (same_request l.request) l.requests
