use Rattle.std.proofs.Common.{◌≡◌, map, take}
use Rattle.std.specs.List.{fold}
use Rattle.jdwp_draw.specs.declared.columns.Column.TheVariants.{Request}
use Rattle.jdwp_draw.specs.declared.picture.Standing.{Standing}
use Rattle.jdwp_draw.specs.Columns.{with_column}
use Rattle.jdwp_draw.proofs.columns.add_requests.Given as goal

-- those so far
abbrev pub invariant-loop-request : goal.invariant-loop-request
invariant-loop-request l = l.columns.items ≡ fold with_column l.fn.columns.items (map (λ (r : Standing). Request r) (take l.request-index l.row.requests))
