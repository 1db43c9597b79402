use Rattle.std.proofs.Common.{◌≡◌, drop}
use Rattle.std.specs.List.{list_any}
use Rattle.jdwp_draw.specs.Columns.{same_column}
use Rattle.jdwp_draw.proofs.columns.is_among.Given as goal

-- it is none of those so far
abbrev pub invariant-loop-other : goal.invariant-loop-other
invariant-loop-other l = list_any (same_column l.column) (drop l.other-index l.columns) ≡ list_any (same_column l.column) l.columns
