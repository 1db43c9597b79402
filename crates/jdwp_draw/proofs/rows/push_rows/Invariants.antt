use Rattle.std.proofs.Common.{◌≡◌, ◌++◌, drop}
use Rattle.std.specs.String.{string_bytes}
use Rattle.jdwp_draw.specs.Elements.{rows_from}
use Rattle.jdwp_draw.proofs.rows.push_rows.Given as goal

-- the rows so far, and those that are left
abbrev pub invariant-loop-index : goal.invariant-loop-index
invariant-loop-index l = string_bytes l.out ++ rows_from l.from l.columns l.index (drop l.index l.rows) ≡ string_bytes l.fn.out ++ rows_from l.from l.columns 0 l.rows
