use Rattle.std.proofs.Common.{◌≡◌, ◌++◌, drop}
use Rattle.std.specs.String.{string_bytes}
use Rattle.jdwp_draw.specs.Elements.{cells_from}
use Rattle.jdwp_draw.proofs.cells.push_cells.Given as goal

-- the cells so far, and those that are left
abbrev pub invariant-loop-place : goal.invariant-loop-place
invariant-loop-place l = string_bytes l.out ++ cells_from l.index l.row l.place (drop l.place l.columns) ≡ string_bytes l.fn.out ++ cells_from l.index l.row 0 l.columns
