use Rattle.std.proofs.Common.{◌≡◌, [], take}
use Rattle.std.specs.List.{flat_map, fold}
use Rattle.jdwp_draw.specs.Columns.{request_columns, thread_columns, with_column}
use Rattle.jdwp_draw.proofs.columns.columns_of.Given as goal

-- the columns of the threads of the rows so far
abbrev pub invariant-loop-row : goal.invariant-loop-row
invariant-loop-row l = l.columns.items ≡ fold with_column [] (flat_map thread_columns (take l.row-index l.rows))

-- and those of their requests
abbrev pub invariant-loop-row-2 : goal.invariant-loop-row-2
invariant-loop-row-2 l = l.columns.items ≡ fold with_column (fold with_column [] (flat_map thread_columns l.rows)) (flat_map request_columns (take l.row-index l.rows))
