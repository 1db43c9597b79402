use Rattle.std.proofs.Common.{◌≡◌, ◌++◌, drop}
use Rattle.std.specs.String.{string_bytes}
use Rattle.jdwp_draw.specs.Elements.{heads_from}
use Rattle.jdwp_draw.proofs.heads.push_heads.Given as goal

-- the heads so far, and those that are left
abbrev pub invariant-loop-place : goal.invariant-loop-place
invariant-loop-place l = string_bytes l.out ++ heads_from l.place (drop l.place l.columns) ≡ string_bytes l.fn.out ++ heads_from 0 l.columns
