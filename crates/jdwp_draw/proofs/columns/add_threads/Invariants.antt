use Rattle.std.proofs.Common.{◌≡◌, map, take}
use Rattle.std.specs.List.{fold}
use Rattle.jdwp_mirror.specs.declared.threads.Known.{Known}
use Rattle.jdwp_draw.specs.declared.columns.Column.TheVariants.{Thread}
use Rattle.jdwp_draw.specs.Columns.{with_column}
use Rattle.jdwp_draw.proofs.columns.add_threads.Given as goal

-- those so far
abbrev pub invariant-loop-known : goal.invariant-loop-known
invariant-loop-known l = l.columns.items ≡ fold with_column l.fn.columns.items (map (λ (k : Known). Thread k.id.0) (take l.known-index l.row.threads))
