use Rattle.std.proofs.Common.{◌≤◌, drop, vec_capacity}
use Rattle.jdwp_layout.specs.Shapes.{entry_shape}
use Rattle.jdwp_layout.specs.Meanings.{entry_meanings}
use Rattle.jdwp_layout.specs.Grammar.{EncodesEntry}
use Rattle.jdwp_layout.specs.Writes.{entry_canonical, entry_refusal}
use Rattle.jdwp_layout.proofs.Progress.{AllProgress}
use Rattle.jdwp_layout.proofs.writing.put_entries.Given as goal

abbrev pub invariant-loop-scalars : goal.invariant-loop-scalars
invariant-loop-scalars l = record {
  progress : AllProgress (EncodesEntry l.sizes (entry_shape l.entry)) (entry_canonical l.sizes) (entry_refusal l.sizes (entry_shape l.entry)) (entry_meanings l.entries) l.fn.output.items (entry_meanings (drop l.scalars-index l.entries)) l.output.items;
  capacity : vec_capacity l.fn.output ≤ vec_capacity l.output;
}
