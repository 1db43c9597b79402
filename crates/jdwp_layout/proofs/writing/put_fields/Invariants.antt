use Rattle.std.proofs.Common.{◌≤◌, drop, vec_capacity}
use Rattle.jdwp_layout.specs.Meanings.{scalar_meanings}
use Rattle.jdwp_layout.specs.Grammar.{EncodesField}
use Rattle.jdwp_layout.specs.Writes.{scalar_canonical, field_refusal}
use Rattle.jdwp_layout.proofs.Progress.{EachProgress}
use Rattle.jdwp_layout.proofs.writing.put_fields.Given as goal

abbrev pub invariant-loop-field : goal.invariant-loop-field
invariant-loop-field l = record {
  progress : EachProgress (EncodesField l.sizes) (scalar_canonical l.sizes) (field_refusal l.sizes) l.fields (scalar_meanings l.scalars) l.fn.output.items (drop l.field-index l.fields) (scalar_meanings l.left) l.output.items;
  capacity : vec_capacity l.fn.output ≤ vec_capacity l.output;
}
