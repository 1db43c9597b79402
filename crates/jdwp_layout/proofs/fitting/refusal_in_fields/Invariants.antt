use Rattle.std.proofs.Common.{◌≡◌, drop}
use Rattle.jdwp_layout.specs.Meanings.{scalar_meanings}
use Rattle.jdwp_layout.specs.Writes.{fields_refusal}
use Rattle.jdwp_layout.proofs.fitting.refusal_in_fields.Given as goal

abbrev pub invariant-loop-field : goal.invariant-loop-field
invariant-loop-field l = fields_refusal l.sizes (drop l.field-index l.fields) (scalar_meanings l.left) ≡ fields_refusal l.sizes l.fields (scalar_meanings l.scalars)
