use Rattle.std.proofs.Common.{◌≡◌, drop}
use Rattle.jdwp_layout.specs.Reads.{fields_at}
use Rattle.jdwp_wire.specs.Reading.{passed}
use Rattle.jdwp_layout.proofs.validation.skip_fields.Given as goal

abbrev pub invariant-loop-field : goal.invariant-loop-field
invariant-loop-field l = passed (fields_at l.sizes l.whole (drop l.field-index l.fields) l.rest) ≡ passed (fields_at l.sizes l.whole l.fields l.bytes)
