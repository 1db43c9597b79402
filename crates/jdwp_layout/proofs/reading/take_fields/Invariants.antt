use Rattle.std.proofs.Common.{◌≡◌, ◌⊎◌, drop}
use Rattle.jdwp_wire.specs.Each.{with_front}
use Rattle.jdwp_layout.specs.Meanings.{scalar_meanings}
use Rattle.jdwp_layout.specs.Keeping.{FieldsAreKept}
use Rattle.jdwp_layout.specs.Reads.{fields_at}
use Rattle.jdwp_layout.proofs.reading.take_fields.Given as goal

abbrev pub invariant-loop-field : goal.invariant-loop-field
invariant-loop-field l = record {
  so_far : with_front (scalar_meanings l.scalars.items) (fields_at l.sizes l.whole (drop l.field-index l.fields) l.rest) ≡ with_front (scalar_meanings l.fn.scalars.items) (fields_at l.sizes l.whole l.fields l.bytes);
  first : ((l.field-index ≡ 0) × (l.rest ≡ l.bytes)) ⊎ FieldsAreKept l.sizes l.fields l.bytes;
}
