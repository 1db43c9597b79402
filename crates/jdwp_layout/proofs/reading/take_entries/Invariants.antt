use Rattle.std.proofs.Common.{◌≡◌, ◌-◌, ◌⊎◌}
use Rattle.jdwp_wire.specs.Reading.{BeginsWith}
use Rattle.jdwp_wire.specs.Each.{with_front, times_at}
use Rattle.jdwp_layout.specs.Shapes.{entry_shape}
use Rattle.jdwp_layout.specs.Meanings.{entry_meanings}
use Rattle.jdwp_layout.specs.Grammar.{EncodesEntry}
use Rattle.jdwp_layout.specs.Reads.{entry_at}
use Rattle.jdwp_layout.proofs.reading.take_entries.Given as goal

abbrev pub invariant-loop : goal.invariant-loop
invariant-loop l = record {
  so_far : with_front (entry_meanings l.entries.items) (times_at (entry_at l.sizes l.whole (entry_shape l.entry)) (l.count - l.counter) l.rest) ≡ times_at (entry_at l.sizes l.whole (entry_shape l.entry)) l.count l.bytes;
  first : (l.rest ≡ l.bytes) ⊎ BeginsWith (EncodesEntry l.sizes (entry_shape l.entry)) l.bytes;
}
