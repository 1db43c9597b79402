use Rattle.std.proofs.Common.{◌≡◌, ◌≤◌, ◌-◌, ◌⊎◌, length}
use Rattle.jdwp_wire.specs.Reading.{BeginsWith}
use Rattle.jdwp_wire.specs.Each.{with_front, times_at}
use Rattle.jdwp_layout.specs.Shapes.{Events}
use Rattle.jdwp_layout.specs.Grammar.{EncodesEntry}
use Rattle.jdwp_layout.specs.Reads.{entry_at}
use Rattle.jdwp_event.proofs.event.take_events.Given as goal

abbrev pub invariant-loop : goal.invariant-loop
invariant-loop l = record {
  so_far : with_front l.events.items (times_at (entry_at l.sizes l.whole Events) (l.count - l.counter) l.rest) ≡ times_at (entry_at l.sizes l.whole Events) l.count l.bytes;
  shorter : length l.rest ≤ length l.bytes;
  first : (l.rest ≡ l.bytes) ⊎ BeginsWith (EncodesEntry l.sizes Events) l.bytes;
}
