use Rattle.std.proofs.Common.{◌≡◌, ◌-◌}
use Rattle.jdwp_wire.specs.Each.{times_at}
use Rattle.jdwp_layout.specs.Shapes.{entry_shape}
use Rattle.jdwp_layout.specs.Reads.{entry_at}
use Rattle.jdwp_wire.specs.Reading.{passed}
use Rattle.jdwp_layout.proofs.validation.skip_entries.Given as goal

abbrev pub invariant-loop : goal.invariant-loop
invariant-loop l = passed (times_at (entry_at l.sizes l.whole (entry_shape l.entry)) (l.count - l.counter) l.rest) ≡ passed (times_at (entry_at l.sizes l.whole (entry_shape l.entry)) l.count l.bytes)
