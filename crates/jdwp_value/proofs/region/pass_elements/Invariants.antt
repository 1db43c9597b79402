use Rattle.std.proofs.Common.{◌≡◌, ◌-◌}
use Rattle.jdwp_wire.specs.Each.{times_at}
use Rattle.jdwp_value.specs.Regions.{element_at}
use Rattle.jdwp_wire.specs.Reading.{passed}
use Rattle.jdwp_value.proofs.region.pass_elements.Given as goal

abbrev pub invariant-loop : goal.invariant-loop
invariant-loop l = passed (times_at (element_at l.sizes l.whole l.tag) (l.count - l.counter) l.rest) ≡ passed (times_at (element_at l.sizes l.whole l.tag) l.count l.bytes)
