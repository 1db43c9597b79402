use Rattle.std.proofs.Common.{◌≡◌, ◌-◌, ◌≤◌, ◌⊎◌, length, true}
use Rattle.std.specs.List.{list_all}
use Rattle.jdwp_wire.specs.Reading.{BeginsWith}
use Rattle.jdwp_wire.specs.Each.{times_at, with_front}
use Rattle.jdwp_value.specs.Regions.{may_stand, element_at, EncodesElement}
use Rattle.jdwp_value.proofs.region.take_elements.Given as goal

abbrev pub invariant-loop : goal.invariant-loop
invariant-loop l = record {
  so_far : with_front l.values.items (times_at (element_at l.sizes l.whole l.tag) (l.count - l.counter) l.rest) ≡ times_at (element_at l.sizes l.whole l.tag) l.count l.bytes;
  fits : list_all (may_stand l.tag) l.values.items ≡ true;
  shorter : length l.rest ≤ length l.bytes;
  first : (l.rest ≡ l.bytes) ⊎ BeginsWith (EncodesElement l.sizes l.tag) l.bytes;
}
