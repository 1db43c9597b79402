use Rattle.std.proofs.Common.{◌≡◌, ◌++◌, ◌≤◌, ◌+◌, length, vec_len, vec_capacity}
use Rattle.jdwp_layout.specs.Meanings.{meanings, scalar_meanings}
use Rattle.jdwp_answer.specs.Shaped.{ones}
use Rattle.jdwp_answer.proofs.fields.values_of.Given as goal

abbrev pub invariant-loop-item : goal.invariant-loop-item
invariant-loop-item l = record {
  made : ones (scalar_meanings l.made.items) ++ meanings l.item-iterator.rest.items ≡ meanings l.fn.items.items;
  room : vec_len l.made + length l.item-iterator.rest.items ≤ vec_capacity l.made;
}
