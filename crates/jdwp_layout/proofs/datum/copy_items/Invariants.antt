use Rattle.std.proofs.Common.{◌≡◌, ◌≤◌, ◌+◌, length, vec_len, vec_capacity, take}
use Rattle.jdwp_layout.specs.Meanings.{meanings}
use Rattle.jdwp_layout.proofs.datum.copy_items.Given as goal

abbrev pub invariant-loop-item : goal.invariant-loop-item
invariant-loop-item l = record {
  made : meanings l.copy.items ≡ meanings (take l.item-index l.items);
  room : vec_len l.copy + length l.items ≤ vec_capacity l.copy + l.item-index;
}
