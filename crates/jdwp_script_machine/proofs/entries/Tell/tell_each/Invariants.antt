use Rattle.std.proofs.Common.{◌≡◌, ◌≤◌, ◌+◌, length, vec_len, vec_capacity, take, map}
use Rattle.jdwp_layout.specs.Meanings.{entry_meanings}
use Rattle.jdwp_script_machine.proofs.entries.Tell.tell_each.Given as goal

abbrev pub invariant-loop-thing : goal.invariant-loop-thing
invariant-loop-thing g l = record {
  made : entry_meanings l.entries.items ≡ map (g.Self.Tell.tells l.self) (map g.Self.Tell.meaning (take l.thing-index l.things));
  room : vec_len l.entries + length l.things ≤ vec_capacity l.entries + l.thing-index;
}
