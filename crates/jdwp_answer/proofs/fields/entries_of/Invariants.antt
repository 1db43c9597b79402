use Rattle.std.proofs.Common.{◌≡◌, ◌++◌, ◌≤◌, ◌+◌, map, length, vec_len, vec_capacity}
use Rattle.jdwp_layout.specs.Meanings.{entry_meanings}
use Rattle.jdwp_answer.proofs.fields.entries_of.Given as goal

abbrev pub invariant-loop-scalars : goal.invariant-loop-scalars
invariant-loop-scalars g l = record {
  made : map g.E.Record.fields l.made.items ++ entry_meanings l.scalars-iterator.rest.items ≡ entry_meanings l.fn.entries.items;
  room : vec_len l.made + length l.scalars-iterator.rest.items ≤ vec_capacity l.made;
}
