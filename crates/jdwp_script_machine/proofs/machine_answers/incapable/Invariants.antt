use Rattle.std.proofs.Common.{◌≡◌, ◌≤◌, ◌+◌, vec_len, vec_capacity, false}
use Rattle.std.specs.Prelude.{replicate}
use Rattle.jdwp_layout.specs.Meanings.{Boolean, One, meanings}
use Rattle.jdwp_script_machine.proofs.machine_answers.incapable.Given as goal

abbrev pub invariant-loop : goal.invariant-loop
invariant-loop l = record {
  made : meanings l.items.items ≡ replicate l.counter (One (Boolean false));
  room : vec_len l.items + l.count ≤ vec_capacity l.items + l.counter;
}
