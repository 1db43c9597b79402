use Rattle.std.proofs.Common.{◌≡◌, ◌≤◌, ◌+◌, length, vec_len, vec_capacity, take, map}
use Rattle.jdwp_script_machine.specs.StateMeanings.{slot_now as slot_state_now}
use Rattle.jdwp_script_machine.specs.Steps.{slot_now}
use Rattle.jdwp_script_machine.proofs.steps.slots_of.Given as goal

abbrev pub invariant-loop-value : goal.invariant-loop-value
invariant-loop-value l = record {
  made : map slot_state_now l.slots.items ≡ map slot_now (take l.value-index l.values);
  room : vec_len l.slots + length l.values ≤ vec_capacity l.slots + l.value-index;
}
