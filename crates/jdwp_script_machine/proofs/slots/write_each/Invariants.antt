use Rattle.std.proofs.Common.{◌≡◌, map, drop}
use Rattle.jdwp_script_machine.specs.StateMeanings.{slot_now}
use Rattle.jdwp_script_machine.specs.SlotWrites.{slots_written}
use Rattle.jdwp_script_machine.proofs.slots.write_each.Given as goal

abbrev pub invariant-loop-number : goal.invariant-loop-number
invariant-loop-number l = slots_written (drop l.number-index l.values) (map slot_now l.slots) ≡ slots_written l.values (map slot_now l.fn.slots)
