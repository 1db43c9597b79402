use Rattle.std.proofs.Common.{◌≡◌, ◌++◌, map, take, drop}
use Rattle.jdwp_script_machine.specs.StateMeanings.{slot_now}
use Rattle.jdwp_script_machine.specs.SlotWrites.{slot_written}
use Rattle.jdwp_script_machine.proofs.slots.write_slot.Given as goal

abbrev pub invariant-loop-slot : goal.invariant-loop-slot
invariant-loop-slot l = map slot_now (take l.slot-index l.slots) ++ map (slot_written (l.number, l.value)) (map slot_now (drop l.slot-index l.slots)) ≡ map (slot_written (l.number, l.value)) (map slot_now l.fn.slots)
