use Rattle.std.proofs.Common.{◌≡◌, map, drop}
use Rattle.jdwp_script_machine.specs.StateMeanings.{slot_now}
use Rattle.jdwp_script_machine.specs.SlotWrites.{slot_value}
use Rattle.jdwp_script_machine.proofs.slots.slot_value.Given as goal

abbrev pub invariant-loop-slot : goal.invariant-loop-slot
invariant-loop-slot l = slot_value l.number (map slot_now (drop l.slot-index l.slots)) ≡ slot_value l.number (map slot_now l.slots)
