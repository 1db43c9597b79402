use Rattle.std.proofs.Common.{◌≡◌, map, drop}
use Rattle.jdwp_script_machine.specs.StateMeanings.{slot_now}
use Rattle.jdwp_script_machine.specs.SlotWrites.{has_slot}
use Rattle.jdwp_script_machine.proofs.slots.has_slot.Given as goal

abbrev pub invariant-loop-slot : goal.invariant-loop-slot
invariant-loop-slot l = has_slot (map slot_now (drop l.slot-index l.slots)) l.number ≡ has_slot (map slot_now l.slots) l.number
