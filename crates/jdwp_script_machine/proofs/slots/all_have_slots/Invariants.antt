use Rattle.std.proofs.Common.{◌≡◌, ℤ, map, drop}
use Rattle.std.specs.List.{list_all}
use Rattle.jdwp_value.specs.declared.value.Value.{Value}
use Rattle.jdwp_script_machine.specs.StateMeanings.{slot_now}
use Rattle.jdwp_script_machine.specs.SlotWrites.{has_slot}
use Rattle.jdwp_script_machine.proofs.slots.all_have_slots.Given as goal

abbrev pub invariant-loop-number : goal.invariant-loop-number
invariant-loop-number l = list_all (λ (v : ℤ × Value). has_slot (map slot_now l.slots) v.0) (drop l.number-index l.values) ≡ list_all (λ (v : ℤ × Value). has_slot (map slot_now l.slots) v.0) l.values
