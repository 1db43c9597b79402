use Rattle.std.proofs.Common.{◌≡◌, map, drop}
use Rattle.std.specs.List.{list_all}
use Rattle.jdwp_script_machine.specs.StateMeanings.{slot_now}
use Rattle.jdwp_script_machine.specs.Changes.{value_suits}
use Rattle.jdwp_script_machine.proofs.slots.all_suit.Given as goal

abbrev pub invariant-loop-number : goal.invariant-loop-number
invariant-loop-number l = list_all (value_suits (map slot_now l.slots)) (drop l.number-index l.values) ≡ list_all (value_suits (map slot_now l.slots)) l.values
