use Rattle.std.proofs.Common.{◌≡◌, ℤ, drop}
use Rattle.std.specs.List.{list_all}
use Rattle.jdwp_value.specs.declared.value.Value.{Value}
use Rattle.jdwp_script_machine.specs.StateMeanings.{state_now}
use Rattle.jdwp_script_machine.specs.SlotWrites.{may_hold}
use Rattle.jdwp_script_machine.proofs.slots.all_may_stand.Given as goal

abbrev pub invariant-loop-value : goal.invariant-loop-value
invariant-loop-value l = list_all (λ (v : ℤ × Value). may_hold (state_now l.state) v.1) (drop l.value-index l.values) ≡ list_all (λ (v : ℤ × Value). may_hold (state_now l.state) v.1) l.values
