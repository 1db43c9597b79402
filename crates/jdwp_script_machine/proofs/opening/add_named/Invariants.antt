use Rattle.std.proofs.Common.{map, take}
use Rattle.std.specs.List.{list_any}
use Rattle.jdwp_script.specs.Meanings.{step_part}
use Rattle.jdwp_script_machine.specs.Sought.{names}
use Rattle.jdwp_script_machine.specs.Layers.{Gains}
use Rattle.jdwp_script_machine.proofs.opening.add_named.Given as goal

abbrev pub invariant-loop-step : goal.invariant-loop-step
invariant-loop-step l = Gains l.fn.found l.found (λ n. list_any (names l.sought n) (map step_part (take l.step-index l.steps)))
