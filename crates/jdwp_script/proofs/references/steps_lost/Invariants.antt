use Rattle.std.proofs.Common.{◌≡◌, [], drop, map}
use Rattle.jdwp_script.specs.Meanings.{step_part}
use Rattle.jdwp_script.specs.IdSets.{known_ids}
use Rattle.jdwp_script.specs.References.{steps_lost}
use Rattle.jdwp_script.proofs.references.steps_lost.Given as goal

abbrev pub invariant-loop-step : goal.invariant-loop-step
invariant-loop-step l = steps_lost (known_ids l.known) l.frames.items (map step_part (drop l.step-index l.steps)) ≡ steps_lost (known_ids l.known) [] (map step_part l.steps)
