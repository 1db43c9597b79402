use Rattle.std.proofs.Common.{◌≡◌, ◌≤◌, drop, map}
use Rattle.jdwp_script.specs.Meanings.{step_part}
use Rattle.jdwp_script.specs.Limits.{LIST_LIMIT, is_deep}
use Rattle.jdwp_script.proofs.limits.is_deep.Given as goal

abbrev pub invariant-loop-step : goal.invariant-loop-step
invariant-loop-step l = record {
  few : l.frames ≤ LIST_LIMIT;
  same : is_deep l.frames (map step_part (drop l.step-index l.steps)) ≡ is_deep 0 (map step_part l.steps);
}
