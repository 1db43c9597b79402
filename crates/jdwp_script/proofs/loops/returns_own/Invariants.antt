use Rattle.std.proofs.Common.{◌≡◌, ◌≤◌, drop, map}
use Rattle.jdwp_script.specs.Meanings.{step_part}
use Rattle.jdwp_script.specs.References.{returns_own}
use Rattle.jdwp_script.proofs.loops.returns_own.Given as goal

abbrev pub invariant-loop-step : goal.invariant-loop-step
invariant-loop-step l = record {
  few : l.frames ≤ l.step-index;
  same : returns_own l.frames (map step_part (drop l.step-index l.steps)) ≡ returns_own 0 (map step_part l.steps);
}
