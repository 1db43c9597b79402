use Rattle.std.proofs.Common.{◌≡◌, drop}
use Rattle.std.specs.List.{list_any}
use Rattle.jdwp_debugger.specs.DebuggerTurns.{reports}
use Rattle.jdwp_mirror.specs.Mirror.{ends}
use Rattle.jdwp_debugger.proofs.turning.has_death.Given as goal

abbrev pub invariant-loop-composite : goal.invariant-loop-composite
invariant-loop-composite l = list_any ends (reports (drop l.composite-index l.composites)) ≡ list_any ends (reports l.composites)
