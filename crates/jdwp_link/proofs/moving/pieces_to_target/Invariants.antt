use Rattle.std.proofs.Common.{◌≡◌, ◌≤◌, ◌-◌, false, take, true}
use Rattle.jdwp_debugger.specs.Debuggers as debuggers
use Rattle.jdwp_target.specs.Targets as targets
use Rattle.jdwp_link.specs.declared.way.Side.TheVariants as side
use Rattle.jdwp_link.specs.Ways.{with_carried}
use Rattle.jdwp_link.proofs.moving.pieces_to_target.Given as goal

-- what was moved so far
abbrev pub invariant-loop-left : goal.invariant-loop-left
invariant-loop-left g l =
    (l.left ≤ l.count) × (l.debugger ≡ debuggers.with_taken (take (l.count - l.left) l.fn.debugger.end.outgoing) l.fn.debugger)
    × (l.target ≡ targets.with_fed (take (l.count - l.left) l.fn.debugger.end.outgoing) l.fn.target)
    × (g.W.Way.has_failed l.way ≡ false → g.W.Way.story l.way ≡ with_carried side.Debugger (take (l.count - l.left) l.fn.debugger.end.outgoing) (g.W.Way.story l.fn.way))
    × (g.W.Way.has_failed l.fn.way ≡ true → l.way ≡ l.fn.way)

abbrev pub decreases-loop-left : goal.decreases-loop-left
decreases-loop-left g l = l.left
