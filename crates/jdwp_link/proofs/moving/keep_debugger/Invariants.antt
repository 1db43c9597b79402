use Rattle.std.proofs.Common.{◌≡◌, ◌≤◌, ◌-◌, ◌++◌, length, take}
use Rattle.jdwp_debugger.specs.Debuggers as debuggers
use Rattle.jdwp_link.proofs.moving.keep_debugger.Given as goal

-- what was kept so far
abbrev pub invariant-loop-left : goal.invariant-loop-left
invariant-loop-left l =
    (l.left ≤ length l.fn.debugger.end.outgoing) × (l.debugger ≡ debuggers.with_taken (take (length l.fn.debugger.end.outgoing - l.left) l.fn.debugger.end.outgoing) l.fn.debugger)
    × (l.queue ≡ record l.fn.queue { bytes = l.fn.queue.bytes ++ take (length l.fn.debugger.end.outgoing - l.left) l.fn.debugger.end.outgoing })

abbrev pub decreases-loop-left : goal.decreases-loop-left
decreases-loop-left l = l.left
