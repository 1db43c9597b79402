use Rattle.std.proofs.Common.{◌≡◌, ◌≤◌, ◌-◌, ◌++◌, length, take}
use Rattle.jdwp_target.specs.Targets as targets
use Rattle.jdwp_link.proofs.moving.keep_target.Given as goal

-- what was kept so far
abbrev pub invariant-loop-left : goal.invariant-loop-left
invariant-loop-left g l =
    (l.left ≤ length l.fn.target.end.outgoing) × (l.target ≡ targets.with_taken (take (length l.fn.target.end.outgoing - l.left) l.fn.target.end.outgoing) l.fn.target)
    × (l.queue ≡ record l.fn.queue { bytes = l.fn.queue.bytes ++ take (length l.fn.target.end.outgoing - l.left) l.fn.target.end.outgoing })

abbrev pub decreases-loop-left : goal.decreases-loop-left
decreases-loop-left g l = l.left
