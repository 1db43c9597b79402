use Rattle.std.proofs.Common.{◌≡◌, ◌++◌, ℕ, List, length}
use Rattle.jdwp_engine.specs.LiveStory.{with_written}
use Rattle.jdwp_engine.proofs.pipes.moving.write_out.Given as goal

-- what was taken and written so far, and then what waits
abbrev pub invariant-loop-pipe : goal.invariant-loop-pipe
invariant-loop-pipe g l =
    (done : List ℕ) × ((g.E.SessionEnd.end l.fn.end).outgoing ≡ done ++ (g.E.SessionEnd.end l.end).outgoing) × (l.end ≡ g.E.SessionEnd.with_taken done l.fn.end)
    × (g.P.LivePipe.story l.pipe ≡ with_written done (g.P.LivePipe.story l.fn.pipe))

abbrev pub decreases-loop-pipe : goal.decreases-loop-pipe
decreases-loop-pipe g l = length (g.E.SessionEnd.end l.end).outgoing
