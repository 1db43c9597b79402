use Rattle.std.proofs.Common.{◌≡◌, ◌++◌, ℕ, List, length}
use Rattle.jdwp_end.specs.Story.{with_written}
use Rattle.jdwp_end.proofs.pipes.moving.write_all.Given as goal

-- what was written so far, and then the rest
abbrev pub invariant-loop-rest : goal.invariant-loop-rest
invariant-loop-rest g l = (done : List ℕ) × (l.bytes ≡ done ++ l.rest) × (g.P.Pipe.story l.pipe ≡ with_written done (g.P.Pipe.story l.fn.pipe))

abbrev pub decreases-loop-rest : goal.decreases-loop-rest
decreases-loop-rest g l = length l.rest
