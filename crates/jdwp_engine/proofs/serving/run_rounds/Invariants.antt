use Rattle.std.proofs.Common.{◌≤◌, ◌+◌}
use Rattle.jdwp_engine.specs.Run.{IsGoing, cost}
use Rattle.jdwp_engine.specs.Sessions.{Rounds}
use Rattle.jdwp_engine.proofs.serving.run_rounds.Given as goal

abbrev pub invariant-loop-done : goal.invariant-loop-done
invariant-loop-done g l = record {
  going : IsGoing l.fn.target (g.P.Pipe.story l.fn.pipe) (g.P.Pipe.story l.pipe) l.target;
  rounds : Rounds g.M.Machine.meaning l.fn.target (g.P.Pipe.story l.fn.pipe) l._done l.target (g.P.Pipe.story l.pipe);
  costs : l._done + (g.P.Pipe.story l.fn.pipe).rooms ≤ cost (g.P.Pipe.story l.pipe) l.target;
}
