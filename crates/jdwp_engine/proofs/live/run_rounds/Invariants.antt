use Rattle.std.proofs.Common.{◌≡◌, nat_lt}
use Rattle.jdwp_engine.specs.Run.{IsGoing}
use Rattle.jdwp_engine.specs.LiveRounds.{Rounds}
use Rattle.jdwp_engine.proofs.live.run_rounds.Given as goal

abbrev pub invariant-loop-done : goal.invariant-loop-done
invariant-loop-done g l = record {
  going : IsGoing l.fn.target (g.P.LivePipe.story l.fn.pipe).through (g.P.LivePipe.story l.pipe).through l.target;
  rounds : Rounds g.M.Machine.meaning l.fn.target (g.P.LivePipe.story l.fn.pipe) l._done l.target (g.P.LivePipe.story l.pipe);
  greeted : l.greeted ≡ nat_lt 0 l.target.end.session.turns;
}
