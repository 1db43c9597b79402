use Rattle.std.proofs.Common.{◌≡◌, false, is_some, nat_lt}
use Rattle.jdwp_pair.specs.Calls.{at}
use Rattle.jdwp_pair.specs.Followers.{Followed}
use Rattle.jdwp_pair.specs.Rounds.{Repeats, TurnsDebugger}
use Rattle.jdwp_pair.proofs.parts.run_debugger.Given as goal

-- the turns so far, each of which handled a message, over a connection that did not fail; and the follower did the same
abbrev pub invariant-loop-done : goal.invariant-loop-done
invariant-loop-done g l = record {
  repeats : Repeats (TurnsDebugger g.M.Machine.meaning) (at l.fn.link l.fn.run (g.W.Pipe.story l.fn.out)) l._done (at l.link l.run (g.W.Pipe.story l.out));
  handled : l.handled ≡ nat_lt 0 l._done;
  followed : Followed g.M.Machine.meaning l.run.order l.link l.run.follower;
  works : is_some (g.C.Connection.failed_by l.connection) ≡ false;
}
