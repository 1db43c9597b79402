use Rattle.std.proofs.Common.{◌≡◌, false, is_some}
use Rattle.jdwp_pair.specs.Calls.{at}
use Rattle.jdwp_pair.specs.Followers.{Followed}
use Rattle.jdwp_pair.specs.PlanRuns.{Rounds}
use Rattle.jdwp_pair.proofs.pairing.run_rounds.Given as goal

-- the rounds so far, over a connection that did not fail, and the follower did the same
abbrev pub invariant-loop-done : goal.invariant-loop-done
invariant-loop-done g l = record {
  rounds : Rounds g.M.Machine.meaning l.plan (at l.fn.link l.fn.run (g.W.Pipe.story l.fn.out)) l._done (at l.link l.run (g.W.Pipe.story l.out));
  followed : Followed g.M.Machine.meaning l.run.order l.link l.run.follower;
  works : is_some (g.C.Connection.failed_by l.connection) ≡ false;
}
