use Rattle.std.proofs.Common.{◌≡◌, false, is_some}
use Rattle.jdwp_pair.specs.Followers.{KeepsUp}
use Rattle.jdwp_pair.specs.Rounds.{PieceToDebugger, Repeats}
use Rattle.jdwp_pair.proofs.parts.deliver_to_debugger.Given as goal

-- the whole pieces so far, over a connection that did not fail, and they came to the follower
abbrev pub invariant-loop-done : goal.invariant-loop-done
invariant-loop-done g l = record {
  repeats : Repeats (PieceToDebugger g.M.Machine.meaning) l.fn.link l._done l.link;
  follows : KeepsUp g.M.Machine.meaning l.fn.link l.fn.follower l.link l.follower;
  works : is_some (g.C.Connection.failed_by l.connection) ≡ false;
}
