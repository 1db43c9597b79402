use Rattle.std.proofs.Common.{◌≡◌, false, is_some}
use Rattle.jdwp_pair.specs.Rounds.{PieceToTarget, Repeats}
use Rattle.jdwp_pair.proofs.parts.deliver_to_target.Given as goal

-- the whole pieces so far, over a connection that did not fail
abbrev pub invariant-loop-done : goal.invariant-loop-done
invariant-loop-done g l = record {
  repeats : Repeats (PieceToTarget g.M.Machine.meaning) l.fn.link l._done l.link;
  works : is_some (g.C.Connection.failed_by l.connection) ≡ false;
}
