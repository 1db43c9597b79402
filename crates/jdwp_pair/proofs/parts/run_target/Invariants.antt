use Rattle.std.proofs.Common.{◌≡◌, false, is_some, nat_lt}
use Rattle.jdwp_pair.specs.Rounds.{Repeats, TurnsTarget}
use Rattle.jdwp_pair.proofs.parts.run_target.Given as goal

-- the turns so far, each of which handled a message, over a connection that did not fail
abbrev pub invariant-loop-done : goal.invariant-loop-done
invariant-loop-done g l = record {
  repeats : Repeats (TurnsTarget g.M.Machine.meaning) l.fn.link l._done l.link;
  handled : l.handled ≡ nat_lt 0 l._done;
  works : is_some (g.C.Connection.failed_by l.connection) ≡ false;
}
