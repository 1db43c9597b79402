use Rattle.std.proofs.Common.{◌≡◌, ◌++◌, List, drop}
use Rattle.jdwp_draw.specs.Following.{IsAt}
use Rattle.jdwp_draw.specs.Pictures.{AreRows, RowMeaning}
use Rattle.jdwp_draw.specs.Sessions.{Session, start}
use Rattle.jdwp_draw.proofs.reading.rows_of.Given as goal

-- the session so far, and that the rows of what is left go on from those so far
abbrev pub invariant-loop-place : goal.invariant-loop-place
invariant-loop-place l = record {
  session : Session;
  count : session.messages ≡ l.place;
  at : IsAt l.follower session;
  goes_on : (rest : List RowMeaning) → AreRows l.sizes session (drop l.place l.messages) rest → AreRows l.sizes start l.messages (l.rows.items ++ rest);
}
