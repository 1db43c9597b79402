use Rattle.std.proofs.Common.{◌≡◌, true, false}
use Rattle.jdwp_end.specs.Ends.{is_open}
use Rattle.jdwp_port.specs.Served.{lives}
use Rattle.jdwp_port.specs.LiveServed.{HasServed, ListensAt}
use Rattle.jdwp_port.proofs.live.serving.serve_live_sessions.Given as goal

abbrev pub invariant-loop : goal.invariant-loop
invariant-loop g l = record {
  callable : goal.F-IsAlwaysCallable g l.tell;
  served : HasServed g.M.Machine.meaning l.rounds l.initial.target (λ f notice h. goal.F-step g f notice tt h) l.initial.tell l.target l.tell;
  lives : lives g.M.Machine.meaning l.target ≡ true;
  closed : is_open l.target.end ≡ false;
  listens : ListensAt l.port l.listening;
}
