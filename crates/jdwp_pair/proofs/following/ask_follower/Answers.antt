use Rattle.std.proofs.Common.{inl, inr}
use Rattle.jdwp_pair.proofs.Leading.{on-ok}
use Rattle.jdwp_pair.proofs.following.ask_follower.Goals as goal

pub returns-in-Ok : goal.returns-in-Ok
returns-in-Ok c = inl (c.ask.new.self, c.in-Ok.ensures.ok.2, c.silence.ensures)

pub returns-in-Err : goal.returns-in-Err
returns-in-Err c = on-ok c.pass_over.result (λ passes. inr (passes _ c.in-Err.ensures.err.1, c.in-Err.ensures.err.0)) c.pass_over.ensures
