use Rattle.std.proofs.Common.{inl, inr}
use Rattle.jdwp_files.proofs.sessions.attach_plan_of.Goals as goal

pub returns-in-Err-clause-fault : goal.returns-in-Err-clause-fault
returns-in-Err-clause-fault c = rw (← c.in_ok-plan.ensures.0) (inr (c.in-Err.fault, c.of_plan.ensures, inl c.in-Err.ensures.fault))
