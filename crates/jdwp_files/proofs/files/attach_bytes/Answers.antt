use Rattle.std.proofs.Common.{inr}
use Rattle.jdwp_files.proofs.files.attach_bytes.Goals as goal

pub returns-in-Err-clause-fault : goal.returns-in-Err-clause-fault
returns-in-Err-clause-fault g c = rw (← c.in_ok-plan.ensures.0) (inr (c.in-Err.fault, c.of_plan.ensures, c.in-Err.ensures.fault))
