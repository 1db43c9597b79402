use Rattle.jdwp_files.proofs.running.run.Goals as goal

pub returns-in-Ok-clause-leaves : goal.returns-in-Ok-clause-leaves
returns-in-Ok-clause-leaves g c = λ runs. rw c.report_outcome.ensures.status (c.in-Ok.ensures runs)

pub returns-in-Err-clause-leaves : goal.returns-in-Err-clause-leaves
returns-in-Err-clause-leaves g c = λ runs. rw c.report_fault.ensures.status (c.in-Err.ensures runs)
