use Rattle.jdwp_files.proofs.sessions.pair_bytes.Goals as goal

pub returns-clause-paired : goal.returns-clause-paired
returns-clause-paired g c = (
  c.in_ok-machine.machine,
  c.in_ok-machine.ensures.machine.1,
  c.in_ok-plan.ensures.plan.1,
  rw c.deref.ensures.value at c.in_ok-ended.ensures.paired,
)
