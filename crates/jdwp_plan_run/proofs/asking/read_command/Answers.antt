use Rattle.jdwp_plan_run.proofs.asking.read_command.Goals as goal

pub returns-in-Ok-clause-ok : goal.returns-in-Ok-clause-ok
returns-in-Ok-clause-ok c = (_, c.in-Ok.ensures.ok, c.new.ensures)
