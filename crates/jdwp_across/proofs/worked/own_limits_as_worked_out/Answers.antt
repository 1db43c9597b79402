use Rattle.jdwp_across.proofs.WorkedStart.{starts-as-worked}
use Rattle.jdwp_across.proofs.worked.own_limits_as_worked_out.Goals as goal

pub returns : goal.returns
returns c = starts-as-worked c.worked_machine_is_lawful.ensures.begins
