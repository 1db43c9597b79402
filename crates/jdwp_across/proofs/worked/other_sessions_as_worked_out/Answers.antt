use Rattle.jdwp_across.proofs.WorkedOthers.{meets-as-worked}
use Rattle.jdwp_across.proofs.worked.other_sessions_as_worked_out.Goals as goal

pub returns : goal.returns
returns c = meets-as-worked c.worked_machine_is_lawful.ensures.begins
