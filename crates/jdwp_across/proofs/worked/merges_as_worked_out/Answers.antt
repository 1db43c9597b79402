use Rattle.jdwp_across.proofs.WorkedMerges.{starts, worked}
use Rattle.jdwp_across.proofs.worked.merges_as_worked_out.Goals as goal

pub returns : goal.returns
returns c = record { start = starts c.worked_machine_is_lawful.ensures.begins; merges = worked }
