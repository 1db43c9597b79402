use Rattle.jdwp_model.proofs.WorkedMachine.{small_lawful, small_begins}
use Rattle.jdwp_model.proofs.worked.worked_machine_is_lawful.Goals as goal

pub returns : goal.returns
returns c = record { lawful = small_lawful; begins = small_begins }
