use Rattle.std.proofs.Common.{rules}
use Rattle.jdwp_script_machine.proofs.field_values.values_asked.Goals as goal

pub returns-clause-memory : goal.returns-clause-memory
returns-clause-memory g c =
    search rules
