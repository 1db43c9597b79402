use Rattle.std.proofs.Common.{rules}
use Rattle.jdwp_value.proofs.location.TypeTag.byte.Goals as goal

pub returns-in-Interface : goal.returns-in-Interface
returns-in-Interface c = search rules
