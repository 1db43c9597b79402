use Rattle.std.proofs.Common.{rules}
use Rattle.jdwp_event.proofs.kind.EventKind.of_byte.Goals as goal

pub returns-in_default : goal.returns-in_default
returns-in_default c = search rules
