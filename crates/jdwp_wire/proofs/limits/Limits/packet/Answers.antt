use Rattle.std.proofs.Common.{rules}
use Rattle.jdwp_wire.proofs.limits.Limits.packet.Goals as goal

pub returns-clause-value : goal.returns-clause-value
returns-clause-value c = search rules

pub returns-clause-within : goal.returns-clause-within
returns-clause-within c = search rules

pub returns-clause-composite : goal.returns-clause-composite
returns-clause-composite c = search rules
