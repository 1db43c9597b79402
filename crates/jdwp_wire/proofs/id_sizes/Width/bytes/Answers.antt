use Rattle.std.proofs.Common.{rules}
use Rattle.jdwp_wire.proofs.id_sizes.Width.bytes.Goals as goal

pub returns-clause-value : goal.returns-clause-value
returns-clause-value c = search rules
