use Rattle.std.proofs.Common.{rules}
use Rattle.jdwp_wire.proofs.id_sizes.IdSizes.width.Goals as goal

pub returns-in-Frame : goal.returns-in-Frame
returns-in-Frame c = search rules
