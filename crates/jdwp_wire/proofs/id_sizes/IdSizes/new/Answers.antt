use Rattle.std.proofs.Common.{rules}
use Rattle.jdwp_wire.proofs.id_sizes.IdSizes.new.Goals as goal

pub returns-clause-ok : goal.returns-clause-ok
returns-clause-ok c = search rules

pub returns-clause-widths : goal.returns-clause-widths
returns-clause-widths c = search rules
