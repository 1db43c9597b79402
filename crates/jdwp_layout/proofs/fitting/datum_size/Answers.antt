use Rattle.std.proofs.Common.{rules}
use Rattle.jdwp_layout.proofs.fitting.datum_size.Goals as goal

pub returns-in_ok-size-in-Many : goal.returns-in_ok-size-in-Many
returns-in_ok-size-in-Many c = search rules
