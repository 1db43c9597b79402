use Rattle.std.proofs.Common.{rules}
use Rattle.jdwp_wire.proofs.number.take_count.Goals as goal

pub returns-clause-value : goal.returns-clause-value
returns-clause-value c = search rules

pub returns-clause-within : goal.returns-clause-within
returns-clause-within c = search rules

pub returns-then-count-clause-memory : goal.returns-then-count-clause-memory
returns-then-count-clause-memory c = search rules
