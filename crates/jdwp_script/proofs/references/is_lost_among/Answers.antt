use Rattle.std.proofs.Common.{rules}
use Rattle.jdwp_script.proofs.references.is_lost_among.Goals as goal

pub returns-in_ok-starts_lost : goal.returns-in_ok-starts_lost
returns-in_ok-starts_lost c = search rules
