use Rattle.std.proofs.Common.{rules}
use Rattle.jdwp_value.proofs.value.take_tagged_id.Goals as goal

pub returns-in_default : goal.returns-in_default
returns-in_default c =
    search rules
