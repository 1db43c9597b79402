use Rattle.std.proofs.Common.{rules}
use Rattle.jdwp_event.proofs.told.has_event_of.Goals as goal

pub returns : goal.returns
returns c =
    search rules
