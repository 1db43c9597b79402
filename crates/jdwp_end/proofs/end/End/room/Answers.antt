use Rattle.std.proofs.Common.{rules}
use Rattle.jdwp_end.proofs.end.End.room.Goals as goal

pub returns-in-AwaitingHandshake : goal.returns-in-AwaitingHandshake
returns-in-AwaitingHandshake c = search rules
