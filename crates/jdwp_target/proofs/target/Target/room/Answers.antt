use Rattle.std.proofs.Common.{rules}
use Rattle.jdwp_target.proofs.target.Target.room.Goals as goal

pub returns-clause-room : goal.returns-clause-room
returns-clause-room g c = cc

pub returns-clause-bound : goal.returns-clause-bound
returns-clause-bound g c = search rules
