use Rattle.std.proofs.Common.{rules}
use Rattle.jdwp_end.proofs.parts.standing_of.Goals as goal

pub returns-in-Whole : goal.returns-in-Whole
returns-in-Whole c = (c.in-Whole.packet.body.now, search rules)
