use Rattle.std.proofs.Common.{rules}
use Rattle.jdwp_debuggee.proofs.debuggee.Debuggee.take_packet_id.Goals as goal

pub returns-clause-after : goal.returns-clause-after
returns-clause-after g c = search rules
