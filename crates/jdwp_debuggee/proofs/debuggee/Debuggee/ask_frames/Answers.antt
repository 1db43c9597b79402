use Rattle.std.proofs.Common.{rules}
use Rattle.jdwp_debuggee.proofs.debuggee.Debuggee.ask_frames.Goals as goal

pub returns-in-Some-eq0-clause-value : goal.returns-in-Some-eq0-clause-value
returns-in-Some-eq0-clause-value g c = search rules
