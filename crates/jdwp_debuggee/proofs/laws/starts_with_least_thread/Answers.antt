use Rattle.jdwp_debuggee.proofs.LeastThread.{least-is}
use Rattle.jdwp_debuggee.proofs.laws.starts_with_least_thread.Goals as goal

pub returns : goal.returns
returns c = least-is
