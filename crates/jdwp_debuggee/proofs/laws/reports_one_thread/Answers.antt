use Rattle.jdwp_debuggee.proofs.Reported.{step_reports}
use Rattle.jdwp_debuggee.proofs.laws.reports_one_thread.Goals as goal

pub returns : goal.returns
returns g c = step_reports g.M.Machine.meaning
