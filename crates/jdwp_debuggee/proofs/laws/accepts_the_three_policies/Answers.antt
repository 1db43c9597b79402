use Rattle.jdwp_debuggee.proofs.Reported.{policy_accepted}
use Rattle.jdwp_debuggee.proofs.laws.accepts_the_three_policies.Goals as goal

pub returns : goal.returns
returns g c = policy_accepted g.M.Machine.meaning
