use Rattle.jdwp_debuggee.proofs.InvocationsRefused.{invokes_effect}
use Rattle.jdwp_debuggee.proofs.laws.answers_invocations.Goals as goal

pub returns : goal.returns
returns g c settings now set number bytes shapes sound given e = invokes_effect g.M.Machine.meaning g.met.M.Machine.lawful settings now set number bytes shapes sound given e
