use Rattle.jdwp_debuggee.proofs.Commands.{does_effect}
use Rattle.jdwp_debuggee.proofs.Happenings.{happens_step}
use Rattle.jdwp_debuggee.proofs.laws.moves_counts_and_requests.Goals as goal

pub returns : goal.returns
returns g c settings =
    let m = g.M.Machine.meaning in
    let law = g.met.M.Machine.lawful in
    record { does = λ now command s. does_effect m law settings now command s; happens = λ now t s h. happens_step m law settings now t s h }
