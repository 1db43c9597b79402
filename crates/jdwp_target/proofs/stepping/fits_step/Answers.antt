use Rattle.jdwp_target.specs.Standings.{stands}
use Rattle.jdwp_target.specs.StepParts.{step_of}
use Rattle.jdwp_target.proofs.Sendable.{step-fits}
use Rattle.jdwp_target.proofs.stepping.fits_step.Goals as goal

pub returns : goal.returns
returns g c =
    let end = c.args._end.now in
    step-fits c.args.sizes.now end c.args.packet (step_of c.args.debuggee.now c.args.done.now) (stands c.args.debuggee.now.moment end.phase) end.phase (c.fits_vm_death.ensures c.args.sizes.now end.limits.packet c.requires.least) c.requires.reports
    c.fits_id.ensures (rw c.next_packet.ensures at c.fits_id-2.ensures)
