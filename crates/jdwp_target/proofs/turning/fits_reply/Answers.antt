use Rattle.jdwp_target.proofs.Sendable.{reply-fits}
use Rattle.jdwp_target.proofs.turning.fits_reply.Goals as goal

pub returns : goal.returns
returns g c = λ limit least within.
    reply-fits limit c.args.sizes.now c.args.id c.args.debuggee.now.moment.state.next_packet c.args.done.now.sent c.args.done.now.dies (c.fits_vm_death.ensures c.args.sizes.now limit least)
    c.fits_id.ensures (rw c.next_packet.ensures at c.fits_id-2.ensures) (rw c.error_of.ensures at c.fits_code.ensures.fits) within
