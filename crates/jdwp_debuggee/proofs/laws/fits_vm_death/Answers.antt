use Rattle.jdwp_debuggee.proofs.Fitting.{death-fits}
use Rattle.jdwp_debuggee.proofs.laws.fits_vm_death.Goals as goal

pub returns : goal.returns
returns c = death-fits
