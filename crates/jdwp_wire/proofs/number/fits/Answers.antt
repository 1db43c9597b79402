use Rattle.std.proofs.Common.{refl, arith, rules}
use Rattle.jdwp_wire.proofs.Wide.{wide_at}
use Rattle.jdwp_wire.proofs.number.fits.Goals as goal

pub returns-in_default : goal.returns-in_default
returns-in_default c = (λ t. wide_at c.args.number c.args.width (omega arith) (omega arith), λ h. refl)

pub returns-in-1 : goal.returns-in-1
returns-in-1 c = search rules
