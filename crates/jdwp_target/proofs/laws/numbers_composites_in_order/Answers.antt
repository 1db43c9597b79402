use Rattle.jdwp_target.proofs.Numbered.{life-numbers}
use Rattle.jdwp_target.proofs.laws.numbers_composites_in_order.Goals as goal

pub returns : goal.returns
returns g c = λ settings s life. life-numbers g.M.Machine.meaning settings s life
