use Rattle.jdwp_orders.proofs.Theorems.{always_in_one_order}
use Rattle.jdwp_orders.proofs.headline.acts_in_one_order.Goals as goal

pub returns : goal.returns
returns g c = always_in_one_order g.M.Machine.meaning c.rests_on_laws.ensures
