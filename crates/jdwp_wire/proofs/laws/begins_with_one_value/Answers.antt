use Rattle.jdwp_wire.proofs.Takes.{one_value}
use Rattle.jdwp_wire.proofs.laws.begins_with_one_value.Goals as goal

pub returns : goal.returns
returns g c = λ w x y code other rest more p q e. one_value (g.T.Wire.decoded w 0) (g.T.Wire.encodes w) (g.met.T.Wire.again w 0) x y code other rest more p q e
