use Rattle.std.proofs.Common.{rules, arith}
use Rattle.std.proofs.lemmas.Grind.{common_steps}
use Rattle.jdwp_wire.proofs.frame.find_packet.Goals as goal

pub returns-then-bytes-used : goal.returns-then-bytes-used
returns-then-bytes-used c = search rules

pub returns : goal.returns
returns c = grind (arith, common_steps)

pub slice_bounds-body-end : goal.slice_bounds-body-end
slice_bounds-body-end c = search rules
