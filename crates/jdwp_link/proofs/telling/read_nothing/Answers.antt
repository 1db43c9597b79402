use Rattle.jdwp_link.proofs.Tells.{nothing-read}
use Rattle.jdwp_link.proofs.telling.read_nothing.Goals as goal

pub returns : goal.returns
returns c = nothing-read c.args.debugger.now c.in-Ok.field-0 c.turn.new.self c.requires c.in-Ok.ensures.turns
