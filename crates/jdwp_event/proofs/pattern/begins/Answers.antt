use Rattle.std.proofs.Common.{◌∙◌}
use Rattle.jdwp_event.proofs.Patterns.{begins_step}
use Rattle.jdwp_event.proofs.pattern.begins.Goals as goal

pub returns-then-front-name : goal.returns-then-front-name
returns-then-front-name c = c.is_same.ensures ∙ begins_step c.args.front.now c.args.name.now
