use Rattle.std.proofs.Common.{◌∙◌}
use Rattle.jdwp_event.proofs.Patterns.{ends_step}
use Rattle.jdwp_event.proofs.pattern.ends.Goals as goal

pub returns-then-back-name : goal.returns-then-back-name
returns-then-back-name c = c.is_same.ensures ∙ ends_step c.args.back.now c.args.name.now c.if-back-name.true
