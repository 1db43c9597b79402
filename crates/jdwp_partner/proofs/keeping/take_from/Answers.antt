use Rattle.std.proofs.Common.{◌∙◌}
use Rattle.jdwp_partner.proofs.Laws.{taken-none}
use Rattle.jdwp_partner.proofs.keeping.take_from.Goals as goal

pub returns-clause-none : goal.returns-clause-none
returns-clause-none g c = λ idle. c.take.ensures.taken ∙ taken-none c.take.result c.args.target.now idle
