use Rattle.std.proofs.Common.{sym, ◌∙◌}
use Rattle.jdwp_mirror.proofs.SeenLemmas.{values-seen}
use Rattle.jdwp_mirror.proofs.threads.Threads.iter.Goals as goal

pub returns-clause-all : goal.returns-clause-all
returns-clause-all c = c.of.ensures.all ∙ (sym (values-seen c.self.inside.moves c.self.inside.entries.entries) ∙ c.self.view_is)
