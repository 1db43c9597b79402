use Rattle.std.proofs.Common.{rules}
use Rattle.jdwp_attach.proofs.plans.reading.read_words.Goals as goal

pub returns-then-eq-4 : goal.returns-then-eq-4
returns-then-eq-4 c = search rules
