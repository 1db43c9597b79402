use Rattle.std.proofs.Common.{arith}
use Rattle.std.proofs.lemmas.Grind.{common_steps}
use Rattle.jdwp_end.proofs.Known.{early_push}
use Rattle.jdwp_partner.proofs.through.Through.note_read.Goals as goal

pub returns-then-count-eq0 : goal.returns-then-count-eq0
returns-then-count-eq0 c = rw (← c.self.view_is) (grind (arith, common_steps, early_push))

pub returns-else-count-eq0 : goal.returns-else-count-eq0
returns-else-count-eq0 c = rw (← c.self.view_is) (grind (arith, common_steps, early_push))
