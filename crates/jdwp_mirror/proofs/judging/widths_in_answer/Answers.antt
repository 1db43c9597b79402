use Rattle.std.proofs.Common.{rules}
use Rattle.jdwp_mirror.proofs.judging.widths_in_answer.Goals as goal

pub returns-in-Data : goal.returns-in-Data
returns-in-Data c =
    search rules
