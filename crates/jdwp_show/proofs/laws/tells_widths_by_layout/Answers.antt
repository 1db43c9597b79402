use Rattle.jdwp_show.proofs.DataLaws.{told_by_layout}
use Rattle.jdwp_show.proofs.laws.tells_widths_by_layout.Goals as goal

pub returns : goal.returns
returns c = λ widths shapes body is. told_by_layout widths shapes body is
