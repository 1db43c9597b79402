use Rattle.jdwp_show.proofs.WidthsLaws.{widths_from, widths_to}
use Rattle.jdwp_show.proofs.laws.tells_widths_first.Goals as goal

pub returns : goal.returns
returns c = λ items widths. (λ h. widths_from items widths h, λ h. widths_to items widths h)
