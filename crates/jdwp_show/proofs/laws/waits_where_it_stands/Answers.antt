use Rattle.jdwp_show.proofs.WaitingLaws.{waits_from, waits_to}
use Rattle.jdwp_show.proofs.laws.waits_where_it_stands.Goals as goal

pub returns : goal.returns
returns c = λ items id command. (λ h. waits_from items id command h, λ h. waits_to items id command h)
