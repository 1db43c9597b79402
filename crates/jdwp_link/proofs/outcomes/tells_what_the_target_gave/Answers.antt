use Rattle.jdwp_link.proofs.Settled.{tells-as-given}
use Rattle.jdwp_link.proofs.outcomes.tells_what_the_target_gave.Goals as goal

pub returns : goal.returns
returns g c = record { told = tells-as-given g.M.Machine.meaning c.tells_what_was_given.ensures.told; once = c.tells_what_was_given.ensures.once }
