use Rattle.jdwp_program.proofs.LiveLaws.{ended_on}
use Rattle.jdwp_program.proofs.live.LiveShow.feed.Goals as goal

pub returns-in-Going : goal.returns-in-Going
returns-in-Going g c = λ table text start shows. let so = rw c.in-Going.is at shows in c.show_on.ensures table text start so.0 so.1

pub returns-in-Ended : goal.returns-in-Ended
returns-in-Ended g c = λ table text start shows. ended_on table c.in-Ended.told text c.args.bytes.now start _ (rw c.in-Ended.is at shows)
