use Rattle.jdwp_program.proofs.StreamLaws.{nothing_shown}
use Rattle.jdwp_program.proofs.LiveLaws.{no_fault}
use Rattle.jdwp_program.proofs.live.LiveShow.under.Goals as goal

pub returns : goal.returns
returns c = λ out. (c.under.ensures, nothing_shown c.args.table out, no_fault c.args.table)
