use Rattle.std.proofs.Common.{None, Ok, Err}
use Rattle.jdwp_partner.proofs.Laws.{stands-of, steps-keep, still-of}
use Rattle.jdwp_partner.proofs.rounds.step.Goals as goal

pub returns-in-Ok-clause-keeps : goal.returns-in-Ok-clause-keeps
returns-in-Ok-clause-keeps g c = steps-keep g.M.Machine.meaning None c.args.target.now c.step_each.new.target (Ok c.in-Ok.stepped) c.in-Ok.ensures.each

pub returns-in-Ok-clause-still : goal.returns-in-Ok-clause-still
returns-in-Ok-clause-still g c = λ none.
    still-of g.M.Machine.meaning c.args.target.now c.step_each.new.target c.in-Ok.stepped none c.in-Ok.ensures.stepped c.in-Ok.ensures.each c.requires.idle c.requires.asks c.requires.none

pub returns-in-Err-clause-keeps : goal.returns-in-Err-clause-keeps
returns-in-Err-clause-keeps g c = steps-keep g.M.Machine.meaning None c.args.target.now c.step_each.new.target (Err c.in-Err.fault) c.in-Err.ensures.each

pub returns-in-Err-clause-fails : goal.returns-in-Err-clause-fails
returns-in-Err-clause-fails g c = λ rounds. rw c.of.ensures (stands-of g.M.Machine.meaning c.in-Err.fault c.step_each.new.target rounds)
