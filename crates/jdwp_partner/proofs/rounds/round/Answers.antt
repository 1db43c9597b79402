use Rattle.std.proofs.Common.{Err}
use Rattle.jdwp_end.specs.Ends.{front_of}
use Rattle.jdwp_partner.proofs.Laws.{stands-of, turn-keeps}
use Rattle.jdwp_partner.proofs.rounds.round.Goals as goal

pub returns-in-Err-clause-keeps : goal.returns-in-Err-clause-keeps
returns-in-Err-clause-keeps g c = turn-keeps g.M.Machine.meaning (front_of c.args.target.now.end) c.args.target.now c.turn.new.self (Err c.in-Err.fault) c.in-Err.ensures.turns

pub returns-in-Err-clause-fails : goal.returns-in-Err-clause-fails
returns-in-Err-clause-fails g c = λ rounds. rw c.of.ensures (stands-of g.M.Machine.meaning c.in-Err.fault c.turn.new.self rounds)
