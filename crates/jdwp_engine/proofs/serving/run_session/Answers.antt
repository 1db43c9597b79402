use Rattle.jdwp_engine.specs.Sessions.{Leaves, Stays}
use Rattle.std.proofs.Common.{◌∙◌, sym}
use Rattle.jdwp_engine.proofs.Rounding.{no-limit}
use Rattle.jdwp_engine.proofs.serving.run_session.Goals as goal

pub returns-in-Err-clause-in_order : goal.returns-in-Err-clause-in_order
returns-in-Err-clause-in_order g c =
    (c.lose_what_is_kept.ensures.ends c.args.target.now (g.P.Pipe.story c.args.pipe.now) (g.P.Pipe.story c.run_rounds-ended.new.pipe) (g.P.Pipe.story c.flush.new.self)
    c.run_rounds-ended.ensures.in_order c.run_rounds-ended.ensures.ended c.in-Err.ensures).0

pub returns-in-Err-clause-ended : goal.returns-in-Err-clause-ended
returns-in-Err-clause-ended g c =
    (c.lose_what_is_kept.ensures.ends c.args.target.now (g.P.Pipe.story c.args.pipe.now) (g.P.Pipe.story c.run_rounds-ended.new.pipe) (g.P.Pipe.story c.flush.new.self)
    c.run_rounds-ended.ensures.in_order c.run_rounds-ended.ensures.ended c.in-Err.ensures).1

pub returns-in-Err-clause-limit : goal.returns-in-Err-clause-limit
returns-in-Err-clause-limit g c = λ e. absurd (no-limit c.run_rounds-ended.result (sym c.lose_what_is_kept.ensures.how ∙ e))

pub returns-in-Err-clause-rounds : goal.returns-in-Err-clause-rounds
returns-in-Err-clause-rounds g c =
    rw (c.lose_what_is_kept.ensures.how, c.lose_what_is_kept.ensures.left)
    (Stays c.run_rounds-ended.result c.run_rounds-ended.new.target (g.P.Pipe.story c.run_rounds-ended.new.pipe) (g.P.Pipe.story c.flush.new.self) c.run_rounds-ended.ensures.rounds c.in-Err.ensures)

pub returns-in-Ok-clause-limit : goal.returns-in-Ok-clause-limit
returns-in-Ok-clause-limit g c = λ e. rw (c.in-Ok.ensures {u = tt}) (c.run_rounds-ended.ensures.limit e)

pub returns-in-Ok-clause-rounds : goal.returns-in-Ok-clause-rounds
returns-in-Ok-clause-rounds g c =
    rw (c.in-Ok.ensures {u = tt})
    (Leaves c.run_rounds-ended.result c.run_rounds-ended.new.target (g.P.Pipe.story c.run_rounds-ended.new.pipe) c.run_rounds-ended.ensures.rounds)
