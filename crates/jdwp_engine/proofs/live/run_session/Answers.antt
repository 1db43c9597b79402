use Rattle.std.proofs.Common.{refl, rules}
use Rattle.jdwp_engine.specs.LiveRounds.{Leaves, Stays}
use Rattle.jdwp_engine.proofs.Flushed.{flushed-in-order}
use Rattle.jdwp_engine.proofs.live.run_session.Goals as goal

pub returns-then-flush_all-clause-in_order : goal.returns-then-flush_all-clause-in_order
returns-then-flush_all-clause-in_order g c =
    rw (c.if-flush_all.ensures.all (search rules))
    (flushed-in-order c.args.target.now (g.P.LivePipe.story c.args.pipe.now).through (g.P.LivePipe.story c.run_rounds-ended.new.pipe).through c.run_rounds-ended.new.target c.run_rounds-ended.ensures.in_order)

pub returns-then-flush_all-clause-ended : goal.returns-then-flush_all-clause-ended
returns-then-flush_all-clause-ended g c = rw (c.if-flush_all.ensures.all (search rules)) c.run_rounds-ended.ensures.ended

pub returns-then-flush_all-clause-rounds : goal.returns-then-flush_all-clause-rounds
returns-then-flush_all-clause-rounds g c =
    rw (c.if-flush_all.ensures.all (search rules))
    (Leaves c.run_rounds-ended.result c.run_rounds-ended.new.target (g.P.LivePipe.story c.run_rounds-ended.new.pipe) c.run_rounds-ended.ensures.rounds)

pub returns-else-flush_all-clause-in_order : goal.returns-else-flush_all-clause-in_order
returns-else-flush_all-clause-in_order g c =
    (c.lose_what_is_kept.ensures.ends c.args.target.now (g.P.LivePipe.story c.args.pipe.now).through (g.P.LivePipe.story c.run_rounds-ended.new.pipe).through (g.P.LivePipe.story c.flush_all.new.pipe).through
    c.run_rounds-ended.ensures.in_order c.run_rounds-ended.ensures.ended (c.if-flush_all.ensures.fails refl).0).0

pub returns-else-flush_all-clause-ended : goal.returns-else-flush_all-clause-ended
returns-else-flush_all-clause-ended g c =
    (c.lose_what_is_kept.ensures.ends c.args.target.now (g.P.LivePipe.story c.args.pipe.now).through (g.P.LivePipe.story c.run_rounds-ended.new.pipe).through (g.P.LivePipe.story c.flush_all.new.pipe).through
    c.run_rounds-ended.ensures.in_order c.run_rounds-ended.ensures.ended (c.if-flush_all.ensures.fails refl).0).1

pub returns-else-flush_all-clause-rounds : goal.returns-else-flush_all-clause-rounds
returns-else-flush_all-clause-rounds g c =
    rw (c.lose_what_is_kept.ensures.how, c.lose_what_is_kept.ensures.left)
    (Stays c.run_rounds-ended.result c.run_rounds-ended.new.target (g.P.LivePipe.story c.run_rounds-ended.new.pipe) (g.P.LivePipe.story c.flush_all.new.pipe) c.run_rounds-ended.ensures.rounds
    (c.if-flush_all.ensures.fails refl))
