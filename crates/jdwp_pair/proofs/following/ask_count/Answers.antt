use Rattle.jdwp_attach.specs.OwnCounts.{suspend_count}
use Rattle.jdwp_pair.proofs.Keeping.{none-both, some-alone, some-both}
use Rattle.jdwp_pair.proofs.Leading.{on-err, on-ok}
use Rattle.jdwp_pair.proofs.following.ask_count.Goals as goal

pub returns-in-None-clause-asks : goal.returns-in-None-clause-asks
returns-in-None-clause-asks g c = none-both g.M.Machine.meaning (suspend_count c.args.thread.0) c.args.link.now _ c.in-None.is

pub returns-in-Some-clause-asks : goal.returns-in-Some-clause-asks
returns-in-Some-clause-asks g c =
    on-ok c.ask_both.result (λ a. some-both g.M.Machine.meaning (suspend_count c.args.thread.0) c.args.link.now c.ask_both.new.link _ _ _ c.in-Some.is a) c.ask_both.ensures.asks

pub returns-in-Some-clause-stops : goal.returns-in-Some-clause-stops
returns-in-Some-clause-stops g c =
    on-err c.ask_both.result (λ a. some-alone g.M.Machine.meaning (suspend_count c.args.thread.0) c.args.link.now c.ask_both.new.link _ _ c.in-Some.is a) c.ask_both.ensures.stops
