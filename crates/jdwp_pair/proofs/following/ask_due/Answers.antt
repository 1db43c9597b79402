use Rattle.jdwp_attach.specs.OwnCounts.{suspend_count}
use Rattle.jdwp_pair.proofs.Keeping.{count-asked, count-followed, count-none, count-unasked}
use Rattle.jdwp_pair.proofs.Leading.{on-err, on-ok}
use Rattle.jdwp_pair.proofs.following.ask_due.Goals as goal

pub returns-in-None-clause-counts : goal.returns-in-None-clause-counts
returns-in-None-clause-counts g c = λ order k. count-none g.M.Machine.meaning order c.args.link.now

pub returns-in-Some-clause-counts : goal.returns-in-Some-clause-counts
returns-in-Some-clause-counts g c =
    on-ok c.ask_count.result (λ a. λ order k. count-asked g.M.Machine.meaning c.in-Some.thread.0 order c.args.link.now c.args.follower.now c.ask_count.new.link c.ask_count.new.follower k a) c.ask_count.ensures.asks

pub returns-in-Some-clause-follows : goal.returns-in-Some-clause-follows
returns-in-Some-clause-follows g c =
    on-ok c.ask_count.result (λ a. λ order k. count-followed g.M.Machine.meaning (suspend_count c.in-Some.thread.0) order c.args.link.now c.args.follower.now c.ask_count.new.link c.ask_count.new.follower k a) c.ask_count.ensures.asks

pub returns-in-Some-clause-stops : goal.returns-in-Some-clause-stops
returns-in-Some-clause-stops g c =
    on-err c.ask_count.result (λ a. λ order k. count-unasked g.M.Machine.meaning c.in-Some.thread.0 order c.args.link.now c.args.follower.now c.ask_count.new.link k a) c.ask_count.ensures.stops
