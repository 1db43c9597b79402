use Rattle.std.proofs.Common.{refl}
use Rattle.jdwp_debugger.specs.Debuggers.{attached}
use Rattle.jdwp_attach.specs.PlanRuns.{ended_of}
use Rattle.jdwp_attach.specs.Runs.{at}
use Rattle.jdwp_attach.proofs.Ending.{left-run, left-so, lost-so, stays-run}
use Rattle.jdwp_attach.proofs.RefusedLines.{told-so}
use Rattle.jdwp_attach.proofs.attaching.attach_by_lines.Goals as goal

pub returns-then-flush_both-clause-in_order : goal.returns-then-flush_both-clause-in_order
returns-then-flush_both-clause-in_order g c = λ _.
    let all = c.if-flush_both.ensures.all refl in
    (left-so c.args.plan.now (ended_of c.run_session-how.result) (g.P.Pipe.story c.args.pipe.now) (g.W.Pipe.story c.args.out.now) c.attach.new.self (attached c.args.debugger.now) c.args.turns
    (g.P.Pipe.story c.run_session-how.new.pipe) (g.W.Pipe.story c.run_session-how.new.out) (g.P.Pipe.story c.flush_both.new.pipe) (g.W.Pipe.story c.flush_both.new.out) c.run_session-how.new.debugger
    (c.if-not-attach.ensures.attached refl) all.0 all.1 c.run_session-how.ensures.in_order c.run_session-how.ensures.ended).0

pub returns-then-flush_both-clause-ended : goal.returns-then-flush_both-clause-ended
returns-then-flush_both-clause-ended g c = λ _.
    let all = c.if-flush_both.ensures.all refl in
    (left-so c.args.plan.now (ended_of c.run_session-how.result) (g.P.Pipe.story c.args.pipe.now) (g.W.Pipe.story c.args.out.now) c.attach.new.self (attached c.args.debugger.now) c.args.turns
    (g.P.Pipe.story c.run_session-how.new.pipe) (g.W.Pipe.story c.run_session-how.new.out) (g.P.Pipe.story c.flush_both.new.pipe) (g.W.Pipe.story c.flush_both.new.out) c.run_session-how.new.debugger
    (c.if-not-attach.ensures.attached refl) all.0 all.1 c.run_session-how.ensures.in_order c.run_session-how.ensures.ended).1

pub returns-else-flush_both-clause-in_order : goal.returns-else-flush_both-clause-in_order
returns-else-flush_both-clause-in_order g c = λ _.
    (lost-so c.args.plan.now (ended_of c.lose_what_is_kept.result) (g.P.Pipe.story c.args.pipe.now) (g.W.Pipe.story c.args.out.now) c.attach.new.self (attached c.args.debugger.now) c.args.turns
    (g.P.Pipe.story c.flush_both.new.pipe) (g.W.Pipe.story c.flush_both.new.out) c.lose_what_is_kept.new.debugger (c.if-not-attach.ensures.attached refl)
    (c.lose_what_is_kept.ensures.ends c.args.plan.now (at (g.P.Pipe.story c.args.pipe.now) (g.W.Pipe.story c.args.out.now) c.attach.new.self c.args.turns)
    (g.P.Pipe.story c.run_session-how.new.pipe) (g.W.Pipe.story c.run_session-how.new.out) (g.P.Pipe.story c.flush_both.new.pipe) (g.W.Pipe.story c.flush_both.new.out)
    c.run_session-how.ensures.in_order c.run_session-how.ensures.ended (c.if-flush_both.ensures.fails refl))).0

pub returns-else-flush_both-clause-ended : goal.returns-else-flush_both-clause-ended
returns-else-flush_both-clause-ended g c = λ _.
    (lost-so c.args.plan.now (ended_of c.lose_what_is_kept.result) (g.P.Pipe.story c.args.pipe.now) (g.W.Pipe.story c.args.out.now) c.attach.new.self (attached c.args.debugger.now) c.args.turns
    (g.P.Pipe.story c.flush_both.new.pipe) (g.W.Pipe.story c.flush_both.new.out) c.lose_what_is_kept.new.debugger (c.if-not-attach.ensures.attached refl)
    (c.lose_what_is_kept.ensures.ends c.args.plan.now (at (g.P.Pipe.story c.args.pipe.now) (g.W.Pipe.story c.args.out.now) c.attach.new.self c.args.turns)
    (g.P.Pipe.story c.run_session-how.new.pipe) (g.W.Pipe.story c.run_session-how.new.out) (g.P.Pipe.story c.flush_both.new.pipe) (g.W.Pipe.story c.flush_both.new.out)
    c.run_session-how.ensures.in_order c.run_session-how.ensures.ended (c.if-flush_both.ensures.fails refl))).1

pub returns-then-flush_both-clause-last_flush : goal.returns-then-flush_both-clause-last_flush
returns-then-flush_both-clause-last_flush g c = λ _.
    let all = c.if-flush_both.ensures.all refl in
    left-run c.args.plan.now (ended_of c.run_session-how.result) (g.P.Pipe.story c.args.pipe.now) (g.W.Pipe.story c.args.out.now) c.attach.new.self (attached c.args.debugger.now) c.args.turns
    (g.P.Pipe.story c.run_session-how.new.pipe) (g.W.Pipe.story c.run_session-how.new.out) (g.P.Pipe.story c.flush_both.new.pipe) (g.W.Pipe.story c.flush_both.new.out) c.run_session-how.new.debugger
    (c.if-not-attach.ensures.attached refl) all.0 all.1 c.run_session-how.ensures.in_order c.run_session-how.ensures.ended

pub returns-else-flush_both-clause-last_flush : goal.returns-else-flush_both-clause-last_flush
returns-else-flush_both-clause-last_flush g c = λ _.
    stays-run c.args.plan.now (ended_of c.run_session-how.result) (ended_of c.lose_what_is_kept.result) (g.P.Pipe.story c.args.pipe.now) (g.W.Pipe.story c.args.out.now) c.attach.new.self (attached c.args.debugger.now)
    c.args.turns (g.P.Pipe.story c.run_session-how.new.pipe) (g.W.Pipe.story c.run_session-how.new.out) (g.P.Pipe.story c.flush_both.new.pipe) (g.W.Pipe.story c.flush_both.new.out)
    c.run_session-how.new.debugger c.lose_what_is_kept.new.debugger (c.if-not-attach.ensures.attached refl) c.lose_what_is_kept.ensures.how c.lose_what_is_kept.ensures.left
    c.run_session-how.ensures.in_order c.run_session-how.ensures.ended (c.if-flush_both.ensures.fails refl)

pub returns-then-flush_both-clause-line : goal.returns-then-flush_both-clause-line
returns-then-flush_both-clause-line g c = λ _.
    told-so c.args.plan.now c.run_session-how.result c.attach.new.self (attached c.args.debugger.now) c.run_session-how.new.debugger (c.if-not-attach.ensures.attached refl) c.run_session-how.ensures.line

pub returns-else-flush_both-clause-line : goal.returns-else-flush_both-clause-line
returns-else-flush_both-clause-line g c = λ _.
    told-so c.args.plan.now c.lose_what_is_kept.result c.attach.new.self (attached c.args.debugger.now) c.lose_what_is_kept.new.debugger (c.if-not-attach.ensures.attached refl)
    (c.lose_what_is_kept.ensures.line c.args.plan.now c.attach.new.self c.run_session-how.ensures.line)
