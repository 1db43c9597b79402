use Rattle.std.proofs.Common.{sym, subst, ap, ◌∙◌}
use Rattle.jdwp_end.specs.Story.{Story}
use Rattle.jdwp_pair.specs.declared.ended.PairEnded.{PairEnded}
use Rattle.jdwp_pair.specs.Connections.{is_disconnected}
use Rattle.jdwp_pair.specs.PlanRuns.{PairsBy, Leaves, Stays}
use Rattle.jdwp_pair.proofs.Planned.{plan-run, still-disconnected}
use Rattle.jdwp_pair.proofs.pairing.pair_in.Goals as goal

pub returns-then-flush_all-clause-by_plan : goal.returns-then-flush_all-clause-by_plan
returns-then-flush_all-clause-by_plan g c =
    let story = g.W.Pipe.story in
    subst (λ (after : Story). PairsBy g.M.Machine.meaning c.args.order c.args.plan.now c.args.rounds c.args.link.now (story c.args.out.now) c.run_plan-ended.new.link c.run_plan-ended.result after)
    (sym (c.flush_all.ensures.all c.if-flush_all.true)) (Leaves c.run_plan-ended.result (story c.run_plan-ended.new.out) c.run_plan-ended.ensures.runs)

pub returns-then-flush_all-clause-ran : goal.returns-then-flush_all-clause-ran
returns-then-flush_all-clause-ran g c =
    let story = g.W.Pipe.story in
    plan-run g.M.Machine.meaning c.args.order c.args.plan.now c.args.rounds c.run_plan-ended.result c.args.link.now (story c.args.out.now) c.run_plan-ended.new.link (story c.run_plan-ended.new.out) c.run_plan-ended.ensures.runs

pub returns-else-flush_all-clause-by_plan : goal.returns-else-flush_all-clause-by_plan
returns-else-flush_all-clause-by_plan g c =
    let story = g.W.Pipe.story in
    subst (λ (how : PairEnded). PairsBy g.M.Machine.meaning c.args.order c.args.plan.now c.args.rounds c.args.link.now (story c.args.out.now) c.run_plan-ended.new.link how (story c.flush_all.new.pipe)) (sym c.unflushed.ensures)
    (Stays c.run_plan-ended.result (story c.run_plan-ended.new.out) (story c.flush_all.new.pipe) c.run_plan-ended.ensures.runs (c.flush_all.ensures.fails c.if-flush_all.false))

pub returns-else-flush_all-clause-ran : goal.returns-else-flush_all-clause-ran
returns-else-flush_all-clause-ran g c =
    let story = g.W.Pipe.story in
    plan-run g.M.Machine.meaning c.args.order c.args.plan.now c.args.rounds c.run_plan-ended.result c.args.link.now (story c.args.out.now) c.run_plan-ended.new.link (story c.run_plan-ended.new.out) c.run_plan-ended.ensures.runs

pub returns-else-flush_all-clause-failed : goal.returns-else-flush_all-clause-failed
returns-else-flush_all-clause-failed g c =
    c.run_plan-ended.ensures.failed ∙ sym (ap is_disconnected c.unflushed.ensures ∙ still-disconnected c.run_plan-ended.result)
