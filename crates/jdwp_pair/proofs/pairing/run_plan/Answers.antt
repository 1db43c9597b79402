use Rattle.std.proofs.Common.{sym, subst}
use Rattle.jdwp_pair.specs.declared.ended.PairEnded.{PairEnded}
use Rattle.jdwp_pair.specs.PlanRuns.{Ends, beginning}
use Rattle.jdwp_pair.proofs.Planned.{ends-first}
use Rattle.jdwp_pair.proofs.pairing.run_plan.Goals as goal

pub returns-in-Ok-clause-runs : goal.returns-in-Ok-clause-runs
returns-in-Ok-clause-runs g c = (c.attach.new.link, c.attach.ensures.attaches, c.run_rounds.ensures.ends)

pub returns-clause-runs : goal.returns-clause-runs
returns-clause-runs g c =
    let m = g.M.Machine.meaning in
    let out = g.W.Pipe.story c.args.out.now in
    let first = c.attach.new.link in (
      first,
      c.attach.ensures.attaches,
      subst (λ (how : PairEnded). Ends m c.args.plan.now c.args.rounds how (beginning c.args.order first out) first out) (sym c.in-Err.ensures.ends) (ends-first m c.args.order c.args.plan.now c.args.rounds first out),
    )

pub run_rounds-requires-clause-followed : goal.run_rounds-requires-clause-followed
run_rounds-requires-clause-followed g c = c.attach.ensures.follows c.args.order c.requires
