use Rattle.std.proofs.Common.{ℕ, subst, sym}
use Rattle.jdwp_wire.specs.Limits.{Limits}
use Rattle.jdwp_debuggee.specs.State.{new_state}
use Rattle.jdwp_link.specs.Links.{new_link}
use Rattle.jdwp_model.specs.Events.{Defer}
use Rattle.jdwp_pair.specs.Events.{Happens}
use Rattle.jdwp_pair.specs.Followers.{IsNewIn}
use Rattle.jdwp_pair.specs.PlanRuns.{PairsBy}
use Rattle.jdwp_pair.proofs.Keeping.{followed-new}
use Rattle.jdwp_pair.proofs.pairing.pair_session.Goals as goal

pub pair_in-requires : goal.pair_in-requires
pair_in-requires g c =
    followed-new g.M.Machine.meaning c.args.order c.args.settings (record { state = new_state (g.M.Machine.meaning.live c.args.machine); machine = c.args.machine }) c.args.defer c.deref_mut.result.now c.in_ok-follower.follower
    (subst (λ (limits : Limits). IsNewIn c.args.order limits c.in_ok-follower.follower) c.limits.ensures c.in_ok-follower.ensures)
    (subst (λ l. Happens g.M.Machine.meaning (Defer c.args.defer) (new_link c.args.settings (record { state = new_state (g.M.Machine.meaning.live c.args.machine); machine = c.args.machine })) l) (sym c.deref_mut.ensures.value) c.in_ok-link.ensures)

pub returns-clause-by_rounds : goal.returns-clause-by_rounds
returns-clause-by_rounds g c = (
  c.deref_mut.result.now,
  c.pair_in.new.link,
  subst
      (λ l. Happens g.M.Machine.meaning (Defer c.args.defer)
      (new_link c.args.settings (record { state = new_state (g.M.Machine.meaning.live c.args.machine); machine = c.args.machine })) l)
      (sym c.deref_mut.ensures.value)
      c.in_ok-link.ensures,
  (subst (λ (n : ℕ). PairsBy g.M.Machine.meaning c.args.order c.args.plan.now n c.deref_mut.result.now (g.W.Pipe.story c.args.out.now) c.pair_in.new.link c.pair_in.result (g.W.Pipe.story c.pair_in.new.out)) c.from-rounds.ensures c.pair_in.ensures.by_plan),
  c.pair_in.ensures.held,
)

pub returns-clause-paired : goal.returns-clause-paired
returns-clause-paired g c = (
  c.args.rounds,
  g.W.Pipe.story c.args.out.now,
  g.W.Pipe.story c.pair_in.new.out,
  (
    c.deref_mut.result.now,
    c.pair_in.new.link,
    subst
        (λ l. Happens g.M.Machine.meaning (Defer c.args.defer)
        (new_link c.args.settings (record { state = new_state (g.M.Machine.meaning.live c.args.machine); machine = c.args.machine })) l)
        (sym c.deref_mut.ensures.value)
        c.in_ok-link.ensures,
    (subst (λ (n : ℕ). PairsBy g.M.Machine.meaning c.args.order c.args.plan.now n c.deref_mut.result.now (g.W.Pipe.story c.args.out.now) c.pair_in.new.link c.pair_in.result (g.W.Pipe.story c.pair_in.new.out)) c.from-rounds.ensures c.pair_in.ensures.by_plan),
    c.pair_in.ensures.held,
  ),
)
