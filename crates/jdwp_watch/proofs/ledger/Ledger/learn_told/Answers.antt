use Rattle.std.proofs.Common.{◌+◌, ◌≤◌, sym, subst, arith}
use Rattle.jdwp_action.specs.Actions.{action_of}
use Rattle.jdwp_watch.specs.declared.standing.Change.{Change}
use Rattle.jdwp_watch.specs.declared.standing.Change.TheVariants.{Replied}
use Rattle.jdwp_watch.specs.declared.told.Told.{Told}
use Rattle.jdwp_watch.specs.Standings.{IsUnseen, changed}
use Rattle.jdwp_watch.specs.Watching.{others_of}
use Rattle.jdwp_watch.proofs.Unseen.{unseen-told}
use Rattle.jdwp_watch.proofs.Within.{IsSmall, kept-on, small-told}
use Rattle.jdwp_watch.proofs.ledger.Ledger.learn_told.Goals as goal

pub invariant_of-self-2 : goal.invariant_of-self-2
invariant_of-self-2 c =
    let i = c.self.inside in
    let ticket = c.args.ticket in
    let told = c.of-told.result in
    let le : 0 ≤ i.packets + 1 = omega arith in
    let unseen =
    subst (λ (x : Told). IsUnseen (changed (others_of ticket x.others) i.standings.others)) (sym c.of-told.ensures.told)
    (unseen-told ticket (action_of c.args.command.now) c.args.answer.now i.standings.others c.self.invariant.kept.others) in
    let small = subst (λ (x : Told). IsSmall (others_of ticket x.others)) (sym c.of-told.ensures.told) (small-told ticket (action_of c.args.command.now) c.args.answer.now) in
    record {
      kept = kept-on i.packets c.in_ok-packets.packets 0 0 i.standings c.change.new.self told.thread (Replied ticket told.own) c.others_told-others.result c.self.invariant.kept c.in_ok-packets.ensures.few c.in_ok-packets.ensures.ok le
          c.of-told.ensures.small (subst IsSmall (sym c.others_told-others.ensures) small) c.in_ok-change.ensures.ok c.in_ok-change.ensures.unnamed
          (subst (λ (o : Change). IsUnseen (changed o i.standings.others)) (sym c.others_told-others.ensures) unseen);
      few = c.self.invariant.few;
      asks = c.self.invariant.asks;
    }
