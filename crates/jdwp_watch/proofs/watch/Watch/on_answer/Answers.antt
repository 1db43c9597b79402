use Rattle.std.proofs.Common.{◌+◌, ◌≤◌, refl, sym, subst, ap, ◌∙◌, arith}
use Rattle.jdwp_action.specs.Actions.{action_of}
use Rattle.jdwp_apart.specs.Messages.{Reply}
use Rattle.jdwp_apart.specs.Watch.{reads_reply}
use Rattle.jdwp_watch.specs.declared.standing.Change.{Change}
use Rattle.jdwp_watch.specs.declared.standing.Change.TheVariants.{Replied}
use Rattle.jdwp_watch.specs.declared.told.Told.{Told}
use Rattle.jdwp_watch.specs.Standings.{IsUnseen, changed}
use Rattle.jdwp_watch.specs.Tables.{at, change_for}
use Rattle.jdwp_watch.specs.Watching.{Watching, others_of, watch_of}
use Rattle.jdwp_watch.proofs.Watched.{answered-watch}
use Rattle.jdwp_watch.proofs.Unseen.{unseen-told}
use Rattle.jdwp_watch.proofs.Within.{IsSmall, kept-on, small-told}
use Rattle.jdwp_watch.proofs.watch.Watch.on_answer.Goals as goal

pub invariant_of-self-2 : goal.invariant_of-self-2
invariant_of-self-2 c =
    let i = c.self.inside in
    let ticket = i.answered + 1 in
    let told = c.of-told.result in
    let answers = c.self.invariant.answers in
    let le : i.answered + 1 ≤ i.packets + 1 = omega arith in
    let unseen =
    subst (λ (x : Told). IsUnseen (changed (others_of ticket x.others) i.standings.others)) (sym c.of-told.ensures.told)
    (unseen-told ticket (action_of c.args.command.now) c.args.answer.now i.standings.others c.self.invariant.others) in
    let small = subst (λ (x : Told). IsSmall (others_of ticket x.others)) (sym c.of-told.ensures.told) (small-told ticket (action_of c.args.command.now) c.args.answer.now) in
    kept-on i.packets c.in_ok-packets.packets i.answered ticket i.standings c.change.new.self told.thread (Replied ticket told.own) c.others_told-others.result c.self.invariant c.in_ok-packets.ensures.few c.in_ok-packets.ensures.ok le c.of-told.ensures.small
    (subst IsSmall (sym c.others_told-others.ensures) small) c.in_ok-change.ensures.ok c.in_ok-change.ensures.unnamed
    (subst (λ (o : Change). IsUnseen (changed o i.standings.others)) (sym c.others_told-others.ensures) unseen)

pub returns-clause-ok : goal.returns-clause-ok
returns-clause-ok c =
    let i = c.self.inside in
    let ticket = i.answered + 1 in
    let told = c.of-told.result in
    let reply : Reply = record { command = c.args.command.now; answer = c.args.answer.now } in
    let v : Watching = record { one_by_one = i.one_by_one; answered = i.answered; pending = i.waiting; past = i.past; table = i.standings } in
    let w : Watching = record { one_by_one = i.one_by_one; answered = ticket; pending = c.pop.new.self; past = i.past; table = c.change.new.self } in
    answered-watch i.packets i.answered v w reply told c.self.invariant c.self.invariant.few c.of-told.ensures.told refl refl c.pop.ensures refl
    (λ t. c.in_ok-change.ensures.ok t ∙ ap (λ (o : Change). changed (change_for told.thread (Replied ticket told.own) o t) (at i.standings t)) c.others_told-others.ensures)
    ∙ ap (λ (x : Watching). reads_reply (watch_of x) reply) c.self.view_is
