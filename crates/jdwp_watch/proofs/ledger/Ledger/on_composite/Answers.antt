use Rattle.std.proofs.Common.{◌≡◌, ℕ, Some, refl, subst, ap, ◌∙◌}
use Rattle.jdwp_apart.specs.Following.{since}
use Rattle.jdwp_apart.specs.Watch.{later}
use Rattle.jdwp_watch.specs.declared.standing.Change.{Change}
use Rattle.jdwp_watch.specs.declared.standing.Change.TheVariants.{Reported}
use Rattle.jdwp_watch.specs.declared.told.Stops.{Stops}
use Rattle.jdwp_watch.specs.Ledgers.{Account, HasReported}
use Rattle.jdwp_watch.specs.Standings.{changed}
use Rattle.jdwp_watch.specs.Tables.{at, change_for}
use Rattle.jdwp_watch.specs.Tellings.{stops_in}
use Rattle.jdwp_watch.specs.Watching.{others_by}
use Rattle.jdwp_watch.proofs.Accounts.{reported-account}
use Rattle.jdwp_watch.proofs.ledger.Ledger.on_composite.Goals as goal

pub returns-clause-ok : goal.returns-clause-ok
returns-clause-ok c =
    let i = c.self.inside in
    let composite = c.args.composite.now in
    let old : Account = record { asked = i.asked; answered = i.answered; past = i.past; table = i.standings; made = i.made } in
    let new : Account = record { asked = i.asked; answered = i.answered; past = c.later-self-inside.result; table = c.change.new.self; made = c.clear.new.self } in
    let after = later i.past (since i.made composite) in
    let is : c.later-after.result ≡ after = c.later-after.ensures ∙ ap (later i.past) c.since.ensures in
    let found = stops_in composite in
    let f = λ (a : ℕ) (stops : Stops) (others : Change) (t : ℕ). changed (change_for stops.thread (Reported a stops.own (Some i.asked)) others t) (at i.standings t) in
    subst (λ (a : Account). HasReported composite a new) c.self.view_is
    (reported-account i.packets 0 old new composite c.self.invariant.kept c.self.invariant.kept.few refl (c.later-self-inside.ensures ∙ ap (λ (a : ℕ). later a i.answered) is) c.clear.ensures
    (λ t. c.in_ok-change.ensures.ok t ∙ (ap (λ (o : Change). f c.later-after.result c.of-stops.result o t) c.others_stopped-others.ensures
    ∙ (ap (λ (a : ℕ). f a c.of-stops.result (others_by a c.of-stops.result.others) t) is
    ∙ ap (λ (x : Stops). f after x (others_by after x.others) t) c.of-stops.ensures))))
