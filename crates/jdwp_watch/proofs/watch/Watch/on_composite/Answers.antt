use Rattle.std.proofs.Common.{ℕ, ◌+◌, ◌≤◌, Some, refl, sym, subst, ap, ◌∙◌, arith}
use Rattle.jdwp_apart.specs.Messages.{Composite}
use Rattle.jdwp_apart.specs.Watch.{later, reads_composite}
use Rattle.jdwp_watch.specs.declared.standing.Change.{Change}
use Rattle.jdwp_watch.specs.declared.standing.Change.TheVariants.{Reported}
use Rattle.jdwp_watch.specs.declared.told.Stops.{Stops}
use Rattle.jdwp_watch.specs.Standings.{IsUnseen, changed}
use Rattle.jdwp_watch.specs.Tables.{at, change_for}
use Rattle.jdwp_watch.specs.Tellings.{stops_in}
use Rattle.jdwp_watch.specs.Watching.{Watching, others_by, watch_of}
use Rattle.jdwp_watch.proofs.Watched.{composite-watch}
use Rattle.jdwp_watch.proofs.Unseen.{unseen-stopped}
use Rattle.jdwp_watch.proofs.Within.{IsSmall, kept-on, small-stopped}
use Rattle.jdwp_watch.proofs.watch.Watch.on_composite.Goals as goal

pub invariant_of-self-2 : goal.invariant_of-self-2
invariant_of-self-2 c =
    let i = c.self.inside in
    let stops = c.of-stops.result in
    let answers = c.self.invariant.answers in
    let le : i.answered ≤ i.packets + 1 = omega arith in
    kept-on i.packets c.in_ok-packets.packets i.answered i.answered i.standings c.change.new.self stops.thread (Reported c.later-after.result stops.own (Some (i.answered + c.len.result))) c.others_stopped-others.result c.self.invariant
    c.in_ok-packets.ensures.few c.in_ok-packets.ensures.ok le tt (subst IsSmall (sym c.others_stopped-others.ensures) (small-stopped c.later-after.result stops.others)) c.in_ok-change.ensures.ok
    c.in_ok-change.ensures.unnamed
    (subst (λ (o : Change). IsUnseen (changed o i.standings.others)) (sym c.others_stopped-others.ensures) (unseen-stopped c.later-after.result stops.others i.standings.others c.self.invariant.others))

pub returns-clause-ok : goal.returns-clause-ok
returns-clause-ok c =
    let i = c.self.inside in
    let s : Composite = record { meaning = c.args.composite.now; since = c.args.since } in
    let v : Watching = record { one_by_one = i.one_by_one; answered = i.answered; pending = i.waiting; past = i.past; table = i.standings } in
    let w : Watching = record { one_by_one = i.one_by_one; answered = i.answered; pending = i.waiting; past = c.later-past.result; table = c.change.new.self } in
    let after = later i.past c.args.since in
    let f = λ (a : ℕ) (stops : Stops) (asked : ℕ) (others : Change) (t : ℕ). changed (change_for stops.thread (Reported a stops.own (Some asked)) others t) (at i.standings t) in
    let found = stops_in c.args.composite.now in
    composite-watch i.packets i.answered v w s c.self.invariant c.self.invariant.few refl refl refl
    (c.later-past.ensures ∙ (ap (λ (a : ℕ). later a c.counted_before-counted.result) c.later-after.ensures ∙ ap (λ (n : ℕ). later after n) c.counted_before-counted.ensures))
    (λ t. c.in_ok-change.ensures.ok t ∙ (ap (λ (o : Change). f c.later-after.result c.of-stops.result (i.answered + c.len.result) o t) c.others_stopped-others.ensures
    ∙ (ap (λ (a : ℕ). f a c.of-stops.result (i.answered + c.len.result) (others_by a c.of-stops.result.others) t) c.later-after.ensures
    ∙ (ap (λ (x : Stops). f after x (i.answered + c.len.result) (others_by after x.others) t) c.of-stops.ensures
    ∙ ap (λ (n : ℕ). f after found (i.answered + n) (others_by after found.others) t) c.len.ensures.len))))
    ∙ ap (λ (x : Watching). reads_composite (watch_of x) s) c.self.view_is
