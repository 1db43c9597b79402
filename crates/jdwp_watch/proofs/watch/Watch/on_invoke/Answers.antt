use Rattle.std.proofs.Common.{Option, refl, ap, ◌∙◌}
use Rattle.jdwp_value.specs.declared.id.ObjectId.{ObjectId}
use Rattle.jdwp_apart.specs.Watch.{invokes}
use Rattle.jdwp_watch.specs.declared.standing.Change.{Change}
use Rattle.jdwp_watch.specs.declared.standing.Change.TheVariants.{Invoked}
use Rattle.jdwp_watch.specs.Standings.{changed}
use Rattle.jdwp_watch.specs.Tables.{at, change_for}
use Rattle.jdwp_watch.specs.Watching.{Watching, invocation_of, watch_of}
use Rattle.jdwp_watch.proofs.Watched.{OnlyTable, invoked-watch}
use Rattle.jdwp_watch.proofs.watch.Watch.on_invoke.Goals as goal

pub returns-clause-ok : goal.returns-clause-ok
returns-clause-ok c =
    let i = c.self.inside in
    let v : Watching = record { one_by_one = i.one_by_one; answered = i.answered; pending = i.waiting; past = i.past; table = i.standings } in
    let w : Watching = record { one_by_one = i.one_by_one; answered = i.answered; pending = i.waiting; past = i.past; table = c.change.new.self } in
    let only : OnlyTable v w = record { one_by_one = refl; answered = refl; pending = refl; past = refl } in
    invoked-watch i.packets v w c.args.invocation c.self.invariant c.in_ok-packets.ensures.few only
    (λ t. c.in_ok-change.ensures.ok t ∙ ap (λ (both : Option ObjectId × Change). changed (change_for both.0 Invoked both.1 t) (at i.standings t)) c.resumed_by-thread.ensures)
    ∙ ap (λ (x : Watching). invokes (watch_of x) (invocation_of c.args.invocation)) c.self.view_is
