use Rattle.std.proofs.Common.{◌<◌, List, sym, subst}
use Rattle.std.specs.Prelude.{Contains}
use Rattle.jdwp_value.specs.declared.id.ObjectId.{ObjectId}
use Rattle.jdwp_event.specs.Told.{object_id}
use Rattle.jdwp_apart.specs.Watch.{sure}
use Rattle.jdwp_watch.specs.Watching.{Watching, watch_of}
use Rattle.jdwp_watch.proofs.Unseen.{sure-named}
use Rattle.jdwp_watch.proofs.watch.Watch.threads.Goals as goal

pub returns-clause-sure : goal.returns-clause-sure
returns-clause-sure c =
    let i = c.self.inside in
    let w : Watching = record { one_by_one = i.one_by_one; answered = i.answered; pending = i.waiting; past = i.past; table = i.standings } in
    λ t lt. subst (λ (ids : List ObjectId). Contains ids (object_id t)) (sym c.threads.ensures.all)
    (sure-named w c.self.invariant.others t (subst (λ (x : Watching). 0 < sure (watch_of x) t) (sym c.self.view_is) lt))
