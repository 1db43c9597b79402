use Rattle.std.proofs.Common.{◌<◌, List, sym, subst}
use Rattle.std.specs.Prelude.{Contains}
use Rattle.jdwp_value.specs.declared.id.ObjectId.{ObjectId}
use Rattle.jdwp_event.specs.Told.{object_id}
use Rattle.jdwp_watch.specs.Ledgers.{Account, bound_at}
use Rattle.jdwp_watch.specs.Naming.{Covers, is_named_at}
use Rattle.jdwp_watch.proofs.Naming.{named-covered}
use Rattle.jdwp_watch.proofs.Unseen.{told-named}
use Rattle.jdwp_watch.proofs.ledger.Ledger.threads.Goals as goal

pub returns-clause-told : goal.returns-clause-told
returns-clause-told c = λ t lt.
    let i = c.self.inside in
    subst (λ (ids : List ObjectId). Contains ids (object_id t)) (sym c.threads.ensures.all)
    (told-named i.standings c.self.invariant.kept.others t (subst (λ (a : Account). 0 < bound_at a t) (sym c.self.view_is) lt))

pub returns-clause-covers : goal.returns-clause-covers
returns-clause-covers c =
    let i = c.self.inside in
    let a : Account = record { asked = i.asked; answered = i.answered; past = i.past; table = i.standings; made = i.made } in
    subst (λ (x : Account). Covers (is_named_at x) c.threads.result) c.self.view_is (named-covered a c.threads.result c.self.invariant.kept.others c.threads.ensures.all c.threads.ensures.rising)
