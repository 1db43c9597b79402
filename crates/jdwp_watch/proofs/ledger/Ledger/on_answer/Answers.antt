use Rattle.std.proofs.Common.{◌≡◌, ◌+◌, refl, sym, subst, ap, ◌∙◌}
use Rattle.jdwp_apart.specs.Following.{with_made}
use Rattle.jdwp_watch.specs.Ledgers.{Account, HasAnswered, Teaches}
use Rattle.jdwp_watch.specs.Tables.{Table}
use Rattle.jdwp_watch.proofs.Accounts.{answered-account}
use Rattle.jdwp_watch.proofs.ledger.Ledger.on_answer.Goals as goal

pub returns-clause-ok : goal.returns-clause-ok
returns-clause-ok c =
    let o = c.self.inside in
    let n = c.self-2.inside in
    let command = c.args.command.now in
    let answer = c.args.answer.now in
    let old : Account = record { asked = o.asked; answered = o.answered; past = o.past; table = o.standings; made = o.made } in
    let middle : Account = record { asked = n.asked; answered = n.answered; past = n.past; table = n.standings; made = n.made } in
    let new : Account = record { asked = n.asked; answered = o.answered + 1; past = n.past; table = n.standings; made = c.note.new.self } in
    let same : middle ≡ record old { table = c.learn_told.new.self.table } = c.self-2.view_is ∙ (c.in_ok-learn_told.ensures.others ∙ ap (λ (a : Account). record a { table = c.learn_told.new.self.table }) (sym c.self.view_is)) in
    let taught = subst (λ (a : Account). Teaches (o.answered + 1) command answer a.table c.learn_told.new.self.table) (sym c.self.view_is) c.in_ok-learn_told.ensures.ok in
    let table : n.standings ≡ c.learn_told.new.self.table = ap (λ (a : Account). a.table) same in
    let made : n.made ≡ o.made = ap (λ (a : Account). a.made) same in
    subst (λ (a : Account). HasAnswered command answer a new) c.self.view_is
    (answered-account o.packets 0 old new command answer c.self.invariant.kept c.self.invariant.kept.few refl (ap (λ (a : Account). a.past) same)
    (subst (λ (x : Table). Teaches (o.answered + 1) command answer o.standings x) (sym table) taught)
    (c.note.ensures ∙ (λ j. with_made (c.request_in.ensures j) (o.answered + 1) (made j))))
