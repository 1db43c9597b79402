use Rattle.std.proofs.Common.{◌++◌, ◌∷◌, [], List, ap, ◌∙◌}
use Rattle.jdwp_watch.specs.declared.standing.Change.{Change}
use Rattle.jdwp_watch.specs.declared.standing.Standing.{Standing}
use Rattle.jdwp_watch.specs.Standings.{changed}
use Rattle.jdwp_watch.specs.Tables.{Table, at}
use Rattle.jdwp_watch.proofs.Tabled.{all-changed, table_of}
use Rattle.jdwp_watch.proofs.standings.Standings.change_all.Goals as goal

pub returns-clause-ok : goal.returns-clause-ok
returns-clause-ok c =
    let i = c.self.inside in
    let others = c.args.others in
    λ t. ap (λ (ms : List Change). at (table_of ms i.entries c.changed-self-inside.result) t) c.in_ok-push.ensures.ok
    ∙ (ap (λ (o : Standing). at (table_of (i.moves ++ others ∷ []) i.entries o) t) c.changed-self-inside.ensures
    ∙ (all-changed i.moves i.entries i.others others c.self.invariant t ∙ ap (λ (table : Table). changed others (at table t)) c.self.view_is))
