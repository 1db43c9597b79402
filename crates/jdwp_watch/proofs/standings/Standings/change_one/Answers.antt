use Rattle.std.proofs.Common.{◌≡◌, ℕ, Some, length, sym, ap, ◌∙◌}
use Rattle.jdwp_watch.specs.declared.standing.Change.TheVariants.{Keep}
use Rattle.jdwp_watch.specs.declared.standings.Met.{Met}
use Rattle.jdwp_watch.specs.Standings.{changed}
use Rattle.jdwp_watch.specs.Tables.{Table, at, change_for}
use Rattle.jdwp_watch.proofs.Tabled.{one-changed, table_of, written}
use Rattle.jdwp_watch.proofs.standings.Standings.change_one.Goals as goal

pub returns-clause-ok : goal.returns-clause-ok
returns-clause-ok c =
    let i = c.self.inside in
    let own = c.args.own in
    let t0 = c.args.thread.0 in
    let old : c.of.result ≡ at (table_of i.moves i.entries i.others) t0 = c.of.ensures ∙ sym (ap (λ (table : Table). at table t0) c.self.view_is) in
    let standing : c.changed-standing.result ≡ changed own (at (table_of i.moves i.entries i.others) t0) = c.changed-standing.ensures ∙ ap (changed own) old in
    let met : Met = record { standing = c.changed-standing.result; time = c.len-time.result } in
    let is : met ≡ written (length i.moves) (changed own (at (table_of i.moves i.entries i.others) t0)) = ap (λ (n : ℕ). written n c.changed-standing.result) c.len-time.ensures ∙ ap (written (length i.moves)) standing in
    λ t. one-changed i.moves i.entries c.insert.new.self i.others c.args.thread own met is c.in_ok-insert.ensures.updates t
    ∙ ap (λ (table : Table). changed (change_for (Some c.args.thread) own Keep t) (at table t)) c.self.view_is
