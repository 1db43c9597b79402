use Rattle.std.proofs.Common.{◌≡◌, ◌+◌, ◌++◌, ◌∷◌, [], ℕ, List, Some, length, sym, ap, ◌∙◌}
use Rattle.std.proofs.lemmas.List.{length_push}
use Rattle.jdwp_watch.specs.declared.standing.Change.{Change}
use Rattle.jdwp_watch.specs.declared.standing.Standing.{Standing}
use Rattle.jdwp_watch.specs.declared.standings.Met.{Met}
use Rattle.jdwp_watch.specs.Standings.{changed}
use Rattle.jdwp_watch.specs.Tables.{Table, at, change_for}
use Rattle.jdwp_watch.proofs.Tabled.{both-changed, table_of, written}
use Rattle.jdwp_watch.proofs.standings.Standings.change_both.Goals as goal

pub returns-in-Ok-clause-ok : goal.returns-in-Ok-clause-ok
returns-in-Ok-clause-ok c =
    let i = c.self.inside in
    let own = c.args.own in
    let others = c.args.others in
    let t0 = c.args.thread.0 in
    let old : c.of.result ≡ at (table_of i.moves i.entries i.others) t0 = c.of.ensures ∙ sym (ap (λ (table : Table). at table t0) c.self.view_is) in
    let standing : c.changed-standing.result ≡ changed own (at (table_of i.moves i.entries i.others) t0) = c.changed-standing.ensures ∙ ap (changed own) old in
    let moves : c.push.new.self ≡ i.moves ++ others ∷ [] = c.in_ok-push.ensures.ok in
    let time : c.len-time.result ≡ length i.moves + 1 = c.len-time.ensures ∙ (ap (λ (ms : List Change). length ms) moves ∙ length_push i.moves others) in
    let met : Met = record { standing = c.changed-standing.result; time = c.len-time.result } in
    let is : met ≡ written (length i.moves + 1) (changed own (at (table_of i.moves i.entries i.others) t0)) = ap (λ (n : ℕ). written n c.changed-standing.result) time ∙ ap (written (length i.moves + 1)) standing in
    λ t. ap (λ (ms : List Change). at (table_of ms c.insert.new.self c.changed-self-inside.result) t) moves
    ∙ (ap (λ (o : Standing). at (table_of (i.moves ++ others ∷ []) c.insert.new.self o) t) c.changed-self-inside.ensures
    ∙ (both-changed i.moves i.entries c.insert.new.self i.others c.args.thread own others met c.self.invariant is c.in-Ok.ensures.updates t
    ∙ ap (λ (table : Table). changed (change_for (Some c.args.thread) own others t) (at table t)) c.self.view_is))
