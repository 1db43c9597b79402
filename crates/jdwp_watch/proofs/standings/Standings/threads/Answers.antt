use Rattle.std.proofs.Common.{ℕ, List, map, sym, subst, ap, ◌∙◌}
use Rattle.std.specs.List.Sorted.{IsStrictlySortedBy}
use Rattle.std.specs.Map.{keys_of}
use Rattle.std.specs.Ordering.{nat_cmp}
use Rattle.jdwp_event.specs.Told.{object_id}
use Rattle.jdwp_watch.specs.Tables.{Table, named}
use Rattle.jdwp_watch.proofs.Tabled.{keys-seen}
use Rattle.jdwp_watch.proofs.standings.Standings.threads.Goals as goal

pub returns-clause-all : goal.returns-clause-all
returns-clause-all c =
    let i = c.self.inside in
    c.of.ensures.all ∙ (ap (λ (ks : List ℕ). map object_id ks) (sym (keys-seen i.moves i.entries.entries)) ∙ ap (λ (table : Table). named table) c.self.view_is)

pub returns-clause-rising : goal.returns-clause-rising
returns-clause-rising c =
    let i = c.self.inside in
    subst (λ (ks : List ℕ). IsStrictlySortedBy nat_cmp ks) (sym (keys-seen i.moves i.entries.entries) ∙ ap (λ (table : Table). keys_of table.threads) c.self.view_is) c.of.ensures.rising
