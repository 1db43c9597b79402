use Rattle.std.proofs.Common.{◌≡◌, ap, ◌∙◌, rules}
use Rattle.std.proofs.lemmas.Map.Made.{filter_same_pairs}
use Rattle.std.specs.BTreeSet.{contains}
use Rattle.std.specs.Ordering.{nat_cmp}
use Rattle.jdwp_mirror.specs.KnownThreads.{only}
use Rattle.jdwp_mirror.proofs.SeenLemmas.{only_kept}
use Rattle.jdwp_mirror.proofs.KeepingLemmas.{only-kept}
use Rattle.jdwp_mirror.proofs.threads.Threads.keep_only.Goals as goal

pub invariant_of-self : goal.invariant_of-self
invariant_of-self c =
    let i = c.self.inside in
    let test = contains nat_cmp c.args.ids.now in
    let entries : c.retain.new.self.entries ≡ only_kept test i.entries.entries = filter_same_pairs _ (λ x. test x.1.known.id.0) _ (λ k v b w f' t. search rules) _ _ c.retain.ensures.filtered in
    let numbers = filter_same_pairs _ (λ x. test x.0) _ (λ k v b w f' t. search rules) _ _ c.retain-2.ensures.filtered in
    let all = only-kept test i.moves i.entries.entries c.retain.new.self.entries i.numbers c.retain-2.new.self c.self.invariant entries c.retain.ensures.ordered numbers in
    all.0

pub returns : goal.returns
returns c =
    let i = c.self.inside in
    let test = contains nat_cmp c.args.ids.now in
    let entries : c.retain.new.self.entries ≡ only_kept test i.entries.entries = filter_same_pairs _ (λ x. test x.1.known.id.0) _ (λ k v b w f' t. search rules) _ _ c.retain.ensures.filtered in
    let numbers = filter_same_pairs _ (λ x. test x.0) _ (λ k v b w f' t. search rules) _ _ c.retain-2.ensures.filtered in
    let all = only-kept test i.moves i.entries.entries c.retain.new.self.entries i.numbers c.retain-2.new.self c.self.invariant entries c.retain.ensures.ordered numbers in
    all.1 ∙ ap (only test) c.self.view_is
