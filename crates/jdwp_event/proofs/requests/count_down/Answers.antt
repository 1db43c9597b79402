use Rattle.std.proofs.Common.{◌≡◌, ◌∙◌, sym, subst, List, length, arith}
use Rattle.std.proofs.lemmas.List.{with_items_is}
use Rattle.jdwp_event.specs.Requests.{Request}
use Rattle.jdwp_event.specs.RequestLists.{AreRising}
use Rattle.jdwp_event.specs.KindsAsked.{AreAsked}
use Rattle.jdwp_event.proofs.KindsAsked.{none_counted, still_asked}
use Rattle.jdwp_event.proofs.Rising.{counted_rising}
use Rattle.jdwp_event.proofs.requests.count_down.Goals as goal

pub invariant_of-requests : goal.invariant_of-requests
invariant_of-requests c =
    let n : length c.count_each.new.entries ≡ c.requests.inside.entries.len = omega arith in
    let e = rw c.deref_mut.ensures.value at c.count_each.ensures in
    let all = sym (with_items_is c.requests.inside.entries c.count_each.new.entries n ∙ e) in (
      subst (λ (xs : List Request). AreRising xs) all (counted_rising c.args.happening.now c.requests.inside.entries.items c.requests.invariant.0),
      subst (λ (xs : List Request). AreAsked c.requests.inside.kinds xs) all (still_asked c.requests.inside.kinds c.args.happening.now c.requests.inside.entries.items c.requests.invariant.1),
    )

pub returns-else-ask_for : goal.returns-else-ask_for
returns-else-ask_for c =
    let k = rw c.occurrence.ensures at c.ask_for.ensures in
    sym (none_counted c.args.happening.now c.args.requests.now (sym k ∙ c.if-ask_for.false))
