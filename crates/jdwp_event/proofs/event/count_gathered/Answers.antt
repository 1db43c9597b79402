use Rattle.std.proofs.Common.{◌∙◌, sym}
use Rattle.jdwp_event.proofs.KindsAsked.{nothing_found, ungathered}
use Rattle.jdwp_event.proofs.event.count_gathered.Goals as goal

pub returns-else-have_count : goal.returns-else-have_count
returns-else-have_count c = λ gathers.
    let counts = sym c.have_count.ensures ∙ c.if-have_count.false in
    sym (ungathered c.args.happening.now c.args.requests.now counts (nothing_found c.args.found.now (sym c.is_some.ensures ∙ c.if-is_some.false) ∙ gathers))
