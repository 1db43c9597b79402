use Rattle.std.proofs.Common.{◌∙◌, sym, refl}
use Rattle.jdwp_event.proofs.KindsAsked.{none_match, none_passes}
use Rattle.jdwp_event.proofs.event.gather.Goals as goal

pub returns-then-not-ask_for-clause-gathers : goal.returns-then-not-ask_for-clause-gathers
returns-then-not-ask_for-clause-gathers c =
    let k = rw c.occurrence.ensures at c.ask_for.ensures in
    rw (none_passes c.args.happening.now c.args.requests.now (sym k ∙ c.if-not-ask_for.true)) refl

pub returns-then-not-any_matches-clause-gathers : goal.returns-then-not-any_matches-clause-gathers
returns-then-not-any_matches-clause-gathers c =
    let k = rw c.as_slice.ensures at c.any_matches.ensures in
    rw (none_match c.args.happening.now c.args.requests.now (sym k ∙ c.if-not-any_matches.true)) refl
