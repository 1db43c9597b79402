use Rattle.std.proofs.Common.{◌++◌, sym, codes}
use Rattle.std.proofs.lemmas.List.{append-nil}
use Rattle.jdwp_show.specs.DataText.{list_text}
use Rattle.jdwp_show.proofs.TextLemmas.{joined, grows_as}
use Rattle.jdwp_show.proofs.composite_text.push_composite.Goals as goal

pub returns : goal.returns
returns c =
    let x = c.args.composite.now in
    let events = joined c.push_str-2.ensures.grows (rw c.events.ensures at c.push_events.ensures) in
    let policy = joined c.push_str.ensures.grows (rw c.policy.ensures at c.push_number.ensures) in
    joined policy (grows_as (sym (append-nil (codes " " ++ list_text x.events))) events)
