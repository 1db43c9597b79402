use Rattle.std.proofs.Common.{◌<◌, List, take, get_or, sym, subst}
use Rattle.std.proofs.lemmas.List.{take_more}
use Rattle.jdwp_event.specs.Requests.{Request}
use Rattle.jdwp_event.specs.RequestLists.{AllBelow}
use Rattle.jdwp_event.proofs.Rising.{below_push}
use Rattle.jdwp_event.proofs.requests.place_for.Goals as goal

pub loop-place-preserved : goal.loop-place-preserved
loop-place-preserved c =
    let e = take_more c.args.entries.now c.loop-place.place c.index-entries-place.result c.loop-place-test.true in
    let less : c.index-entries-place.result.asked.id < c.args.id = rw (← c.id.ensures.is) c.if-id.false in
    let lt : (get_or c.args.entries.now c.loop-place.place c.index-entries-place.result).asked.id < c.args.id = rw (← c.index-entries-place.is) less in
    subst (λ (xs : List Request). AllBelow c.args.id xs) (sym e) (below_push c.args.id (take c.loop-place.place c.args.entries.now) _ c.loop-place.invariant lt)
