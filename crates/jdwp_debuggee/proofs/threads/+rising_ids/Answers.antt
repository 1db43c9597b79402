use Rattle.jdwp_debuggee.proofs.ThreadsListed.{risen}
use Rattle.jdwp_debuggee.proofs.threads.+rising_ids.Goals as goal

pub returns : goal.returns
returns t c =
    let place = rw c.deref.ensures.value at c.place_for-place.ensures.value in
    rw (c.in_ok-insert.ensures.items, place) (risen c.args.entries.now _ c.in_ok-ids.ids.items c.in-len1-up.len_at_least c.in_ok-ids.ensures)
