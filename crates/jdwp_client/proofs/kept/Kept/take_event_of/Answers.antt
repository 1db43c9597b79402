use Rattle.std.proofs.Common.{◌<◌, arith, refl, sym, w32}
use Rattle.std.specs.VecDeque.{deque_len}
use Rattle.std.proofs.lemmas.Int.{to_z-of_z}
use Rattle.jdwp_client.specs.Keeping.{has_request}
use Rattle.jdwp_client.proofs.Lists.{position-within}
use Rattle.jdwp_client.proofs.Taking.{takes-at}
use Rattle.jdwp_client.proofs.kept.Kept.take_event_of.Goals as goal

pub returns-clause-event : goal.returns-clause-event
returns-clause-event c =
    let p = has_request c.args.request in
    let xs = c.args.self.now.events.items in
    let same = to_z-of_z w32 c.args.request c.ranges.request in
    let first = rw same at (sym c.in_ok-place.ensures) in
    let within : c.in_ok-place.place < deque_len c.args.self.now.events = omega (arith, position-within p xs c.in_ok-place.place first) in
    takes-at p xs c.in_ok-place.place c.remove.result c.remove.new.self.items first (c.remove.ensures.variant.1 within) c.remove.ensures.value c.remove.ensures.items

pub returns-in_err-place-clause-event : goal.returns-in_err-place-clause-event
returns-in_err-place-clause-event c =
    let same = to_z-of_z w32 c.args.request c.ranges.request in
    rw c.from_residual.ensures (rw same at (sym c.in_err-place.ensures), refl)
