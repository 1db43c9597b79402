use Rattle.std.proofs.Common.{◌<◌, ap, arith, length, rules, vec_capacity, List, ℕ}
use Rattle.jdwp_debuggee.specs.declared.threads.ThreadEntry.{ThreadEntry}
use Rattle.jdwp_debuggee.proofs.EntryLists.{length-threads}
use Rattle.jdwp_debuggee.proofs.threads.Threads.make_room.Goals as goal

pub returns-clause-room : goal.returns-clause-room
returns-clause-room c =
    let es = c.reserve.new.self.items in
    let count = length-threads es c.make_room.new.self.counts in
    let wide : length es < vec_capacity c.reserve.new.self = search rules in
    let items = ap (λ (l : List ThreadEntry). length l) c.reserve.ensures.items in
    let counts = ap (λ (l : List ℕ). length l) c.make_room.ensures.same in
    omega (arith, count, wide, items, counts, c.in_ok-make_room.ensures.room, c.self.invariant)
