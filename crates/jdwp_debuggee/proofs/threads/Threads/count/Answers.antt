use Rattle.std.proofs.Common.{ℕ, Some, None, ◌∙◌, ap, arith}
use Rattle.jdwp_debuggee.proofs.EntryLists.{found-count, found-within}
use Rattle.jdwp_debuggee.proofs.threads.Threads.count.Goals as goal

pub count-requires : goal.count-requires
count-requires c =
    let found = rw c.deref.ensures.value at c.in-Some.ensures in
    let inside = found-within c.args.thread.0 c.in-Some.place c.self.inside.entries.items found in
    omega (arith, inside, c.self.invariant)

pub returns-in-Some : goal.returns-in-Some
returns-in-Some c =
    let i = c.self.inside in
    let found = rw c.deref.ensures.value at c.in-Some.ensures in
    rw (← c.self.view_is) (ap (λ (n : ℕ). Some n) c.count.ensures ∙ found-count c.args.thread.0 (Some c.in-Some.place) i.entries.items i.counts.counts c.self.invariant found)

pub returns-in-None : goal.returns-in-None
returns-in-None c =
    let i = c.self.inside in
    let found = rw c.deref.ensures.value at c.in-None.ensures in
    rw (← c.self.view_is) (found-count c.args.thread.0 None i.entries.items i.counts.counts c.self.invariant found)
