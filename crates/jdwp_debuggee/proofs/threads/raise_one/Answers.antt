use Rattle.std.proofs.Common.{◌≡◌, ◌<◌, ℕ, arith, length, refl, subst}
use Rattle.jdwp_wire.specs.Numbers.{greatest_int}
use Rattle.levels.specs.Counts as levels
use Rattle.jdwp_debuggee.specs.State.{raised}
use Rattle.jdwp_debuggee.proofs.EntryLists.{IsMoved, most-at, threads-moved}
use Rattle.jdwp_debuggee.proofs.threads.raise_one.Goals as goal

pub raise_one-requires-clause-below : goal.raise_one-requires-clause-below
raise_one-requires-clause-below c =
    let place = c.loop-place.place in
    let inside : place < length c.args.counts.now.counts = let s = c.requires.same in omega arith in
    let stays = c.loop-place.invariant.0.left place (omega arith) in
    let most = most-at greatest_int c.args.entries.now c.args.counts.now.counts place c.requires.same c.requires.most inside in
    omega (arith, stays, most)

pub returns-clause-list : goal.returns-clause-list
returns-clause-list c =
    let es = c.args.entries.now in
    let end : c.loop-place.place ≡ length es = omega arith in
    let moved = subst (λ (k : ℕ). IsMoved levels.raised c.args.thread.0 k es c.args.counts.now.counts c.loop-place.counts.counts) end c.loop-place.invariant.0 in
    threads-moved levels.raised raised c.args.thread.0 es c.args.counts.now.counts c.loop-place.counts.counts (λ u n. refl) c.requires.same moved
