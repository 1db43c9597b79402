use Rattle.std.proofs.Common.{◌≡◌, ℕ, arith, length, refl, subst}
use Rattle.levels.specs.Counts as levels
use Rattle.jdwp_debuggee.specs.State.{lowered}
use Rattle.jdwp_debuggee.proofs.EntryLists.{IsMoved, threads-moved}
use Rattle.jdwp_debuggee.proofs.threads.lower_one.Goals as goal

pub returns-clause-list : goal.returns-clause-list
returns-clause-list c =
    let es = c.args.entries.now in
    let end : c.loop-place.place ≡ length es = omega arith in
    let moved = subst (λ (k : ℕ). IsMoved levels.lowered c.args.thread.0 k es c.args.counts.now.counts c.loop-place.counts.counts) end c.loop-place.invariant.0 in
    threads-moved levels.lowered lowered c.args.thread.0 es c.args.counts.now.counts c.loop-place.counts.counts (λ u n. refl) c.requires moved
