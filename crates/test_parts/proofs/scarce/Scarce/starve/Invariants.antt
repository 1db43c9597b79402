use Rattle.std.proofs.Common.{◌≤◌, length}
use Rattle.test_parts.proofs.scarce.Scarce.starve.Given as goal

abbrev pub invariant-loop-size : goal.invariant-loop-size
invariant-loop-size l = length l.initial.self-inside.crumbs.items
    ≤ length l.self-inside.crumbs.items
