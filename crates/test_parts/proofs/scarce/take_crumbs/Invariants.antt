use Rattle.std.proofs.Common.{◌≤◌, length}
use Rattle.test_parts.proofs.scarce.take_crumbs.Given as goal

abbrev pub invariant-loop : goal.invariant-loop
invariant-loop l = length l.fn.crumbs.items ≤ length l.crumbs.items
