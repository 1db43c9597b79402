use Rattle.std.proofs.Common.{◌≡◌, ◌≤◌, take}
use Rattle.jdwp_pair.specs.Events.{seen_in}
use Rattle.jdwp_pair.proofs.telling.seen_in.Given as goal

-- those so far
abbrev pub invariant-loop-outcome : goal.invariant-loop-outcome
invariant-loop-outcome l = (l.seen ≡ seen_in (take l.outcome-index l.outcomes)) × (l.seen ≤ l.outcome-index)
