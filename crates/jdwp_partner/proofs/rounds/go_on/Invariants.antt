use Rattle.std.proofs.Common.{◌≤◌}
use Rattle.jdwp_partner.specs.Keeping.{Keeps}
use Rattle.jdwp_partner.proofs.rounds.go_on.Given as goal

-- rounds are used, and keep what rounds keep
abbrev pub invariant-loop-target : goal.invariant-loop-target
invariant-loop-target g l = record {
  kept : Keeps l.fn.target l.target;
  fewer : l.rounds ≤ l.fn.rounds;
}

abbrev pub decreases-loop-target : goal.decreases-loop-target
decreases-loop-target g l = l.rounds
