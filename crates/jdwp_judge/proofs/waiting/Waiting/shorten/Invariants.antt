use Rattle.std.proofs.Common.{◌≡◌, ℕ, length}
use Rattle.jdwp_judge.specs.Standing.{waits_under, count_under}
use Rattle.jdwp_judge.proofs.waiting.Waiting.shorten.Given as goal

abbrev pub invariant-loop-self : goal.invariant-loop-self
invariant-loop-self l = record {
  waits : (id : ℕ) → waits_under l.self id ≡ waits_under l.initial.self id;
  counted : count_under l.self ≡ count_under l.initial.self;
}

abbrev pub decreases-loop-self : goal.decreases-loop-self
decreases-loop-self l = length l.self.row.items
