use Rattle.jdwp_client.specs.Keeping.{Rises}
use Rattle.jdwp_client.proofs.answers.rising_from.Given as goal

-- so many rise
abbrev pub invariant-loop-rising : goal.invariant-loop-rising
invariant-loop-rising l = Rises l.rising l.items.items
