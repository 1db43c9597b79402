use Rattle.jdwp_answer.proofs.Truths.{AreRead}
use Rattle.jdwp_answer.proofs.capabilities.truths_of.Given as goal

-- those in front were read
abbrev pub invariant-loop-place : goal.invariant-loop-place
invariant-loop-place g l = AreRead l.fn.scalars.items l.truths l.place
