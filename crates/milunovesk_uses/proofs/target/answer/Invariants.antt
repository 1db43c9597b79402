use Rattle.std.proofs.Common.{length}
use Rattle.milunovesk_uses.specs.Answering.{Turned}
use Rattle.milunovesk_uses.proofs.target.answer.Given as goal

-- turns that handled what came, and what is left of it
abbrev pub invariant-loop : goal.invariant-loop
invariant-loop g l = Turned g.M.Machine.meaning l.initial.target l.target

abbrev pub decreases-loop : goal.decreases-loop
decreases-loop g l = length l.target.end.incoming
