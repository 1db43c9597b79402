use Rattle.std.proofs.Common.{ℕ, ◌<◌}
use Rattle.jdwp_plan.specs.Commands.{HasNoneBelow}
use Rattle.jdwp_plan.proofs.commands.command_named.Given as goal

abbrev pub invariant-loop-set : goal.invariant-loop-set
invariant-loop-set l = (set : ℕ) → set < l.set → HasNoneBelow set l.cut.front.now l.command 101
