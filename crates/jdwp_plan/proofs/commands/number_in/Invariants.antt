use Rattle.std.proofs.Common.{◌≡◌, ℕ, ◌<◌, false}
use Rattle.jdwp_layout.specs.CommandTable.{row_at}
use Rattle.jdwp_plan.specs.Commands.{is_command}
use Rattle.jdwp_plan.proofs.commands.number_in.Given as goal

abbrev pub invariant-loop-number : goal.invariant-loop-number
invariant-loop-number l = (number : ℕ) → number < l.number → is_command l.set_name l.name (row_at l.set number) ≡ false
