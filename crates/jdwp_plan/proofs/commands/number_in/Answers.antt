use Rattle.std.proofs.Common.{◌≡◌, ◌∙◌, below_more, sym}
use Rattle.jdwp_plan.proofs.commands.number_in.Goals as goal

pub loop-number-preserved : goal.loop-number-preserved
loop-number-preserved c = below_more _ _ c.loop-number.invariant (rw c.layout_of.ensures at (sym c.is_row.ensures ∙ c.if-is_row.false))
