use Rattle.std.proofs.Common.{◌++◌, ◌∙◌, ap, sym}
use Rattle.jdwp_debugger.specs.DebuggerTurns as turns
use Rattle.jdwp_link.specs.EventParts.{outcomes_of}
use Rattle.jdwp_link.specs.Told.{told_outcomes}
use Rattle.jdwp_link.proofs.Tells.{seen-told}
use Rattle.jdwp_link.proofs.telling.tell_read.Goals as goal

pub returns-in-Sizes-clause-items : goal.returns-in-Sizes-clause-items
returns-in-Sizes-clause-items c =
    c.tell_seen.ensures.items ∙ ap (λ os. c.args.outcomes.now.items ++ os) (seen-told c.in-Sizes.composites.items ∙ ap (λ r. told_outcomes (outcomes_of (turns.read_meaning r))) (sym c.in-Sizes.is))
