use Rattle.std.proofs.Common.{◌∙◌}
use Rattle.jdwp_pair.proofs.Planned.{first-ticket}
use Rattle.jdwp_pair.proofs.standing.awaits_answers.Goals as goal

pub returns : goal.returns
returns c = c.is_some.ensures ∙ first-ticket c.args.debugger.now.pending c.unanswered.result c.unanswered.ensures
