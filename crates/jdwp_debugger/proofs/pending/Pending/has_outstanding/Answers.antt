use Rattle.std.proofs.Common.{◌∙◌, ap, is_some}
use Rattle.jdwp_debugger.proofs.Settled.{has_place}
use Rattle.jdwp_debugger.proofs.pending.Pending.has_outstanding.Goals as goal

pub returns : goal.returns
returns c = c.is_some.ensures ∙ ap is_some c.found_under.ensures.place ∙ has_place c.args.id c.args.self.now
