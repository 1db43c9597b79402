use Rattle.std.proofs.Common.{◌∙◌, None, Some}
use Rattle.jdwp_debugger.proofs.Settled.{behind_from, place_waits}
use Rattle.jdwp_debugger.proofs.pending.Pending.found_under.Goals as goal

pub returns-in_err-place-clause-place : goal.returns-in_err-place-clause-place
returns-in_err-place-clause-place c =
    let kept = c.self.inside in
    rw (← c.self.view_is) (c.from_residual.ensures ∙ place_waits c.args.id kept.settled kept.commands.entries None c.get_index_of.ensures.unique c.in_err-place.ensures.index)

pub returns-clause-place : goal.returns-clause-place
returns-clause-place c =
    let kept = c.self.inside in
    let place = c.in_ok-place.place in
    rw (← c.self.view_is) (behind_from kept.settled place c.checked_sub.result c.checked_sub.ensures
    ∙ place_waits c.args.id kept.settled kept.commands.entries (Some place) c.get_index_of.ensures.unique c.in_ok-place.ensures.index)
