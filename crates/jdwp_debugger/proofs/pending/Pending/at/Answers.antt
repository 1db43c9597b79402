use Rattle.std.proofs.Common.{◌≡◌, ◌+◌, ◌∙◌, Some, ap, rules, slice_get}
use Rattle.std.specs.Prelude.{option_map}
use Rattle.jdwp_debugger.specs.PendingKept.{asked_of}
use Rattle.jdwp_debugger.proofs.Settled.{waits_at}
use Rattle.jdwp_debugger.proofs.pending.Pending.at.Goals as goal

pub returns : goal.returns
returns c =
    let es = c.self.inside.commands.entries in
    let s = c.self.inside.settled in
    let found : slice_get es (s + c.args.place) ≡ Some (c.in-Some.id.now, c.in-Some.asked.now) = search rules in
    rw (← c.self.view_is) (waits_at s c.args.place es ∙ ap (option_map asked_of) found)
