use Rattle.std.proofs.Common.{◌∙◌, ap}
use Rattle.jdwp_debugger.specs.PendingKept.{waiting_in}
use Rattle.jdwp_debugger.proofs.Settled.{one_less}
use Rattle.jdwp_debugger.proofs.pending.Pending.remove_later.Goals as goal

pub returns : goal.returns
returns c =
    let kept = c.self.inside in
    rw (← c.self.view_is) (ap (waiting_in kept.settled) c.shift_remove_index.ensures.entries ∙ one_less kept.settled c.args.place kept.commands.entries)
