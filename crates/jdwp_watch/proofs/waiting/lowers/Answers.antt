use Rattle.std.proofs.Common.{Option, sym, ap, ◌∙◌}
use Rattle.jdwp_action.specs.Actions.{action_of}
use Rattle.jdwp_apart.specs.Messages.{Invocation, one_if}
use Rattle.jdwp_watch.specs.declared.waiting.Lowering.{Lowering}
use Rattle.jdwp_watch.specs.Lowerings.{lowered_by, lowers_by}
use Rattle.jdwp_watch.proofs.Lowered.{lowers-one}
use Rattle.jdwp_watch.proofs.waiting.lowers.Goals as goal

pub returns-in-None : goal.returns-in-None
returns-in-None c =
    let t = c.args.thread.0 in
    let command = c.args.command.now in
    ap one_if (c.lowers.ensures ∙ ap (λ (l : Lowering). lowered_by t l) c.of-in-None.ensures)
    ∙ (sym (lowers-one (action_of command) t) ∙ ap (λ (o : Option Invocation). lowers_by o command t) c.in-None.ensures)
