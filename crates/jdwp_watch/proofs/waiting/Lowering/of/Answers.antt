use Rattle.std.proofs.Common.{Option, ap, ◌∙◌}
use Rattle.jdwp_action.specs.Actions.{action_of}
use Rattle.jdwp_value.specs.declared.id.ObjectId.{ObjectId}
use Rattle.jdwp_mirror.specs.CommandKinds.{kind_of}
use Rattle.jdwp_mirror.specs.declared.command.CommandKind.{CommandKind}
use Rattle.jdwp_watch.specs.Lowerings.{lowering_by}
use Rattle.jdwp_watch.proofs.Lowered.{lowering-found}
use Rattle.jdwp_watch.proofs.waiting.Lowering.of.Goals as goal

pub returns : goal.returns
returns c =
    let asked = c.args.command.now in
    c.by.ensures ∙ (ap (λ (k : CommandKind). lowering_by k c.thread.result) c.kind.ensures ∙ (ap (λ (t : Option ObjectId). lowering_by (kind_of (action_of asked)) t) c.thread.ensures ∙ lowering-found asked))
