use Rattle.std.proofs.Common.{List, sym, ap, ◌∙◌}
use Rattle.jdwp_layout.specs.Meanings.{DatumMeaning, meanings}
use Rattle.jdwp_action.specs.Actions.{action_of}
use Rattle.jdwp_mirror.specs.CommandKinds.{kind_of}
use Rattle.jdwp_mirror.specs.declared.command.CommandKind.{CommandKind}
use Rattle.jdwp_apart.specs.Following.{made_by}
use Rattle.jdwp_watch.specs.Ledgers.{made_in}
use Rattle.jdwp_watch.proofs.Accounts.{made-kind}
use Rattle.jdwp_watch.proofs.ledger.request_in.Goals as goal

pub returns-in-Data : goal.returns-in-Data
returns-in-Data c =
    let a = action_of c.args.command.now in
    c.request_made.ensures ∙ (ap (λ (k : CommandKind). made_in k (meanings c.items.result.now)) c.kind.ensures ∙ (ap (λ (ds : List DatumMeaning). made_in (kind_of a) ds) c.items.ensures
    ∙ (made-kind a c.in-Data.data ∙ ap (made_by a) (sym c.in-Data.is))))
