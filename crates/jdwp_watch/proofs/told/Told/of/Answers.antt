use Rattle.std.proofs.Common.{ℕ, Option, sym, ap, ◌∙◌}
use Rattle.jdwp_action.specs.Actions.{action_of}
use Rattle.jdwp_action.specs.AboutLaws.{about_action}
use Rattle.jdwp_value.specs.declared.id.ObjectId.{ObjectId}
use Rattle.jdwp_mirror.specs.CommandKinds.{kind_of}
use Rattle.jdwp_event.specs.Told.{id_found}
use Rattle.jdwp_mirror.specs.declared.command.CommandKind.{CommandKind}
use Rattle.jdwp_layout.specs.declared.answer.Answer.{Answer}
use Rattle.jdwp_apart.specs.Messages.{count_in}
use Rattle.jdwp_watch.specs.Tellings.{told_by, told_in}
use Rattle.jdwp_watch.proofs.told.Told.of.Goals as goal

pub returns-in-Data-clause-told : goal.returns-in-Data-clause-told
returns-in-Data-clause-told c =
    let asked = c.args.command.now in
    let n = count_in c.in-Data.content in
    c.by.ensures.told ∙ (ap (λ (k : CommandKind). told_by k c.thread.result n) c.kind.ensures ∙ (ap (λ (t : Option ObjectId). told_by (kind_of (action_of asked)) t n) c.thread.ensures
    ∙ ap (λ (t : Option ℕ). told_by (kind_of (action_of asked)) (id_found t) n) (sym (about_action asked)) ∙ ap (λ (a : Answer). told_in (action_of asked) a) (sym c.in-Data.is)))
