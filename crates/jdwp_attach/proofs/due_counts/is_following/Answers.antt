use Rattle.std.proofs.Common.{◌∙◌, List, Option, ap, is_some}
use Rattle.jdwp_value.specs.declared.id.ObjectId.{ObjectId}
use Rattle.jdwp_debugger.specs.News.{widths_by}
use Rattle.jdwp_attach.proofs.Moves.{follows-so}
use Rattle.jdwp_attach.proofs.due_counts.is_following.Goals as goal

pub returns : goal.returns
returns c =
    let d = c.args.debugger.now in
    c.is_some.ensures ∙ ap (λ (o : Option (List ObjectId)). is_some o) c.named_threads.ensures.all ∙ follows-so d.ledger (widths_by d.sizes) d.pending
