use Rattle.std.proofs.Common.{◌∙◌, ap, rules, ℕ, List}
use Rattle.std.proofs.lemmas.Fn.{filter_same}
use Rattle.jdwp_value.specs.declared.id.ObjectId.{ObjectId}
use Rattle.jdwp_machine.specs.Meanings.{numbers}
use Rattle.jdwp_debuggee.specs.State.{count_in, is_above_zero}
use Rattle.jdwp_debuggee.proofs.StillStopped.{numbers-kept}
use Rattle.jdwp_debuggee.proofs.stopped.keep_stopped.Goals as goal

pub returns : goal.returns
returns c =
    ap (λ (ids : List ObjectId). numbers ids)
    (filter_same _ (λ (id : ObjectId). is_above_zero (count_in c.args.threads.now.list id.0)) _ (λ x b f' k. search rules) _ _ c.retain.ensures.filtered)
    ∙ numbers-kept (λ (t : ℕ). is_above_zero (count_in c.args.threads.now.list t)) c.args.stopped.now.items
