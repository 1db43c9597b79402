use Rattle.std.proofs.Common.{◌∙◌, ◌∷◌, ℕ, List, ap}
use Rattle.jdwp_plan_run.proofs.AskLaws.{if-err, if-ok, no-memory-fills}
use Rattle.jdwp_plan_run.proofs.asking.spaced_text.Goals as goal

pub returns-in-Ok-clause-ok : goal.returns-in-Ok-clause-ok
returns-in-Ok-clause-ok c =
    if-ok c.spaced.result (λ full h. (c.in-Ok.rest.items, c.in-Ok.ensures.ok, h ∙ ap (λ (t : List ℕ). 32 ∷ t) c.as_slice.ensures.value)) c.spaced.ensures.ok

pub returns-in-Ok-clause-err : goal.returns-in-Ok-clause-err
returns-in-Ok-clause-err c = if-err c.spaced.result (λ s h. no-memory-fills c.args.values.now c.args.text.now s h) c.spaced.ensures.err
