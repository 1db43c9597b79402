use Rattle.std.proofs.Common.{◌∙◌, ℕ, List, None, ap, refl}
use Rattle.jdwp_plan_run.specs.Tellings.{printed}
use Rattle.jdwp_plan_run.proofs.carrying.show_bytes.Goals as goal

pub returns-in-Ok-clause-ok : goal.returns-in-Ok-clause-ok
returns-in-Ok-clause-ok g c =
    (record { text = c.args.text; items = None }, refl, refl, c.in-Ok.ensures.ok ∙ ap (λ (t : List ℕ). printed t (g.W.Pipe.story c.args.out.now)) c.as_slice.ensures.value)
