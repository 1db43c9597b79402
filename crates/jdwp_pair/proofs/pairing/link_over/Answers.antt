use Rattle.std.proofs.Common.{subst, sym}
use Rattle.jdwp_model.specs.Events.{Defer}
use Rattle.jdwp_pair.specs.Events.{Happens}
use Rattle.jdwp_pair.proofs.pairing.link_over.Goals as goal

pub returns : goal.returns
returns g c =
    subst (λ l. Happens g.M.Machine.meaning (Defer c.args.defer) l c.in_ok-new.field-0.value) c.in_ok-link.ensures.link
    (subst (λ l. Happens g.M.Machine.meaning (Defer c.args.defer) c.in_ok-link.link l) (sym c.in_ok-new.ensures.ok) c.set_deferring.ensures)
