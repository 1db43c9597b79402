use Rattle.std.proofs.Common.{◌≡◌, ◌∙◌, List, None, subst, sym}
use Rattle.jdwp_link.specs.declared.events.Outcome.{Outcome}
use Rattle.jdwp_pair.specs.Events.{refusal_in}
use Rattle.jdwp_pair.proofs.Keeping.{keeps-asked}
use Rattle.jdwp_pair.proofs.asking.ask_line.Goals as goal

pub returns-clause-follows : goal.returns-clause-follows
returns-clause-follows g c =
    keeps-asked g.M.Machine.meaning c.in-Ok.command c.args.link.now c.happen.new.link c.in_ok-outcomes.outcomes.items c.args.follower.now c.ask_too.new.follower c.in_ok-outcomes.ensures.ok
    (subst (λ (os : List Outcome). refusal_in os ≡ None) c.deref.ensures.value (sym c.refusal_in.ensures ∙ c.in-None.is)) c.in-Ok-ask_too.ensures
