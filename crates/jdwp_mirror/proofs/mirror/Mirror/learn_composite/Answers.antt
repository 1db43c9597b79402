use Rattle.std.proofs.Common.{◌∙◌, sym, subst}
use Rattle.jdwp_mirror.specs.Mirrors.{Mirror}
use Rattle.jdwp_mirror.specs.KnownThreads.{AreSound}
use Rattle.jdwp_mirror.proofs.Learning.{learned-by_event, learned-by_death}
use Rattle.jdwp_mirror.proofs.mirror.Mirror.learn_composite.Goals as goal

pub returns-clause-ok : goal.returns-clause-ok
returns-clause-ok c =
    learned-by_event c.args.composite.now c.args.self.now _ (subst (λ (m : Mirror). AreSound m.threads) c.self.view_is c.are_sound.ensures) (sym c.has_event_of.ensures ∙ c.if-has_event_of.false) c.in_ok-learn_event.ensures.ok

pub returns-then-has_event_of-clause-ok : goal.returns-then-has_event_of-clause-ok
returns-then-has_event_of-clause-ok c = learned-by_death c.args.composite.now c.args.self.now _ (sym c.has_event_of.ensures ∙ c.if-has_event_of.true) c.clear.ensures
