use Rattle.std.proofs.Common.{rules, sym, subst, List}
use Rattle.std.proofs.lemmas.Fn.{filter_same}
use Rattle.jdwp_event.specs.Requests.{Request}
use Rattle.jdwp_event.specs.RequestLists.{AreRising, is_another}
use Rattle.jdwp_event.specs.KindsAsked.{AreAsked}
use Rattle.jdwp_event.proofs.Rising.{filter_rising}
use Rattle.jdwp_event.proofs.requests.Requests.remove.Goals as goal

pub invariant_of-self : goal.invariant_of-self
invariant_of-self c = (
  subst (λ (xs : List Request). AreRising xs) (sym (filter_same _ (is_another c.args.kind c.args.id) _ (λ x b f' k. search rules) _ _ c.retain.ensures.filtered)) (filter_rising (is_another c.args.kind c.args.id) c.self.inside.entries.items c.self.invariant.0),
  subst (λ (xs : List Request). AreAsked c.asked_by-self-inside.result xs) c.deref.ensures.value c.asked_by-self-inside.ensures,
)

pub returns : goal.returns
returns c = rw (← c.self.view_is) (filter_same _ (is_another c.args.kind c.args.id) _ (λ x b f' k. search rules) _ _ c.retain.ensures.filtered)
