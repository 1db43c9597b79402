use Rattle.jdwp_event_fields.proofs.Said.{each_has, is_policy}
use Rattle.jdwp_event_fields.proofs.laws.event_sets_are_composites.Goals as goal

pub returns : goal.returns
returns c = λ s. (is_policy s.policy, each_has s.events.items)
