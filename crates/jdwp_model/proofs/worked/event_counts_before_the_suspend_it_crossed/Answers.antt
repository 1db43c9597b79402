use Rattle.std.proofs.Common.{refl}
use Rattle.jdwp_model.proofs.worked.event_counts_before_the_suspend_it_crossed.Goals as goal

pub returns : goal.returns
returns c = record { in_target = (refl, refl); by_the_event = (refl, refl); held_by_the_event = (refl, refl); by_the_reply = (refl, refl); held_by_the_reply = (refl, refl); is_told = refl }
