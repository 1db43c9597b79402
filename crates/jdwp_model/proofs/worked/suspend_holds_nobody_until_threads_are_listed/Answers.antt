use Rattle.std.proofs.Common.{refl}
use Rattle.jdwp_model.proofs.worked.suspend_holds_nobody_until_threads_are_listed.Goals as goal

pub returns : goal.returns
returns c = record { in_target = (refl, refl); in_mirror = (refl, refl); none_held = (refl, refl); first_is_held = (refl, refl); second_is_forgotten = (refl, refl); is_told = refl }
