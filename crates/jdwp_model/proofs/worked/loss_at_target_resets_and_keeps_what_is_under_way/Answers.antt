use Rattle.std.proofs.Common.{refl}
use Rattle.jdwp_model.proofs.worked.loss_at_target_resets_and_keeps_what_is_under_way.Goals as goal

pub returns : goal.returns
returns c = record { suspended_before = (refl, refl); reset = (refl, refl, refl); under_way = refl; told_at_loss = refl; mirror_is_empty = refl; told_afterwards = refl; begins_again = (refl, refl); nobody_suspended = (refl, refl); no_requests = refl }
