use Rattle.std.proofs.Common.{refl}
use Rattle.jdwp_model.proofs.worked.deferred_commands_are_answered_in_any_order.Goals as goal

pub returns : goal.returns
returns c = record {
  are_deferred = refl;
  one_answered = refl;
  released = (refl, refl, refl);
  moved_up = (refl, refl);
  dropped = (refl, refl, refl);
  never_answered = refl;
  mark_stays = refl;
  last_at_once = refl;
}
