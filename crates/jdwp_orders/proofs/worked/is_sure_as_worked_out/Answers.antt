use Rattle.std.proofs.Common.{refl}
use Rattle.jdwp_orders.proofs.worked.is_sure_as_worked_out.Goals as goal

pub returns : goal.returns
returns c = record {
  nobody = (refl, refl);
  by_the_event = (refl, refl);
  by_the_reply = (refl, refl);
  not_held = refl;
  in_target = (refl, refl);
  while_resume_waits = (refl, refl);
  within = refl;
  not_within = refl;
  anew = (refl, refl);
}
