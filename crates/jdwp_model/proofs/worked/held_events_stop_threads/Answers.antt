use Rattle.std.proofs.Common.{refl}
use Rattle.jdwp_model.proofs.worked.held_events_stop_threads.Goals as goal

pub returns : goal.returns
returns c = record { freezes = (refl, refl); steps_on = refl; reports = refl; all_suspended = (refl, refl) }
