use Rattle.std.proofs.Common.{refl}
use Rattle.jdwp_model.proofs.worked.counted_breakpoint_reports_once.Goals as goal

pub returns : goal.returns
returns c = record { quiet = refl; reports_once = refl; told_of_it = refl; request_stays = refl; mirror_has_it = refl; nobody_suspended = (refl, refl); cleared_in_both = (refl, refl); clears_again = refl }
