use Rattle.std.proofs.Common.{refl}
use Rattle.jdwp_model.proofs.worked.reported_death_holds_until_resume.Goals as goal

pub returns : goal.returns
returns c = record { reported = (refl, refl); held = refl; freezes = (refl, refl); is_resumed = (refl, refl); ends = (refl, refl, refl); forgotten = refl; is_told = refl }
