use Rattle.std.proofs.Common.{inl, inr, refl, arith}
use Rattle.jdwp_model.proofs.worked.frames_are_read_again.Goals as goal

pub returns : goal.returns
returns c = record { read_once = refl; other_is_gone = refl; lasts = inr (omega arith, refl, inl (refl, refl)); read_again = refl }
