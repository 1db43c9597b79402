use Rattle.std.proofs.Common.{inl, inr, refl}
use Rattle.jdwp_program.proofs.LiveLaws.{whole_front}
use Rattle.jdwp_program.proofs.StreamLaws.{ends_shown}
use Rattle.jdwp_program.proofs.live.LiveShow.end.Goals as goal

pub returns-in-Going : goal.returns-in-Going
returns-in-Going g c = λ table text start shows.
    let so = rw c.in-Going.is at shows in
    (text, (whole_front text, ends_shown table text start _ _ c.show_rest.result so.1 (c.show_rest.ensures table text so.0)), inl refl)

pub returns-in-Ended : goal.returns-in-Ended
returns-in-Ended g c = λ table text start shows. let so = rw c.in-Ended.is at shows in (so.0, so.1, inr so.2)
