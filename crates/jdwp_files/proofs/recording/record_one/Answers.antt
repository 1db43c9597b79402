use Rattle.jdwp_files.proofs.Recordings.{err_untouched}
use Rattle.jdwp_files.proofs.recording.record_one.Goals as goal

pub returns-in_err-cause : goal.returns-in_err-cause
returns-in_err-cause g c = err_untouched c.from_residual.result _ c.from_residual.ensures.0
