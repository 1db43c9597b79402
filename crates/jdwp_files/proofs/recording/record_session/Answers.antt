use Rattle.jdwp_files.proofs.Recordings.{err_live, err_untouched, live_last}
use Rattle.jdwp_files.proofs.recording.record_session.Goals as goal

pub returns-in_err-run : goal.returns-in_err-run
returns-in_err-run g c = err_untouched c.from_residual.result _ c.from_residual.ensures.0

pub returns-in_err-told : goal.returns-in_err-told
returns-in_err-told g c = err_live c.in_err-told.field-0.0 c.from_residual-in_err-told.result _ _ c.from_residual-in_err-told.ensures.1 c.in_err-told.ensures

pub returns-in-Unread : goal.returns-in-Unread
returns-in-Unread g c = rw c.in-Unread.is at c.in_ok-told.ensures

pub returns-in_default : goal.returns-in_default
returns-in_default g c = rw c.then_some-in_default.ensures (live_last c.args.words.now.once c.in_ok-told.told _ _ c.in_ok-told.ensures c.in_default.not-Unread)
