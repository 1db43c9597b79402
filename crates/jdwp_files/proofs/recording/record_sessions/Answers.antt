use Rattle.jdwp_files.proofs.Recordings.{err_line, sessions_behind}
use Rattle.jdwp_files.proofs.recording.record_sessions.Goals as goal

pub returns-in_err-tell_listening : goal.returns-in_err-tell_listening
returns-in_err-tell_listening g c =
    err_line _ c.in_err-tell_listening.field-0.0 c.from_residual-in_err-tell_listening.result _ _ c.from_residual-in_err-tell_listening.ensures.1 c.in_err-tell_listening.ensures.tells

pub returns : goal.returns
returns g c = sessions_behind _ _ _ _ c.record_at.result c.in_ok-tell_listening.ensures.tells c.record_at.ensures
