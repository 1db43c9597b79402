use Rattle.jdwp_files.proofs.Recordings.{err_line, line_alone}
use Rattle.jdwp_files.proofs.sessions.serve_live_port.Goals as goal

pub returns-in_err-tell_listening : goal.returns-in_err-tell_listening
returns-in_err-tell_listening g c =
    err_line _ c.in_err-tell_listening.field-0.0 c.from_residual-in_err-tell_listening.result _ _ c.from_residual-in_err-tell_listening.ensures.1 c.in_err-tell_listening.ensures.tells

pub returns : goal.returns
returns g c = line_alone _ _ _ c.serve_live_at.result c.in_ok-tell_listening.ensures.tells
