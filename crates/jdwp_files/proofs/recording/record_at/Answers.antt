use Rattle.std.proofs.Common.{◌++◌}
use Rattle.jdwp_program.specs.Statuses.{status_of_outcome}
use Rattle.jdwp_files.proofs.Recordings.{err_behind, shown_behind, shown_more}
use Rattle.jdwp_files.proofs.recording.record_at.Goals as goal

pub returns-in_err-outcome : goal.returns-in_err-outcome
returns-in_err-outcome g c =
    err_behind c.sessions.invariant.0 c.in_err-outcome.field-0.0 c.from_residual.result _ _ _ c.sessions.invariant.1 c.in_err-outcome.ensures c.from_residual.ensures.1

pub returns-in-Some : goal.returns-in-Some
returns-in-Some g c =
    shown_behind (status_of_outcome c.in-Some.outcome) c.sessions.invariant.0 _ _ _ c.sessions.invariant.1 (rw c.in-Some.is at c.in_ok-outcome.ensures)

pub sessions-preserved : goal.sessions-preserved
sessions-preserved g c =
    let more = rw c.in_default.is at c.in_ok-outcome.ensures in
    (c.sessions.invariant.0 ++ more.0, shown_more c.sessions.invariant.0 more.0 _ _ _ c.sessions.invariant.1 more.1)
