use Rattle.std.proofs.Common.{◌≡◌, drop}
use Rattle.std.specs.List.{list_any}
use Rattle.jdwp_debugger.specs.Debuggers.{Unanswered, unanswered}
use Rattle.jdwp_frames.specs.Changing.{may_change}
use Rattle.jdwp_frames.proofs.changing.may_be_changed.Given as goal

-- one may let the thread run, where one from this place on does
abbrev pub invariant-loop-place : goal.invariant-loop-place
invariant-loop-place l =
    list_any (λ (u : Unanswered). may_change l.thread.0 u.command) (drop l.place (unanswered l.debugger.pending))
    ≡ list_any (λ (u : Unanswered). may_change l.thread.0 u.command) (unanswered l.debugger.pending)
