use Rattle.std.proofs.Common.{◌∙◌, arith, sym}
use Rattle.jdwp_debugger.specs.Debuggers.{Unanswered, unanswered}
use Rattle.jdwp_frames.specs.Changing.{may_change}
use Rattle.jdwp_client.proofs.Finding.{few-unanswered, walk-end, walk-here, walk-on, walk-past}
use Rattle.jdwp_frames.proofs.changing.may_be_changed.Goals as goal

pub returns-in-Some : goal.returns-in-Some
returns-in-Some c =
    walk-here (λ (u : Unanswered). may_change c.args.thread.0 u.command) (unanswered c.args.debugger.now.pending) c.loop-place.place
    (record { ticket = c.in-Some.field-0-0.0; command = c.in-Some.command.now }) c.in-Some.ensures (sym c.may_change.ensures ∙ c.if-may_change.true) c.loop-place.invariant

pub returns-in-None : goal.returns-in-None
returns-in-None c =
    walk-past (λ (u : Unanswered). may_change c.args.thread.0 u.command) (unanswered c.args.debugger.now.pending) c.loop-place.place c.in-None.ensures
    c.loop-place.invariant

pub loop-place-preserved : goal.loop-place-preserved
loop-place-preserved c =
    walk-on (λ (u : Unanswered). may_change c.args.thread.0 u.command) (unanswered c.args.debugger.now.pending) c.loop-place.place
    (record { ticket = c.in-Some.field-0-0.0; command = c.in-Some.command.now }) c.in-Some.ensures (sym c.may_change.ensures ∙ c.if-may_change.false) c.loop-place.invariant

pub returns : goal.returns
returns c =
    walk-end (λ (u : Unanswered). may_change c.args.thread.0 u.command) (unanswered c.args.debugger.now.pending) c.loop-place.place
    (omega (arith, few-unanswered c.args.debugger.now.pending, c.session.ensures.pending, c.session.ensures.limits)) c.loop-place.invariant
