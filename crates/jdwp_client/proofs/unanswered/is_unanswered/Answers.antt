use Rattle.std.proofs.Common.{◌∙◌, arith, sym}
use Rattle.std.specs.Prelude.{◌==◌}
use Rattle.jdwp_debugger.specs.Debuggers.{Unanswered, unanswered}
use Rattle.jdwp_client.proofs.Finding.{few-unanswered, walk-end, walk-here, walk-on, walk-past}
use Rattle.jdwp_client.proofs.unanswered.is_unanswered.Goals as goal

pub returns-in-Some : goal.returns-in-Some
returns-in-Some c =
    walk-here (λ (u : Unanswered). u.ticket == c.args.ticket.0) (unanswered c.args.debugger.now.pending) c.loop-place.place
    (record { ticket = c.in-Some.waits.0; command = c.in-Some.field-0-1.now }) c.in-Some.ensures (sym c.eq.ensures ∙ c.if-eq.true) c.loop-place.invariant

pub returns-in-None : goal.returns-in-None
returns-in-None c =
    walk-past (λ (u : Unanswered). u.ticket == c.args.ticket.0) (unanswered c.args.debugger.now.pending) c.loop-place.place c.in-None.ensures
    c.loop-place.invariant

pub loop-place-preserved : goal.loop-place-preserved
loop-place-preserved c =
    walk-on (λ (u : Unanswered). u.ticket == c.args.ticket.0) (unanswered c.args.debugger.now.pending) c.loop-place.place
    (record { ticket = c.in-Some.waits.0; command = c.in-Some.field-0-1.now }) c.in-Some.ensures (sym c.eq.ensures ∙ c.if-eq.false) c.loop-place.invariant

pub returns : goal.returns
returns c =
    walk-end (λ (u : Unanswered). u.ticket == c.args.ticket.0) (unanswered c.args.debugger.now.pending) c.loop-place.place
    (omega (arith, few-unanswered c.args.debugger.now.pending, c.session.ensures.pending, c.session.ensures.limits)) c.loop-place.invariant
