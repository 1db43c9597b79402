use Rattle.std.proofs.Common.{ℕ, List, subst}
use Rattle.jdwp_end.specs.Ends.{is_paused}
use Rattle.jdwp_debuggee.specs.Steps.{may_step}
use Rattle.jdwp_engine.specs.Rounds.{IsAhead, id_in}
use Rattle.jdwp_engine.proofs.Advancing.{frozen-same, made-step, step-made}
use Rattle.jdwp_engine.proofs.Onward.{made-none, made-some}
use Rattle.jdwp_engine.proofs.stepping.step_one.Goals as goal

pub returns-in-Err-clause-memory : goal.returns-in-Err-clause-memory
returns-in-Err-clause-memory g c = ((c.args.thread.0, c.in-Err.ensures.steps.2, c.in-Err.ensures.steps.1), c.in-Err.ensures.steps.3)

pub returns-in-Frozen-clause-goes : goal.returns-in-Frozen-clause-goes
returns-in-Frozen-clause-goes g c = λ first opened p.
    let same = frozen-same g.M.Machine.meaning c.args.thread.0 c.args.target.now c.step.new.self _ (rw c.in-Frozen.is at c.in-Ok.ensures.steps) in
    rw same p

pub returns-in_default-clause-goes : goal.returns-in_default-clause-goes
returns-in_default-clause-goes g c = λ first opened p.
    let m = g.M.Machine.meaning in
    let old = c.args.target.now in
    let made = made-step m c.args.thread.0 old c.step.new.self c.in-Ok.stepped (is_paused old.end) (may_step m old.settings old.moment c.args.thread.0) c.in_default.not-Frozen c.in-Ok.ensures.steps in
    step-made m first old c.step.new.self c.args.thread.0 c.args.has_stepped c.closes_for_a_reason.ensures opened p made.0 made.1

pub returns-in-Frozen-clause-steps : goal.returns-in-Frozen-clause-steps
returns-in-Frozen-clause-steps g c = (c.in-Ok.stepped, c.in-Ok.ensures.steps, (c.in-Ok.ensures.encoded, c.in-Ok.ensures.packets), made-none c.args.has_stepped c.in-Ok.stepped c.in-Frozen.is)

pub returns-in_default-clause-steps : goal.returns-in_default-clause-steps
returns-in_default-clause-steps g c = (c.in-Ok.stepped, c.in-Ok.ensures.steps, (c.in-Ok.ensures.encoded, c.in-Ok.ensures.packets), made-some c.args.has_stepped c.in-Ok.stepped c.in_default.not-Frozen)

pub returns-in-Frozen-clause-ahead : goal.returns-in-Frozen-clause-ahead
returns-in-Frozen-clause-ahead g c = λ ahead.
    let same = frozen-same g.M.Machine.meaning c.args.thread.0 c.args.target.now c.step.new.self _ (rw c.in-Frozen.is at c.in-Ok.ensures.steps) in
    rw same ahead

pub returns-in_default-clause-ahead : goal.returns-in_default-clause-ahead
returns-in_default-clause-ahead g c = λ before.
    subst (λ (ids : List ℕ). IsAhead ids (id_in c.renew.new.self.last) c.renew.new.self.place) c.live.ensures.live c.renew.ensures.ahead
